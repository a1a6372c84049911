-- One more name of a catalogue.
use Rattle.std.proofs.Common.{◌≡◌, ℕ, suc, zero, ◌+◌, ◌<◌, ◌≤◌, drop, get_or, Bool, true, false, not, ◌||◌, List, [], ◌∷◌, ◌++◌, length, map, Some, Result, Ok, Err, Vec, bytes_eq, refl, sym, ap, subst, ◌∙◌, arith}
use Rattle.std.specs.Prelude.{IsTrue, is_ok, if◌then◌else◌}
use Rattle.std.specs.List.{list_any}
use Rattle.std.proofs.lemmas.List.{drop_more, length-map, map-append}
use Rattle.csv.specs.Records.{field_at}
use Rattle.tk_input.specs.Catalog.{IsFault, IsNameFault, is_name, names_of, only_field, some_names, with_name}
use Rattle.tk_input.specs.Records.{and_then, through}
use Rattle.tk_input.specs.declared.catalog.CatalogFault.{CatalogFault}
use Rattle.tk_input.specs.declared.catalog.CatalogFault.TheVariants.{BadName, BadRow, Empty, NoMemory, Repeated, TooMany}

-- the first field of a record that has one field
pub only_is : (fields : List (List ℕ)) → length fields ≡ 1 → field_at fields 0 ≡ only_field fields
unfolding field_at
only_is [] one = absurd (omega arith)
only_is (name ∷ []) one = refl
only_is (name ∷ more ∷ rest) one = absurd (omega arith)

-- a test of what elements become
pub list_any-map : {X Y : Type 0} (f : X → Y) (p : Y → Bool) (xs : List X) → list_any p (map f xs) ≡ list_any (λ x. p (f x)) xs
list_any-map f p [] = refl
list_any-map f p (x ∷ xs) = ap (λ (b : Bool). p (f x) || b) (list_any-map f p xs)

-- what a proper name adds
pub with_name-proper : (before : List (List ℕ)) (name : List ℕ) → is_name name ≡ true → with_name before (Some name) ≡ (if list_any (λ n. bytes_eq name n) before then Err (Repeated (length before + 1)) else Ok (before ++ name ∷ []))
with_name-proper before name proper =
    ap (λ (b : Bool). if not b then Err (BadName (length before + 1)) else (if list_any (λ n. bytes_eq name n) before then Err (Repeated (length before + 1)) else Ok (before ++ name ∷ []))) proper

-- one more name
pub names_of-push : {A : Type 0} (keys : List (Vec ℕ A)) (key : Vec ℕ A) → names_of (keys ++ key ∷ []) ≡ names_of keys ++ key.items ∷ []
names_of-push {A} keys key = map-append (λ (k : Vec ℕ A). k.items) keys (key ∷ [])

-- each key is a name
pub length-names_of : {A : Type 0} (keys : List (Vec ℕ A)) → length (names_of keys) ≡ length keys
length-names_of {A} keys = length-map keys (λ (k : Vec ℕ A). k.items)

-- a name is among the names where it is among the keys
pub any-names_of : {A : Type 0} (name : List ℕ) (keys : List (Vec ℕ A)) → list_any (λ n. bytes_eq name n) (names_of keys) ≡ list_any (λ k. bytes_eq name k.items) keys
any-names_of {A} name keys = list_any-map (λ (k : Vec ℕ A). k.items) (λ n. bytes_eq name n) keys

-- what comes of a fault is the fault
pub fault_ends : (r : Result (List (List ℕ)) CatalogFault) (e : CatalogFault) (further : List (List ℕ) → Result (List (List ℕ)) CatalogFault) → IsFault e r → IsFault e (and_then further r)
fault_ends r Empty further is = ap (and_then further) is
fault_ends r TooMany further is = ap (and_then further) is
fault_ends r (BadRow n) further is = ap (and_then further) is
fault_ends r (BadName n) further is = ap (and_then further) is
fault_ends r (Repeated n) further is = ap (and_then further) is
fault_ends r NoMemory further is = tt

record_fault : (r : Result (List (List ℕ)) CatalogFault) (e : CatalogFault) → IsNameFault e r → IsFault e r
record_fault r Empty is = is
record_fault r TooMany is = is
record_fault r (BadRow n) is = is
record_fault r (BadName n) is = is
record_fault r (Repeated n) is = is
record_fault r NoMemory is = tt

-- the fault of a row is that of them all
pub rows_fault : {R : Type 0} (step : List (List ℕ) → R → Result (List (List ℕ)) CatalogFault) (all : Result (List (List ℕ)) CatalogFault) (before : List (List ℕ)) (row : R) (rest rows : List R) (e : CatalogFault)
    → through step before rows ≡ all → rows ≡ row ∷ rest → IsNameFault e (step before row) → IsFault e all
unfolding through
rows_fault step all before row rest rows e same is fault =
    subst (λ (r : Result (List (List ℕ)) CatalogFault). IsFault e r) same
    (rw is (fault_ends (step before row) e (λ names. through step names rest) (record_fault (step before row) e fault)))

-- some names are a catalogue
pub some_is : (names : List (List ℕ)) → 0 < length names → some_names names ≡ Ok names
some_is [] some = absurd (omega arith)
some_is (name ∷ names) some = refl

-- no name is none
pub none_is : (names : List (List ℕ)) → length names ≡ 0 → some_names names ≡ Err Empty
none_is [] none = refl
none_is (name ∷ names) none = absurd (omega arith)

-- a list that is not empty has an element
pub not_none : (n : ℕ) (b : Bool) → (n ≡ 0 → IsTrue b) → b ≡ false → 0 < n
not_none zero b told is = let true_too = told refl in absurd (cc)
not_none (suc n) b told is = omega arith

-- a proper name that did not stand before is taken
pub fresh_is_taken : {A : Type 0} (keys : List (Vec ℕ A)) (name : List ℕ) → is_name name ≡ true → list_any (λ k. bytes_eq name k.items) keys ≡ false → IsTrue (is_ok (with_name (names_of keys) (Some name)))
fresh_is_taken {A} keys name proper fresh =
    ap (λ (r : Result (List (List ℕ)) CatalogFault). is_ok r)
    (with_name-proper (names_of keys) name proper
    ∙ ap (λ (b : Bool). if b then Err (Repeated (length (names_of keys) + 1)) else Ok (names_of keys ++ name ∷ [])) (any-names_of name keys ∙ fresh))

-- the names from a place on are that of the key there, and the others
pub next_key : {A : Type 0} (keys : List (Vec ℕ A)) (i : ℕ) (key : Vec ℕ A) → i < length keys → key ≡ get_or keys i key → names_of (drop i keys) ≡ key.items ∷ names_of (drop (i + 1) keys)
next_key {A} keys i key within is =
    ap (λ (ks : List (Vec ℕ A)). names_of ks) (drop_more keys i key within) ∙ ap (λ (k : Vec ℕ A). k.items ∷ names_of (drop (i + 1) keys)) (sym is)

-- behind the last key there is no name
pub none_left : {A : Type 0} (keys : List (Vec ℕ A)) (i : ℕ) → length keys ≤ i → names_of (drop i keys) ≡ []
none_left [] zero past = refl
none_left [] (suc i) past = refl
none_left (k ∷ keys) zero past = absurd (omega (arith, past))
none_left (k ∷ keys) (suc i) past = none_left keys i (omega (arith, past))
