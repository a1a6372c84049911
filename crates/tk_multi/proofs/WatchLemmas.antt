-- The objects that a query watches, and rows of places.
use Rattle.std.proofs.Common.{◌≡◌, ℕ, ◌+◌, ◌-◌, ◌<◌, ◌≤◌, true, List, [], ◌∷◌, ◌++◌, length, map, get_or, set, Option, Some, None, option_map, Vec, ap, sym, ◌∙◌, arith, ⊎_elim}
use Rattle.std.proofs.lemmas.List.{get_or-map, get_or_default, length-map, map-append, map-set}
use Rattle.std.specs.Prelude.{position, bytes_eq, slice_get}
use Rattle.std.proofs.lemmas.Option.{slice_get-get_or}
use Rattle.std.proofs.lemmas.Bool.{cases_lt}
use Rattle.std.proofs.lemmas.List.Quantifiers.{position-Some}
use Rattle.std.proofs.Math.ListN.{get_or-eq_default}
use Rattle.tk_base.specs.declared.ids.Obj.{Obj}
use Rattle.tk_base.proofs.OptionLemmas.{split_map}
use Rattle.tk_base.proofs.ListLemmas.{bytes_same}
use Rattle.tk_input.specs.Catalog.{AreDifferent, names_with, object_of}
use Rattle.tk_input.specs.Logs.{IsObject}
use Rattle.tk_multi.specs.Projection.{Numbers, anew, watch_of}

-- some objects as numbers
abbrev pub numbers_of : List (Option Obj) → List (Option ℕ)
numbers_of objects = map (λ o. option_map (λ obj. obj.0) o) objects

-- rows as lists
abbrev pub rows_in : {A : Type 0} → List (Vec ℕ A) → List (List ℕ)
rows_in rows = map (λ row. row.items) rows

pub rows_push : {A : Type 0} (rows : List (Vec ℕ A)) (row : Vec ℕ A) → rows_in (rows ++ row ∷ []) ≡ rows_in rows ++ row.items ∷ []
rows_push {A} rows row = map-append (λ (r : Vec ℕ A). r.items) rows (row ∷ [])

pub row_at : {A : Type 0} (rows : List (Vec ℕ A)) (row : Vec ℕ A) (view : List (List ℕ)) (i : ℕ) → rows_in rows ≡ view → row ≡ get_or rows i row → i < length view → get_or view i [] ≡ row.items
row_at {A} rows row view i is at within =
    ap (λ (v : List (List ℕ)). get_or v i []) (sym is)
    ∙ get_or-map (λ (r : Vec ℕ A). r.items) rows i row [] (let e = ap (λ (v : List (List ℕ)). length v) is in let f = length-map rows (λ (r : Vec ℕ A). r.items) in omega (arith, e, f, within))
    ∙ ap (λ (r : Vec ℕ A). r.items) (sym at)

-- one number of one row is raised
pub rows_set : {A : Type 0} (rows : List (Vec ℕ A)) (row new : Vec ℕ A) (view : List (List ℕ)) (i k n : ℕ) → rows_in rows ≡ view → row ≡ get_or rows i row → n ≡ get_or row.items k n
    → new.items ≡ set row.items k (n + 1) → i < length view → k < length row.items → rows_in (set rows i new) ≡ set view i (set (get_or view i []) k (get_or (get_or view i []) k 0 + 1))
rows_set {A} rows row new view i k n is at number made within below =
    let here = row_at rows row view i is at within in
    let value : get_or (get_or view i []) k 0 ≡ n = ap (λ (r : List ℕ). get_or r k 0) here ∙ get_or_default row.items k 0 n below ∙ sym number in
    map-set (λ (r : Vec ℕ A). r.items) rows i new
    ∙ ap (λ (v : List (List ℕ)). set v i new.items) is
    ∙ ap (λ (r : List ℕ). set view i r) (made ∙ ap (λ (r : List ℕ). set r k (n + 1)) (sym here) ∙ ap (λ (x : ℕ). set (get_or view i []) k (x + 1)) (sym value))

-- one more object has its number
pub numbers_push : (objects : List (Option Obj)) (o : Option Obj) → numbers_of (objects ++ o ∷ []) ≡ numbers_of objects ++ option_map (λ obj. obj.0) o ∷ []
numbers_push objects o = map-append (λ (x : Option Obj). option_map (λ (obj : Obj). obj.0) x) objects (o ∷ [])

-- ---- what a watch numbers anew

-- the object that a name finds has that name
pub found_name : (names : List (List ℕ)) (name : List ℕ) (n : ℕ) → object_of names name ≡ Some n → IsObject (length names) n × (bytes_eq name (get_or names (n - 1) []) ≡ true)
found_name names name n found =
    let at = split_map (position (λ x. bytes_eq name x) names) n found in
    let is = position-Some (λ x. bytes_eq name x) names at.0 [] at.1 in
    let place : n - 1 ≡ at.0 = (let e = at.2 in omega (arith, e)) in (
      (let e = at.2 in let w = is.0 in (omega (arith, e), omega (arith, e, w))),
      ap (λ (i : ℕ). bytes_eq name (get_or names i [])) place ∙ is.1,
    )

none_some : {n : ℕ} → None ≡ Some n → ⊥
none_some is = (cc)

some_same : (a b : ℕ) → Some a ≡ Some b → a ≡ b
some_same a b is = (cc)

-- what a watch numbers stands in the catalogue
anew_within : (watched names : List (List ℕ)) (o n : ℕ) → anew (map (object_of watched) names) o ≡ Some n → (o - 1 < length names) × (object_of watched (get_or names (o - 1) []) ≡ Some n)
anew_within watched names o n some = ⊎_elim
    (λ (within : o - 1 < length names). (within, sym (get_or-map (object_of watched) names (o - 1) [] None within) ∙ some))
    (λ (past : length names ≤ o - 1). absurd (none_some (sym (get_or-eq_default (map (object_of watched) names) None (let e = length-map names (object_of watched) in omega (arith, e, past))) ∙ some)))
    (cases_lt (o - 1) (length names))

pub numbers : (watched names : List (List ℕ)) → AreDifferent names → Numbers (length watched) (map (object_of watched) names)
numbers watched names differ = record {
  within = λ o n some. (found_name watched (get_or names (o - 1) []) n (anew_within watched names o n some).1).0;
  once = λ a b n from_a from_b some_a some_b.
      let x = anew_within watched names a n some_a in
      let y = anew_within watched names b n some_b in
      let same : get_or names (a - 1) [] ≡ get_or names (b - 1) [] =
      bytes_same (get_or names (a - 1) []) (get_or watched (n - 1) []) (found_name watched (get_or names (a - 1) []) n x.1).1 ∙ sym (bytes_same (get_or names (b - 1) []) (get_or watched (n - 1) []) (found_name watched (get_or names (b - 1) []) n y.1).1) in
      let at_a = differ a (from_a, (let w = x.0 in omega (arith, w, from_a))) in
      let at_b = differ b (from_b, (let w = y.0 in omega (arith, w, from_b))) in
      some_same a b (sym at_a ∙ ap (object_of names) same ∙ at_b);
}

-- a watched object has one name by both of its numbers
pub one_name : (prefix : List ℕ) (names : List (List ℕ)) (o n : ℕ) → anew (watch_of prefix names) o ≡ Some n → slice_get (names_with prefix names) (n - 1) ≡ slice_get names (o - 1)
one_name prefix names o n some =
    let watched = names_with prefix names in
    let x = anew_within watched names o n some in
    let y = found_name watched (get_or names (o - 1) []) n x.1 in
    slice_get-get_or watched (n - 1) [] (let e = y.0 in omega (arith, e))
    ∙ ap (λ (name : List ℕ). Some name) (sym (bytes_same (get_or names (o - 1) []) (get_or watched (n - 1) []) y.1))
    ∙ sym (slice_get-get_or names (o - 1) [] x.0)
