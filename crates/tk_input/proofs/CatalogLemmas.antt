-- A catalogue is of the names from which it is made.
use Rattle.std.proofs.Common.{◌≡◌, ℕ, ◌+◌, ◌<◌, Bool, true, false, not, ◌&&◌, cond, All, List, [], ◌∷◌, ◌++◌, length, Option, Some, None, Result, Ok, Err, bytes_eq, refl, sym, ap, subst, ◌∙◌, append_assoc, append-nil, arith}
use Rattle.std.specs.Prelude.{nat_le, nat_lt}
use Rattle.std.specs.List.{list_all, list_any}
use Rattle.std.proofs.lemmas.Bool.{leb-true, and_parts, not-false}
use Rattle.std.proofs.lemmas.List.Elements.{All-cons, All-nil, All-weaker}
use Rattle.tk_input.specs.Catalog.{catalog_from, catalog_of, is_name, name_added, next_name, only_field, some_names, with_name}
use Rattle.tk_input.specs.Records.{and_then, records_in, through}
use Rattle.tk_input.specs.declared.catalog.CatalogFault.{CatalogFault}
use Rattle.tk_input.specs.declared.catalog.CatalogFault.TheVariants.{BadName, BadRow, Repeated, TooMany}

-- one name more
abbrev adds : List (List ℕ) → List ℕ → Result (List (List ℕ)) CatalogFault
adds before name = next_name before (Some name)

-- one value
abbrev pub ok : {A E : Type 0} → A → Result A E
ok x = Ok x

-- a value that is a result's
pub ok_is : {A E : Type 0} (x y : A) → ok {E = E} x ≡ Ok y → x ≡ y
ok_is x y e = cc

-- a test that was passed on the way to a value
pub unless_true : {A E : Type 0} (b : Bool) (e : E) (r : Result A E) (x : A) → cond b (Err e) r ≡ Ok x → (b ≡ false) × (r ≡ Ok x)
unless_true true e r x is = absurd cc
unless_true false e r x is = (refl, is)

-- a name that was taken
one_added : (before : List (List ℕ)) (name : List ℕ) (after : List (List ℕ)) → adds before name ≡ Ok after → (after ≡ before ++ name ∷ []) × (is_name name ≡ true)
one_added before name after e =
    let a = unless_true (nat_le 65536 (length before)) TooMany (with_name before (Some name)) after e in
    let b = unless_true (not (is_name name)) (BadName (length before + 1)) _ after a.1 in
    let c = unless_true (list_any (λ n. bytes_eq name n) before) (Repeated (length before + 1)) (Ok (before ++ name ∷ [])) after b.1 in
    (sym (ok_is (before ++ name ∷ []) after c.1), not-false (is_name name) b.0)

-- a result of two steps
pub then_is : {A B E : Type 0} (further : A → Result B E) (r : Result A E) (y : B) → and_then further r ≡ Ok y → (x : A) × (r ≡ Ok x) × (further x ≡ Ok y)
then_is further (Ok x) y e = (x, refl, e)
then_is further (Err e) y is = absurd cc

-- names that were taken in turn
all_added : (before names after : List (List ℕ)) → through adds before names ≡ Ok after → (after ≡ before ++ names) × All (λ n. is_name n ≡ true) names
unfolding through
all_added before [] after e = (sym (ok_is before after e) ∙ sym (append-nil before), All-nil (λ n. is_name n ≡ true))
all_added before (name ∷ names) after e =
    let a = then_is (λ next. through adds next names) (adds before name) after e in
    let one = one_added before name a.0 a.1 in
    let more = all_added a.0 names after a.2 in
    (more.0 ∙ ap (λ (front : List (List ℕ)). front ++ names) one.0 ∙ append_assoc before (name ∷ []) names, All-cons (λ n. is_name n ≡ true) name names one.1 more.1)

some_is_all : (names all : List (List ℕ)) → some_names names ≡ Ok all → names ≡ all
some_is_all [] all e = absurd cc
some_is_all (name ∷ names) all e = ok_is (name ∷ names) all e

-- a catalogue has the names from which it is made, and each is one
pub catalogue_is : (names all : List (List ℕ)) → catalog_from names ≡ Ok all → (names ≡ all) × All (λ n. is_name n ≡ true) names
catalogue_is names all e =
    let a = then_is some_names (through adds [] names) all e in
    let b = all_added [] names a.0 a.1 in
    (sym b.0 ∙ some_is_all a.0 all a.2, b.1)

-- a name fits behind a length of one byte
name_fits : (bytes : List ℕ) → is_name bytes ≡ true → length bytes < 256
name_fits bytes is =
    let a = and_parts (nat_lt 0 (length bytes) && nat_le (length bytes) 255) (list_all (λ b. nat_le 0x21 b && nat_le b 0x7e) bytes) is in
    let b = and_parts (nat_lt 0 (length bytes)) (nat_le (length bytes) 255) a.0 in
    omega (arith, leb-true (length bytes) 255 b.1)

-- every name of a catalogue does
pub names_fit : (names : List (List ℕ)) → catalog_from names ≡ Ok names → All (λ bytes. length bytes < 256) names
names_fit names is = All-weaker (λ n. is_name n ≡ true) (λ bytes. length bytes < 256) name_fits names (catalogue_is names names is).1

-- ---- catalogues, however they were made

field_added : (before : List (List ℕ)) (field : Option (List ℕ)) (after : List (List ℕ)) → next_name before field ≡ Ok after → (name : List ℕ) × (adds before name ≡ Ok after)
field_added before None after e = let a = unless_true (nat_le 65536 (length before)) TooMany (with_name before None) after e in absurd (no_value (BadRow (length before + 1)) after a.1)
  where
    no_value : (fault : CatalogFault) (x : List (List ℕ)) → Err fault ≡ ok x → ⊥
    no_value fault x e = absurd cc
field_added before (Some name) after e = (name, e)

-- the names that the records of a file have
file_added : (before : List (List ℕ)) (rows : List (List (List ℕ))) (after : List (List ℕ)) → through name_added before rows ≡ Ok after → (names : List (List ℕ)) × (through adds before names ≡ Ok after)
unfolding through
file_added before [] after e = ([], e)
file_added before (fields ∷ rows) after e =
    let a = then_is (λ next. through name_added next rows) (name_added before fields) after e in
    let one = field_added before (only_field fields) a.0 a.1 in
    let others = file_added a.0 rows after a.2 in
    (one.0 ∷ others.0, ap (λ r. and_then (λ next. through adds next others.0) r) one.1 ∙ others.1)

-- the names of a catalogue are one
pub catalogue_again : (names all : List (List ℕ)) → catalog_from names ≡ Ok all → catalog_from all ≡ Ok all
catalogue_again names all e = subst (λ (ns : List (List ℕ)). catalog_from ns ≡ Ok all) (catalogue_is names all e).0 e

-- so are those of one that was read
pub catalogue_read : (bytes : List ℕ) (all : List (List ℕ)) → catalog_of bytes ≡ Ok all → catalog_from all ≡ Ok all
catalogue_read bytes all e =
    let a = then_is some_names (through name_added [] (records_in bytes)) all e in
    let names = file_added [] (records_in bytes) a.0 a.1 in
    catalogue_again names.0 all (ap (and_then some_names) names.1 ∙ a.2)
