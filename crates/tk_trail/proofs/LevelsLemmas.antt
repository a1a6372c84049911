-- Levels of a trail, and what one more entry does to them.
use Rattle.std.proofs.Common.{◌≡◌, ℕ, ◌≤◌, ◌-◌, ◌==◌, cond, List, [], ◌∷◌, ◌++◌, length, get_or, set, Some, refl, sym, ap, ◌∙◌, arith, ne_eqb, eq-eqb}
use Rattle.std.specs.Prelude.{ℤ, pos, ◌+ℤ◌, unsigned_abs, slice_get, unwrap_or, nat_lt}
use Rattle.std.specs.List.{list_all, zip}
use Rattle.std.proofs.lemmas.Int.{ints}
use Rattle.std.proofs.lemmas.List.FromFn.{length-map-range_with_len, get_or-map-range_with_len}
use Rattle.tk_base.specs.Objects.{objects}
use Rattle.tk_base.specs.Pairs.{value_at}
use Rattle.tk_base.specs.declared.ids.Feeder.{Feeder}
use Rattle.tk_frames.specs.declared.frame.Frame.{Frame}
use Rattle.tk_frames.specs.declared.frame.Frame.TheVariants as f
use Rattle.tk_input.specs.Logs.{value_of, weight_of}
use Rattle.tk_border.specs.Levels.{broken, border, level_at}
use Rattle.tk_frames.specs.Assigns.{Assign, row, members_of}
use Rattle.tk_frames.proofs.AssignsLemmas.{row-push}
use Rattle.tk_trail.specs.Setup.{MonitorSetup, IsSetup}
use Rattle.tk_trail.specs.Readings.{assigns_of, seq_of, members_at, places_at, at_ends, value_of_object, level_of, values_of, levels_of, broken_at, is_broken}
use Rattle.tk_trail.specs.Frames.{values_at, values_over, border_over}
use Rattle.tk_trail.specs.Legal.{HasNext, place_of}
use Rattle.tk_trail.specs.declared.entry.Entry.{Entry}
use Rattle.tk_trail.specs.declared.entry.Entry.TheVariants.{Raised, Took, Sent}
use Rattle.tk_trail.proofs.MappedLemmas.{mapped_one, mapped_same}
use Rattle.tk_trail.proofs.PlacesLemmas.{places_at-raised, places_at-took, places_at-sent, length-places_at}
use Rattle.tk_trail.proofs.ReadingsLemmas.{assigns_of-raised, assigns_of-sent, assigns_of-assign}
use Rattle.tk_trail.proofs.ValuesLemmas.{value_of-set, share_of}
use Rattle.tk_input.proofs.SumLemmas.{value_of-size as value_of-small}

-- two trails with the same places and the same Assigns
pub record Same (setup : MonitorSetup) (a b : List Entry) : Type 0 where
  pub places : places_at setup a ≡ places_at setup b
  pub assigns : assigns_of a ≡ assigns_of b

pub value-same : (setup : MonitorSetup) (a b : List Entry) → Same setup a b → (o : ℕ) → value_of_object setup a o ≡ value_of_object setup b o
unfolding value_of_object
value-same setup a b same o = ap (λ places. value_of setup.parts places o) same.places

pub level-same : (setup : MonitorSetup) (a b : List Entry) → Same setup a b → (o : ℕ) → level_of setup a o ≡ level_of setup b o
unfolding level_of
level-same setup a b same o =
    let value : value_of_object setup a o ≡ value_of_object setup b o = value-same setup a b same o in
    let factor : row (assigns_of a) o ≡ row (assigns_of b) o = ap (λ assigns. row assigns o) same.assigns in
    cc

pub values-same : (setup : MonitorSetup) (a b : List Entry) → Same setup a b → values_of setup a ≡ values_of setup b
unfolding values_of objects
values-same setup a b same = mapped_same (value_of_object setup b) (value_of_object setup a) 1 setup.objects (λ o low high. value-same setup a b same o)

pub levels-same : (setup : MonitorSetup) (a b : List Entry) → Same setup a b → levels_of setup a ≡ levels_of setup b
unfolding levels_of objects
levels-same setup a b same = mapped_same (level_of setup b) (level_of setup a) 1 setup.objects (λ o low high. level-same setup a b same o)

pub members-same : (setup : MonitorSetup) (a b : List Entry) → Same setup a b → members_at a ≡ members_at b
members-same setup a b same = ap members_of same.assigns

pub seq-same : (setup : MonitorSetup) (a b : List Entry) → Same setup a b → seq_of a ≡ seq_of b
seq-same setup a b same = ap (λ (assigns : List Assign). length assigns) same.assigns

pub broken-same : (setup : MonitorSetup) (a b : List Entry) → Same setup a b → broken_at setup a ≡ broken_at setup b
unfolding broken_at
broken-same setup a b same =
    ap (λ levels. broken levels (members_at a)) (levels-same setup a b same) ∙ ap (λ members. broken (levels_of setup b) members) (members-same setup a b same)

pub is_broken-same : (setup : MonitorSetup) (a b : List Entry) → Same setup a b → is_broken setup a ≡ is_broken setup b
is_broken-same setup a b same = ap (λ (os : List ℕ). nat_lt 0 (length os)) (broken-same setup a b same)

pub ends-same : (setup : MonitorSetup) (a b : List Entry) → Same setup a b → at_ends setup a ≡ at_ends setup b
unfolding at_ends
ends-same setup a b same = ap (λ places. list_all (λ (p : List (ℕ × ℤ) × ℕ). p.1 == length p.0) (zip setup.parts places)) same.places

-- what a frame taken or sent leaves
pub same-took : (setup : MonitorSetup) (trail : List Entry) (frame : Frame) → assigns_of (trail ++ Took frame ∷ []) ≡ assigns_of trail → Same setup (trail ++ Took frame ∷ []) trail
same-took setup trail frame assigns = record { places = places_at-took setup trail frame; assigns = assigns }

pub same-sent : (setup : MonitorSetup) (trail : List Entry) (frame : Frame) → Same setup (trail ++ Sent frame ∷ []) trail
same-sent setup trail frame = record { places = places_at-sent setup trail frame; assigns = assigns_of-sent trail frame }

-- one level for each object
pub length-levels_of : (setup : MonitorSetup) (trail : List Entry) → length (levels_of setup trail) ≡ setup.objects
unfolding levels_of objects
length-levels_of setup trail = length-map-range_with_len (level_of setup trail) 1 setup.objects

pub level_at-levels_of : (setup : MonitorSetup) (trail : List Entry) (o : ℕ) → 1 ≤ o → o ≤ setup.objects → level_at (levels_of setup trail) o ≡ level_of setup trail o
unfolding levels_of objects
level_at-levels_of setup trail o low high = get_or-map-range_with_len (level_of setup trail) 1 setup.objects (o - 1) o (pos 0) (omega arith) (omega arith)

pub level_at-values_of : (setup : MonitorSetup) (trail : List Entry) (o : ℕ) → 1 ≤ o → o ≤ setup.objects → level_at (values_of setup trail) o ≡ value_of_object setup trail o
unfolding values_of objects
level_at-values_of setup trail o low high = get_or-map-range_with_len (value_of_object setup trail) 1 setup.objects (o - 1) o (pos 0) (omega arith) (omega arith)

-- a raise moves value and level of one object
pub value-raised : (setup : MonitorSetup) (trail : List Entry) (feeder : Feeder) (c : ℕ × ℤ) → length setup.from ≡ length setup.parts → HasNext setup trail feeder.0 → slice_get (get_or setup.parts (feeder.0 - 1) []) (place_of setup trail feeder.0) ≡ Some c → (o : ℕ) → value_of_object setup (trail ++ Raised feeder ∷ []) o ≡ value_of_object setup trail o +ℤ share_of o c
unfolding value_of_object
value-raised setup trail feeder c shape next got o =
    ap (λ places. value_of setup.parts places o) (places_at-raised setup trail feeder next.from_one)
    ∙ value_of-set setup.parts (places_at setup trail) (feeder.0 - 1) o c (omega (arith, next.from_one, next.one_of)) (omega (arith, next.from_one, next.one_of, shape, length-places_at setup trail)) got

pub share_none : (q : ℕ) (c : ℕ × ℤ) → (q ≡ c.0 → ⊥) → share_of q c ≡ pos 0
share_none q c apart = ap (λ b. cond b c.1 (pos 0)) (ne_eqb c.0 q (λ is. apart (sym is)))

pub share_own : (c : ℕ × ℤ) → share_of c.0 c ≡ c.1
share_own c = ap (λ b. cond b c.1 (pos 0)) (eq-eqb c.0 c.0 refl)

pub level-raised : (setup : MonitorSetup) (trail : List Entry) (feeder : Feeder) (c : ℕ × ℤ) → length setup.from ≡ length setup.parts → HasNext setup trail feeder.0 → slice_get (get_or setup.parts (feeder.0 - 1) []) (place_of setup trail feeder.0) ≡ Some c → (o : ℕ) → level_of setup (trail ++ Raised feeder ∷ []) o ≡ level_of setup trail o +ℤ share_of o c
unfolding level_of
level-raised setup trail feeder c shape next got o =
    omega (
      arith,
      ints,
      value-raised setup trail feeder c shape next got o,
      ap (λ assigns. row assigns o) (assigns_of-raised trail feeder),
    )

-- where one value or level changes, one place of the list does
pub values-one : (setup : MonitorSetup) (a b : List Entry) (o : ℕ) → 1 ≤ o → o ≤ setup.objects → ((q : ℕ) → (q ≡ o → ⊥) → value_of_object setup b q ≡ value_of_object setup a q) → values_of setup b ≡ set (values_of setup a) (o - 1) (value_of_object setup b o)
unfolding values_of objects
values-one setup a b o low high others = mapped_one (value_of_object setup a) (value_of_object setup b) 1 setup.objects o low (omega arith) others

pub levels-one : (setup : MonitorSetup) (a b : List Entry) (o : ℕ) → 1 ≤ o → o ≤ setup.objects → ((q : ℕ) → (q ≡ o → ⊥) → level_of setup b q ≡ level_of setup a q) → levels_of setup b ≡ set (levels_of setup a) (o - 1) (level_of setup b o)
unfolding levels_of objects
levels-one setup a b o low high others = mapped_one (level_of setup a) (level_of setup b) 1 setup.objects o low (omega arith) others

pub values-raised : (setup : MonitorSetup) (trail : List Entry) (feeder : Feeder) (c : ℕ × ℤ) → length setup.from ≡ length setup.parts → HasNext setup trail feeder.0 → slice_get (get_or setup.parts (feeder.0 - 1) []) (place_of setup trail feeder.0) ≡ Some c → 1 ≤ c.0 → c.0 ≤ setup.objects → values_of setup (trail ++ Raised feeder ∷ []) ≡ set (values_of setup trail) (c.0 - 1) (level_at (values_of setup trail) c.0 +ℤ c.1)
values-raised setup trail feeder c shape next got low high =
    let own : value_of_object setup (trail ++ Raised feeder ∷ []) c.0 ≡ level_at (values_of setup trail) c.0 +ℤ c.1 = omega (arith, ints, value-raised setup trail feeder c shape next got c.0, level_at-values_of setup trail c.0 low high, share_own c) in
    values-one setup trail (trail ++ Raised feeder ∷ []) c.0 low high (λ q apart. omega (arith, ints, value-raised setup trail feeder c shape next got q, share_none q c apart))
    ∙ ap (λ (z : ℤ). set (values_of setup trail) (c.0 - 1) z) own

pub levels-raised : (setup : MonitorSetup) (trail : List Entry) (feeder : Feeder) (c : ℕ × ℤ) → length setup.from ≡ length setup.parts → HasNext setup trail feeder.0 → slice_get (get_or setup.parts (feeder.0 - 1) []) (place_of setup trail feeder.0) ≡ Some c → 1 ≤ c.0 → c.0 ≤ setup.objects → levels_of setup (trail ++ Raised feeder ∷ []) ≡ set (levels_of setup trail) (c.0 - 1) (level_at (levels_of setup trail) c.0 +ℤ c.1)
levels-raised setup trail feeder c shape next got low high =
    let own : level_of setup (trail ++ Raised feeder ∷ []) c.0 ≡ level_at (levels_of setup trail) c.0 +ℤ c.1 = omega (arith, ints, level-raised setup trail feeder c shape next got c.0, level_at-levels_of setup trail c.0 low high, share_own c) in
    levels-one setup trail (trail ++ Raised feeder ∷ []) c.0 low high (λ q apart. omega (arith, ints, level-raised setup trail feeder c shape next got q, share_none q c apart))
    ∙ ap (λ (z : ℤ). set (levels_of setup trail) (c.0 - 1) z) own

pub level-assign : (setup : MonitorSetup) (trail : List Entry) (seq : ℕ) (members : List ℕ) (changes : List (ℕ × ℤ)) (o : ℕ) → level_of setup (trail ++ Took (f.Assign seq members changes) ∷ []) o ≡ value_of_object setup trail o +ℤ unwrap_or (value_at changes o) (row (assigns_of trail) o)
unfolding level_of value_of_object
level-assign setup trail seq members changes o =
    let value : value_of setup.parts (places_at setup (trail ++ Took (f.Assign seq members changes) ∷ [])) o ≡ value_of setup.parts (places_at setup trail) o = ap (λ places. value_of setup.parts places o) (places_at-took setup trail (f.Assign seq members changes)) in
    let factor : row (assigns_of (trail ++ Took (f.Assign seq members changes) ∷ [])) o ≡ unwrap_or (value_at changes o) (row (assigns_of trail) o) =
    ap (λ assigns. row assigns o) (assigns_of-assign trail seq members changes) ∙ row-push (assigns_of trail) (record { members = members; changes = changes }) o in
    cc

-- a value keeps within its limit
pub value-small : (setup : MonitorSetup) → IsSetup setup → (trail : List Entry) (o : ℕ) → unsigned_abs (value_of_object setup trail o) ≤ weight_of setup.parts o
unfolding value_of_object
value-small setup is trail o = value_of-small setup.parts (places_at setup trail) o

-- the same frames are due over the same places and Assigns
pub values_over-same : (setup : MonitorSetup) (a b : List Entry) → Same setup a b → (asked : List ℕ) → values_over setup a asked ≡ values_over setup b asked
values_over-same setup a b same [] = refl
values_over-same setup a b same (o ∷ asked) =
    let value : value_of_object setup a o ≡ value_of_object setup b o = value-same setup a b same o in
    let rest : values_over setup a asked ≡ values_over setup b asked = values_over-same setup a b same asked in
    cc

pub border_over-same : (setup : MonitorSetup) (a b : List Entry) → Same setup a b → (asked : List ℕ) → border_over setup a asked ≡ border_over setup b asked
border_over-same setup a b same asked =
    ap (λ levels. border levels (members_at a) asked) (levels-same setup a b same) ∙ ap (λ members. border (levels_of setup b) members asked) (members-same setup a b same)

pub values_at-same : (setup : MonitorSetup) (a b : List Entry) → Same setup a b → (round : ℕ) (asked : List ℕ) → values_at setup a round asked ≡ values_at setup b round asked
unfolding values_at
values_at-same setup a b same round asked =
    let seq : seq_of a ≡ seq_of b = seq-same setup a b same in
    let border : border_over setup a asked ≡ border_over setup b asked = border_over-same setup a b same asked in
    let values : values_over setup a asked ≡ values_over setup b asked = values_over-same setup a b same asked in
    cc
