-- An order whose retunes are tested one after the other.
use Rattle.std.proofs.Common.{◌≡◌, ℕ, suc, ◌+◌, ◌<◌, ◌≤◌, List, ◌∷◌, length, drop, get_or, Option, Some, None, Ok, Err, add-one, refl, sym, ap, ◌∙◌, arith}
use Rattle.std.specs.List.{slice_get, zip}
use Rattle.std.proofs.Math.ListN.{drop_of_length-le}
use Rattle.std.proofs.Math.Seq.{drop-cons}
use Rattle.std.proofs.lemmas.Option.{get_or_from_slice_get, slice_get_within}
use Rattle.std.proofs.lemmas.Slice.Zip.{get_or-zip, length-zip}
use Rattle.tk_base.specs.Settings.{Setup}
use Rattle.tk_input.specs.Order.{OrderView}
use Rattle.tk_input.specs.Records.{and_then, through}
use Rattle.tk_input.specs.declared.event.Event.{Event}
use Rattle.tk_input.proofs.ThroughLemmas.{through-fault, through-none, through-some}
use Rattle.tk_load.specs.Faults.Fault.{Bad}
use Rattle.tk_load.specs.Input.{bad_line, order_from, order_in, retune_kind, retune_tested, retunes_tested}
use Rattle.tk_load.specs.Reads.{FileReads, Reads, ReadsOrder, Says, Tells}
use Rattle.tk_load.specs.declared.status.InputKind.{InputKind}
use Rattle.tk_load.specs.declared.status.Status.{Status}
use Rattle.tk_load.proofs.FaultLemmas.{tells_of, tells_on}

-- the pair at a place, and those behind it
pub zipped_at : {A B : Type 0} (xs : List A) (ys : List B) (i : ℕ) (x : A) (y : B) → slice_get xs i ≡ Some x → slice_get ys i ≡ Some y → drop i (zip xs ys) ≡ (x, y) ∷ drop (suc i) (zip xs ys)
zipped_at {A = A} {B = B} xs ys i x y at_x at_y =
    let in_x = slice_get_within xs i x at_x in
    let in_y = slice_get_within ys i y at_y in
    let within : i < length (zip xs ys) = omega (arith, length-zip xs ys, in_x, in_y) in
    drop-cons (zip xs ys) i (x, y) within
    ∙ ap (λ (p : A × B). p ∷ drop (suc i) (zip xs ys)) (get_or-zip xs ys i (x, y) in_x in_y ∙ ap (λ (a : A). (a, get_or ys i y)) (get_or_from_slice_get xs i x x at_x) ∙ ap (λ (b : B). (x, b)) (get_or_from_slice_get ys i y y at_y))

-- what is no value is none
pub none_of : {A : Type 0} (o : Option A) → ((x : A) → o ≡ Some x → ⊥) → o ≡ None
none_of None other = refl
none_of (Some x) other = absurd (other x refl)

-- the pairs that are left once those before pass
module _ (s : Setup) (name : List ℕ) (order : OrderView) (i : ℕ) (event : Event) (line : ℕ) (at_event : slice_get order.events i ≡ Some event) (at_line : slice_get order.lines i ≡ Some line)
    (before : through (retune_tested s name) tt (drop i (zip order.events order.lines)) ≡ retunes_tested s name order) where
  pub one_passes : retune_kind s event ≡ None → through (retune_tested s name) tt (drop (i + 1) (zip order.events order.lines)) ≡ retunes_tested s name order
  one_passes none =
      sym (through-some (retune_tested s name) tt tt (event, line) (drop (i + 1) (zip order.events order.lines)) (drop i (zip order.events order.lines))
      (zipped_at order.events order.lines i event line at_event at_line ∙ ap (λ (n : ℕ). (event, line) ∷ drop n (zip order.events order.lines)) (sym (add-one i)))
      (ap (bad_line name line) none))
      ∙ before

  pub one_refused : (kind : InputKind) (status : Status) → Some kind ≡ retune_kind s event → Says status (Bad name line kind) → Tells status (retunes_tested s name order)
  one_refused kind status some says =
      tells_of status (Bad name line kind) (retunes_tested s name order) says
      (sym before ∙ through-fault (retune_tested s name) tt (event, line) (drop (suc i) (zip order.events order.lines)) (drop i (zip order.events order.lines)) (Bad name line kind)
      (zipped_at order.events order.lines i event line at_event at_line) (ap (bad_line name line) (sym some)))

-- no pair is left
pub all_pass : (s : Setup) (name : List ℕ) (order : OrderView) (i : ℕ) → length order.events ≤ i → through (retune_tested s name) tt (drop i (zip order.events order.lines)) ≡ retunes_tested s name order → retunes_tested s name order ≡ Ok tt
all_pass s name order i ends before =
    sym before ∙ through-none (retune_tested s name) tt (drop i (zip order.events order.lines)) (drop_of_length-le (zip order.events order.lines) (omega (arith, length-zip order.events order.lines)))

-- the order of the words, where they name a file of one
module _ (s : Setup) (reads : FileReads) (named : Option (List ℕ)) (name : List ℕ) (is : named ≡ Some name) where
  pub order_found : (order : OrderView) → Reads reads name (λ (o : OrderView). o) (order_from s) (Ok order) → ReadsOrder reads named (order_in s) (Ok (Some order))
  order_found order given = record {
    file = Some (record { name = name; content = given.content });
    is_of = sym is;
    read = given.read;
    meets = ap (and_then (λ (o : OrderView). Ok (Some o))) given.meets;
  }

  pub order_refused : (status : Status) → Reads reads name (λ (o : OrderView). o) (order_from s) (Err status) → ReadsOrder reads named (order_in s) (Err status)
  order_refused status given = record {
    file = Some (record { name = name; content = given.content });
    is_of = sym is;
    read = given.read;
    meets = tells_on status (order_from s (record { name = name; content = given.content })) (λ (o : OrderView). Ok (Some o)) given.meets;
  }
