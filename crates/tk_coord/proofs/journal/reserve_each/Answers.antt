use Rattle.std.proofs.Common.{◌≡◌, ℕ, suc, ◌<◌, List, length, Some, refl, sym, ap, ◌∙◌, subst, arith, inl, inr, vec_len, vec_capacity, slice_set}
use Rattle.std.specs.Prelude.{slice_get}
use Rattle.std.specs.Global.{Vec}
use Rattle.std.proofs.lemmas.Option.{slice_get_read, slice_get_within}
use Rattle.tk_journal.specs.declared.noted.Noted.{Noted}
use Rattle.tk_journal.specs.Links.{sent_to}
use Rattle.tk_coord.specs.Journal.{IsIndex, AreIndexed}
use Rattle.tk_coord.proofs.ElementLemmas.{read_set}
use Rattle.tk_coord.proofs.journal.reserve_each.Goals as goal

-- lists that hold what they held are indexed as they were
still : (journal : List Noted) (old new : List (Vec ℕ)) → ((j : ℕ) (v : Vec ℕ) → slice_get new j ≡ Some v → (w : Vec ℕ) × (slice_get old j ≡ Some w) × (v.items ≡ w.items))
    → AreIndexed journal old → AreIndexed journal new
still journal old new kept at j v is =
    let (w, here, same) = kept j v is in
    subst (λ (l : List ℕ). IsIndex (sent_to (suc j)) journal l) (sym same) (at j w here)

-- a list written over with one that holds the same
written : (old now : List (Vec ℕ)) (i : ℕ) (x y : Vec ℕ) → i < length now → slice_get now i ≡ Some x → y.items ≡ x.items
    → ((j : ℕ) (v : Vec ℕ) → slice_get now j ≡ Some v → (w : Vec ℕ) × (slice_get old j ≡ Some w) × (v.items ≡ w.items)) → (j : ℕ) (v : Vec ℕ) → slice_get (slice_set now i y) j ≡ Some v
    → (w : Vec ℕ) × (slice_get old j ≡ Some w) × (v.items ≡ w.items)
written old now i x y within there same kept j v is = elim (read_set now i j y v within is) [
  | inl here ↦
      let (w, old_is, items) = kept i x there in
      (w, ap (λ k. slice_get old k) here.0 ∙ old_is, ap (λ (u : Vec ℕ). u.items) here.1 ∙ same ∙ items)
  | inr other ↦ kept j v other.1
]

pub returns-in_err-reserve-clause-kept : goal.returns-in_err-reserve-clause-kept
returns-in_err-reserve-clause-kept c = λ journal.
    let within : c.loop-places.places-index < length c.loop-places.sent = omega arith in
    still journal c.args.sent.now (slice_set c.loop-places.sent c.loop-places.places-index c.reserve.new.self)
    (written c.args.sent.now c.loop-places.sent c.loop-places.places-index c.places-item.result c.reserve.new.self within
    (slice_get_read c.loop-places.sent (length c.loop-places.sent) c.loop-places.places-index c.places-item.result refl within c.places-item.is)
    (c.reserve.ensures.items ∙ ap (λ v. v.items) (sym c.places-item.is)) c.loop-places.invariant.kept)

pub loop-places-preserved : goal.loop-places-preserved
loop-places-preserved c =
    let within : c.loop-places.places-index < length c.loop-places.sent = omega arith in
    let there : slice_get c.loop-places.sent c.loop-places.places-index ≡ Some c.places-item.result =
    slice_get_read c.loop-places.sent (length c.loop-places.sent) c.loop-places.places-index c.places-item.result refl within c.places-item.is in
    record {
      room = λ j v below is. elim (read_set c.loop-places.sent c.loop-places.places-index j c.reserve.new.self v within is) [
        | inl here ↦
            let l : vec_len v ≡ vec_len c.reserve.new.self = ap vec_len here.1 in
            let k : vec_capacity v ≡ vec_capacity c.reserve.new.self = ap vec_capacity here.1 in
            omega (arith, c.in_ok-reserve.ensures.ok)
        | inr other ↦ c.loop-places.invariant.room j v (omega (arith, other.0)) other.1
      ];
      kept = written c.args.sent.now c.loop-places.sent c.loop-places.places-index c.places-item.result c.reserve.new.self within there
          (c.reserve.ensures.items ∙ ap (λ v. v.items) (sym c.places-item.is)) c.loop-places.invariant.kept;
    }

pub returns-clause-room : goal.returns-clause-room
returns-clause-room c = λ j v is. c.loop-places.invariant.room j v (omega (arith, slice_get_within c.loop-places.sent j v is)) is

pub returns-clause-kept : goal.returns-clause-kept
returns-clause-kept c = λ journal. still journal c.args.sent.now c.loop-places.sent c.loop-places.invariant.kept
