use Rattle.std.proofs.Common.{◌≡◌, ℕ, ℤ, not, Bool, arith, length, get_or, pos, sym, ap, ◌∙◌, ◌<◌}
use Rattle.std.proofs.lemmas.List.{get_or_default, map-append}
use Rattle.tk_base.specs.declared.ids.Obj.{Obj}
use Rattle.tk_base.specs.Ascending.{numbers_of}
use Rattle.tk_alloc.specs.declared.candidate.Candidate.{Candidate}
use Rattle.tk_alloc.specs.Candidates.{candidate, comes_first}
use Rattle.tk_alloc.proofs.PickLemmas.{kept_more, left_more}
use Rattle.tk_alloc.proofs.picking.first_ones.Goals.{then-not-is_past+in_ok-push, else-not-is_past}
use Rattle.tk_alloc.proofs.picking.first_ones.Goals as goal

pub loop-place-preserved : goal.loop-place-preserved
loop-place-preserved c =
    let p = get_or c.args.totals.now c.loop-place.place (0, pos 0) in
    let keep : ℕ × ℤ → Bool = λ q. not (comes_first c.args.last (candidate c.args.old.now q)) in
    let within : c.loop-place.place < length c.args.totals.now = omega (arith, c.len-place-end.ensures.value) in
    let read : p ≡ get_or c.args.totals.now c.loop-place.place p = get_or_default c.args.totals.now c.loop-place.place (0, pos 0) p within in
    let tested : comes_first c.args.last (candidate c.args.old.now p) ≡ c.is_past.result = sym (c.is_past.ensures ∙ ap (comes_first c.args.last) c.candidate_at-candidate.ensures) in
    let obj : c.candidate_at-candidate.result.obj ≡ p.0 = ap (λ (d : Candidate). d.obj) c.candidate_at-candidate.ensures in
    elim c.if-not-is_past.branch [
      | then-not-is_past+in_ok-push w ↦
          rw (w.list-is, w.in_ok-push.ensures.items, map-append {B = ℕ} (λ (o : Obj). o.0) c.loop-place.list.items, obj)
          (kept_more keep c.args.totals.now c.loop-place.place p (numbers_of c.loop-place.list.items) within read (ap not (tested ∙ w.if-not-is_past.true)) c.loop-place.invariant)
      | else-not-is_past w ↦
          rw w.list-is (left_more keep c.args.totals.now c.loop-place.place p (numbers_of c.loop-place.list.items) within read (ap not (tested ∙ w.if-not-is_past.false)) c.loop-place.invariant)
    ]
