use Rattle.std.proofs.Common.{◌≡◌, ◌+◌, sym, ap, ◌∙◌, subst, arith, FitsSigned}
use Rattle.std.specs.Int.{w128}
use Rattle.std.proofs.lemmas.Int.{ints, to_z-of_z}
use Rattle.tk_base.specs.Objects.{is_in}
use Rattle.tk_border.specs.Levels.{raised}
use Rattle.tk_alloc.proofs.PartLemmas.{object_read}
use Rattle.tk_alloc.proofs.ShortTestLemmas.{IsLead, lead_kept, lead_more, object_at}
use Rattle.tk_alloc.proofs.short_round.greatest_other.Goals as goal
use Rattle.tk_alloc.proofs.short_round.greatest_other.Goals.{then-not-is_member, else-not-is_member}

pub loop-place-init : goal.loop-place-init
loop-place-init c = record { bound = λ i below out. absurd (omega arith); reached = tt }

pub loop-place-preserved : goal.loop-place-preserved
loop-place-preserved c =
    let grid = c.args.table.now in
    let members = c.args.members.now in
    let report = c.args.report.now in
    let n = c.loop-place.place in
    let here : object_at report n ≡ c.at.result.0.0 = object_read report.values n c.at.result.0.0 c.at.result.1 (omega (arith, c.len-place-end.ensures.value)) c.at.ensures.value in
    elim c.if-not-is_member.branch [
      | then-not-is_member w ↦
          let level : FitsSigned w128 w.joint.result = omega (arith, ints) in
          subst (IsLead grid members report (n + 1)) (sym (w.greatest-is ∙ w.raise-greatest.ensures ∙ ap (raised c.loop-place.greatest) (to_z-of_z w128 w.joint.result level)))
          (lead_more grid members report n c.loop-place.greatest w.joint.result c.loop-place.invariant (ap (is_in members) here ∙ sym c.is_member.ensures ∙ w.if-not-is_member.true) (sym w.joint.ensures.value))
      | else-not-is_member w ↦
          subst (IsLead grid members report (n + 1)) (sym w.greatest-is) (lead_kept grid members report n c.loop-place.greatest c.loop-place.invariant (ap (is_in members) here ∙ sym c.is_member.ensures ∙ w.if-not-is_member.false))
    ]
