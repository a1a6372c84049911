use Rattle.std.proofs.Common.{subst, sym, inl, inr}
use Rattle.tk_input.specs.declared.event.Event.{Event}
use Rattle.tk_story.specs.Kept.{KeptStory}
use Rattle.tk_world.specs.World.{Moves}
use Rattle.tk_drain.specs.Drive.{KeepsFront}
use Rattle.tk_drain.specs.Legs.{leg_events}
use Rattle.tk_drain.proofs.LegLemmas.{err_by, leg_busy, leg_ends, leg_front, leg_smaller, leg_steps, step_after}
use Rattle.tk_drain.proofs.leg.run.Goals as goal
use Rattle.tk_drain.proofs.leg.run.Goals.{in-Yes, in-Idle}

pub returns-in_err-step-clause-err : goal.returns-in_err-step-clause-err
returns-in_err-step-clause-err g c =
    err_by c.from_residual.result
    (subst (λ (w : KeptStory). KeepsFront (leg_events c.args.leg c.args.world.now.story.settings) c.args.world.now w) (sym c.in_err-step.ensures.err)
    (leg_front c.args.leg c.args.world.now c.loop-mon.world c.loop-mon.moved c.loop-mon.next.0 c.loop-mon.invariant))

pub returns-in_err-step-clause-enabled : goal.returns-in_err-step-clause-enabled
returns-in_err-step-clause-enabled g c =
    err_by c.from_residual.result
    (leg_busy c.args.leg c.args.world.now c.loop-mon.world c.loop-mon.moved c.loop-mon.next.0 c.in-Some.mon.0 c.event.result c.loop-mon.invariant c.in-Some.ensures.found.1 c.event.ensures c.in_err-step.ensures.enabled)

pub loop-mon-smaller : goal.loop-mon-smaller
loop-mon-smaller g c = leg_smaller c.loop-mon.world c.step.new.self c.event.result c.in_ok-step.field-0 c.loop-mon.next.0 c.in-Some.mon.0 c.loop-mon.invariant.story c.in-Some.ensures.found.0 c.in-Some.ensures.found.1 c.in_ok-step.ensures.ok

pub loop-mon-preserved : goal.loop-mon-preserved
loop-mon-preserved g c =
    let now = c.loop-mon.world in
    let moves = c.in_ok-step.ensures.ok in
    leg_steps c.args.leg c.args.world.now now c.step.new.self c.loop-mon.moved c.in_ok-step.field-0 c.match-branch-2.moved c.loop-mon.next.0 c.in-Some.mon c.loop-mon.invariant c.in-Some.ensures.found.0 c.in-Some.ensures.found.1 c.in-Some.ensures.skipped
    (subst (λ (e : Event). Moves now e c.in_ok-step.field-0 c.step.new.self) c.event.ensures moves) c.step.ensures.legal
    (step_after c.loop-mon.moved c.in_ok-step.field-0 c.match-branch-2.moved c.args.world.now now c.step.new.self c.event.result moves c.loop-mon.invariant.grows (elim c.match-branch-2.branch [
      | in-Yes w ↦ inl (w.in-Yes.is, w.moved-is)
      | in-Idle w ↦ inr (w.in-Idle.is, w.moved-is)
    ]))

pub returns-clause-ok : goal.returns-clause-ok
returns-clause-ok g c = leg_ends c.args.leg c.args.world.now c.loop-mon.world c.loop-mon.moved c.loop-mon.next.0 c.loop-mon.invariant c.in_default.ensures.skipped
