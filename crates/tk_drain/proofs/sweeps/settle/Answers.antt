use Rattle.std.proofs.Common.{subst, sym, ◌∙◌, arith, ap, ◌+◌}
use Rattle.tk_base.specs.Settings.{Setup}
use Rattle.tk_story.specs.Kept.{KeptStory}
use Rattle.tk_world.specs.Events.{CanOnlyChange}
use Rattle.tk_drain.specs.Drive.{Settles}
use Rattle.tk_drain.specs.Drive.Settles.{Rests}
use Rattle.tk_drain.proofs.LegLemmas.{err_by, idle_swept}
use Rattle.tk_drain.proofs.RestLemmas.{Sweeping, comes_to_rest, sweeping_cut, sweeping_ends, sweeping_on, sweeping_rests}
use Rattle.tk_drain.proofs.sweeps.settle.Goals as goal

pub returns-then-is_settled-clause-settles : goal.returns-then-is_settled-clause-settles
returns-then-is_settled-clause-settles g c = Rests c.args.world.now (c.is_settled.ensures.value.0 c.if-is_settled.true)

pub returns-then-is_settled-clause-rests : goal.returns-then-is_settled-clause-rests
returns-then-is_settled-clause-rests g c = comes_to_rest c.args.world.now c.args.world.now 1 c.is_settled.ensures.legal (returns-then-is_settled-clause-settles g c)

pub returns-in_err-sweep-clause-err : goal.returns-in_err-sweep-clause-err
returns-in_err-sweep-clause-err g c = err_by c.from_residual.result (sweeping_cut c.args.world.now c.loop-moved.world c.sweep.new.world c.loop-moved.moved c.loop-moved.invariant.sweeping c.in_err-sweep.ensures.err)

pub returns-in_err-sweep-clause-enabled : goal.returns-in_err-sweep-clause-enabled
returns-in_err-sweep-clause-enabled g c =
    err_by c.from_residual.result
    (λ still. c.in_err-sweep.ensures.enabled (subst (λ (k : KeptStory). CanOnlyChange k.story) (sym (c.loop-moved.invariant.still still)) still))

pub returns-in-Idle-clause-settles : goal.returns-in-Idle-clause-settles
returns-in-Idle-clause-settles g c =
    let idle = c.in_ok-sweep.ensures.idle.0 c.in-Idle.is in
    let same = c.in_ok-sweep.ensures.ok ∙ idle_swept c.loop-moved.world idle in
    subst (λ (z : KeptStory). Settles c.args.world.now z (c.loop-moved.moved + 1)) (sym same) (sweeping_rests c.args.world.now c.loop-moved.world c.loop-moved.moved idle c.loop-moved.invariant.sweeping)

pub returns-in-Idle-clause-rests : goal.returns-in-Idle-clause-rests
returns-in-Idle-clause-rests g c = comes_to_rest c.args.world.now c.sweep.new.world (c.loop-moved.moved + 1) c.settings.ensures.legal (returns-in-Idle-clause-settles g c)

pub loop-moved-preserved : goal.loop-moved-preserved
loop-moved-preserved g c = record {
  story = c.sweep.ensures.legal;
  sweeping = subst (λ (z : KeptStory). Sweeping c.args.world.now z (c.loop-moved.moved + 1)) (sym c.in_ok-sweep.ensures.ok)
      (sweeping_on c.args.world.now c.loop-moved.world c.loop-moved.moved c.loop-moved.invariant.story (λ idle. let no = c.in_ok-sweep.ensures.idle.1 idle in let is = c.in-Yes.is in cc) c.loop-moved.invariant.sweeping);
  still = λ idle.
      let here = subst (λ (k : KeptStory). CanOnlyChange k.story) (sym (c.loop-moved.invariant.still idle)) idle in
      let no = c.in_ok-sweep.ensures.idle.1 here in
      let is = c.in-Yes.is in
      absurd (cc);
}

pub unreachable-requires : goal.unreachable-requires
unreachable-requires g c =
    let at = c.from.ensures in
    let monitors = c.monitors.ensures.value in
    let same = ap (λ (s : Setup). s.monitors) c.settings.ensures.value in
    let most = c.loop-moved-test.false in
    sweeping_ends c.args.world.now c.loop-moved.world c.loop-moved.moved c.settings.ensures.legal c.loop-moved.invariant.sweeping (omega (arith, at, monitors, same, most))
