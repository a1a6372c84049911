use Rattle.std.proofs.Common.{◌∙◌, ap, refl}
use Rattle.tk_watch.specs.Connections.{faults_told}
use Rattle.tk_watch.proofs.NamedLemmas.{link_left}
use Rattle.tk_watch.proofs.PassingLemmas.{over_ends, stopped_more, told_more, told_none}
use Rattle.tk_watch.proofs.attending.attend.Goals as goal

pub loop-init : goal.loop-init
loop-init g c = (told_none _ _ _, refl)

pub loop-preserved-in-More : goal.loop-preserved-in-More
loop-preserved-in-More g c = (told_more _ _ _ _ _ c.loop.invariant.0 c.in-Ok.ensures.ok, c.in-Ok.ensures.counted ∙ c.loop.invariant.1)

pub loop-preserved : goal.loop-preserved
loop-preserved g c = (told_more _ _ _ _ _ c.loop.invariant.0 c.in-Ok.ensures.ok, c.in-Ok.ensures.counted ∙ c.loop.invariant.1)

pub returns-in-Err-clause-err : goal.returns-in-Err-clause-err
returns-in-Err-clause-err g c = stopped_more _ _ _ _ _ _ c.loop.invariant.0 c.in-Err.ensures.err

pub returns-in-Err-clause-counted : goal.returns-in-Err-clause-counted
returns-in-Err-clause-counted g c = c.in-Err.ensures.counted ∙ ap (faults_told c.in-Err.verdict) c.loop.invariant.1

pub returns-then-is_err-clause-over : goal.returns-then-is_err-clause-over
returns-then-is_err-clause-over g c = link_left _ (rw c.in-Quiet.is at c.in-Ok.ensures.over)

pub returns-then-is_err-clause-ok : goal.returns-then-is_err-clause-ok
returns-then-is_err-clause-ok g c = told_more _ _ _ _ _ c.loop.invariant.0 c.in-Ok.ensures.ok

pub returns-then-is_err-clause-counted : goal.returns-then-is_err-clause-counted
returns-then-is_err-clause-counted g c = c.in-Ok.ensures.counted ∙ c.loop.invariant.1

pub returns-in_default : goal.returns-in_default
returns-in_default g c = record {
  over = over_ends _ _ c.in-Ok.attended c.in_default.not-More c.in_default.not-Quiet c.in-Ok.ensures.over;
  ok = told_more _ _ _ _ _ c.loop.invariant.0 c.in-Ok.ensures.ok;
  err = tt;
  counted = c.in-Ok.ensures.counted ∙ c.loop.invariant.1;
}
