use Rattle.std.proofs.Common.{◌∙◌, ap, refl}
use Rattle.tk_watch.specs.Connections.{faults_told}
use Rattle.tk_watch.proofs.CourseLemmas.{closes, goes_first, goes_on}
use Rattle.tk_watch.proofs.monitoring.go_on.Goals as goal

pub loop-init : goal.loop-init
loop-init g c = (goes_first _ _ _, refl)

pub loop-preserved : goal.loop-preserved
loop-preserved g c = (goes_on _ _ _ _ _ _ _ _ c.saturating_add-number.ensures c.loop.invariant.0 c.in-Ok.ensures.passes, c.in-Ok.ensures.counted ∙ c.loop.invariant.1)

pub returns-in-Err-clause-writes : goal.returns-in-Err-clause-writes
returns-in-Err-clause-writes g c = closes _ _ _ _ _ _ _ c.loop.invariant.0 c.in-Err.ensures.passes

pub returns-in-Err-clause-counted : goal.returns-in-Err-clause-counted
returns-in-Err-clause-counted g c = c.in-Err.ensures.counted ∙ ap (faults_told c.in-Err.verdict) c.loop.invariant.1
