use Rattle.tk_watch.proofs.CourseLemmas.{unreached_closes}
use Rattle.tk_watch.proofs.monitoring.step.Goals as goal

pub returns-in-Err-clause-passes : goal.returns-in-Err-clause-passes
returns-in-Err-clause-passes g c = unreached_closes _ _ _ _ _ c.in-Err.ensures.ended

pub returns-in-Ok-clause-tries : goal.returns-in-Ok-clause-tries
returns-in-Ok-clause-tries g c is = absurd (c.pass.ensures.linked is)
