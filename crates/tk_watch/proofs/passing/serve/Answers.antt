use Rattle.tk_watch.proofs.PassingLemmas.{stopped_behind, stopped_linked, told_behind}
use Rattle.tk_watch.proofs.passing.serve.Goals as goal

pub returns-in-Ok-clause-passes : goal.returns-in-Ok-clause-passes
returns-in-Ok-clause-passes g c = told_behind _ _ _ _ _ _ _ c.in-Ok.ensures.ok c.tell_over.ensures.passes

pub returns-in-Err-clause-passes : goal.returns-in-Err-clause-passes
returns-in-Err-clause-passes g c = stopped_behind _ _ _ _ _ _ c.in-Err.ensures.err

pub returns-in-Err-clause-linked : goal.returns-in-Err-clause-linked
returns-in-Err-clause-linked g c = stopped_linked _ _ _ _ _ c.in-Err.ensures.err
