use Rattle.tk_watch.proofs.PassingLemmas.{passes_joined, stops_joined}
use Rattle.tk_watch.proofs.passing.pass.Goals as goal

pub returns-in-Err-clause-passes : goal.returns-in-Err-clause-passes
returns-in-Err-clause-passes g c = stops_joined _ _ _ _ _ _ _ c.in-Ok.ensures (rw c.as_slice.ensures.value at c.in-Err.ensures.err)

pub returns-clause-passes : goal.returns-clause-passes
returns-clause-passes g c = passes_joined _ _ _ _ _ _ _ _ c.in-Ok.ensures (rw c.as_slice.ensures.value at c.in_default-told.ensures.ok) c.serve.ensures.passes
