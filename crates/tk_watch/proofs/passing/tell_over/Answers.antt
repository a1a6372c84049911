use Rattle.tk_watch.proofs.PassingLemmas.{ends, fed, leaves, stops_ended, stops_left, stops_linked}
use Rattle.tk_watch.proofs.passing.tell_over.Goals as goal

pub unreachable-requires : goal.unreachable-requires
unreachable-requires g c = rw c.in-More.is at c.requires

pub unreachable-requires-in-Quiet : goal.unreachable-requires-in-Quiet
unreachable-requires-in-Quiet g c = rw c.in-Quiet.is at c.requires

pub returns-in-Ok-clause-passes : goal.returns-in-Ok-clause-passes
returns-in-Ok-clause-passes g c = leaves _ _ _ _ _ _ (rw c.in-Left.is at c.requires) c.in-Ok.ensures.ok

pub returns-in-Err-clause-passes : goal.returns-in-Err-clause-passes
returns-in-Err-clause-passes g c = stops_left _ _ _ _ _ _ _ (rw c.in-Left.is at c.requires) c.in-Err.ensures.err

pub returns-in-Err-clause-linked : goal.returns-in-Err-clause-linked
returns-in-Err-clause-linked g c = stops_linked _ _ _ _ c.in-Err.ensures.err

pub returns-in-Ok-told-clause-passes : goal.returns-in-Ok-told-clause-passes
returns-in-Ok-told-clause-passes g c = ends _ _ _ _ _ _ _ (rw c.in-Stopped.is at c.requires) (rw c.as_slice.ensures.value at c.in-Ok-told.ensures.ok)

pub returns-in-Err-told-clause-passes : goal.returns-in-Err-told-clause-passes
returns-in-Err-told-clause-passes g c = stops_ended _ _ _ _ _ _ _ _ (rw c.in-Stopped.is at c.requires) (rw c.as_slice.ensures.value at c.in-Err-told.ensures.err)

pub returns-in-Err-told-clause-linked : goal.returns-in-Err-told-clause-linked
returns-in-Err-told-clause-linked g c = stops_linked _ _ _ _ c.in-Err-told.ensures.err

pub returns-in-Fed-clause-passes : goal.returns-in-Fed-clause-passes
returns-in-Fed-clause-passes g c = fed _ _ _ _ _
