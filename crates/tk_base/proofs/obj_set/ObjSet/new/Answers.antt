use Rattle.tk_base.proofs.AscendingLemmas.{disorder_refuses}
use Rattle.tk_base.proofs.obj_set.ObjSet.new.Goals as goal

pub returns-in-Some-clause-ascends : goal.returns-in-Some-clause-ascends
returns-in-Some-clause-ascends c = (λ no. cc, λ up. absurd (disorder_refuses _ _ (rw c.as_slice.ensures.value at c.in-Some.ensures.some) up))
