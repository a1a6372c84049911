use Rattle.tk_base.proofs.EqualLemmas.{lists_tell, same_from}
use Rattle.tk_base.proofs.cut.CutPartialEq.eq.Goals as goal

pub returns-clause-same : goal.returns-clause-same
returns-clause-same c =
    rw (← c.self.view_is, ← c.other.view_is)
    (same_from _ c.eq.result (lists_tell c.self.inside.list.items c.other.inside.list.items) c.eq.ensures)
