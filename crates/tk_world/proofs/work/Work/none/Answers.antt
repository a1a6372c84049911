use Rattle.tk_world.specs.Work.{has}
use Rattle.tk_world.proofs.WorkLemmas.{none_at}
use Rattle.tk_world.proofs.work.Work.none.Goals as goal

pub returns : goal.returns
unfolding has
returns c = λ q. none_at q
