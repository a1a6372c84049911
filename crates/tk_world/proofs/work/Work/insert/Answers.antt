use Rattle.tk_world.specs.Work.{has}
use Rattle.tk_world.proofs.WorkLemmas.{set_at}
use Rattle.tk_world.proofs.work.Work.insert.Goals as goal

pub returns : goal.returns
unfolding has
returns c = λ q. set_at c.args.self.now.bits c.args.mon.0 q c.requires.some c.requires.within
