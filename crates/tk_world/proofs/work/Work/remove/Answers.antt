use Rattle.std.proofs.Common.{arith}
use Rattle.tk_world.specs.Work.{has}
use Rattle.tk_world.proofs.WorkLemmas.{clear_at}
use Rattle.tk_world.proofs.work.Work.remove.Goals as goal

pub returns : goal.returns
unfolding has
returns c = λ q. clear_at c.args.self.now.bits c.args.mon.0 q (omega arith) c.requires.some c.requires.within
