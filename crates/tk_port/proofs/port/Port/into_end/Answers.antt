use Rattle.tk_port.proofs.OddLemmas.{left_odd}
use Rattle.tk_port.proofs.port.Port.into_end.Goals as goal

pub new-requires : goal.new-requires
new-requires g c = left_odd c.self.inside.link c.self.inside.side.monitor c.self.inside.course c.left-odd.result.0 c.self.invariant.version c.self.invariant.course c.left-odd.ensures.odd
