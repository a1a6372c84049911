use Rattle.std.proofs.Common.{refl}
use Rattle.tk_wire.specs.PipeWire.{drained}
use Rattle.tk_port.proofs.PortLemmas.{port_piped}
use Rattle.tk_port.proofs.port.Port.drain.Goals as goal

pub invariant_of-self : goal.invariant_of-self
invariant_of-self g c = port_piped c.self.inside.run c.self.inside.side.monitor c.self.inside.link c.drain.new.self g.W.Piped.bearing (drained c.drain.result c.self.inside.link.traffic) c.self.inside.course c.self.invariant c.drain.ensures.wire refl refl

pub returns-clause-kept : goal.returns-clause-kept
returns-clause-kept g c = port_piped c.self.inside.run c.self.inside.side.monitor c.self.inside.link c.drain.new.self g.W.Piped.bearing (drained c.drain.result c.self.inside.link.traffic) c.self.inside.course c.self.invariant c.drain.ensures.wire refl refl
