use Rattle.tk_port.proofs.PortLemmas.{port_after_raise}
use Rattle.tk_port.proofs.port.Port.raise.Goals as goal

pub invariant_of-self : goal.invariant_of-self
invariant_of-self g c = port_after_raise c.self.inside.run c.self.inside.side.monitor c.raise.new.self c.self.inside.link c.self.inside.course c.args.f c.raise.result c.self.invariant c.raise.ensures.answer c.raise.ensures.legal

pub returns-clause-kept : goal.returns-clause-kept
returns-clause-kept g c = port_after_raise c.self.inside.run c.self.inside.side.monitor c.raise.new.self c.self.inside.link c.self.inside.course c.args.f c.raise.result c.self.invariant c.raise.ensures.answer c.raise.ensures.legal
