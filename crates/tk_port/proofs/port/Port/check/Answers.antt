use Rattle.std.proofs.Common.{ap, ◌∙◌}
use Rattle.tk_port.proofs.PortLemmas.{port_after_check}
use Rattle.tk_port.proofs.port.Port.check.Goals as goal

pub invariant_of-self : goal.invariant_of-self
invariant_of-self g c = port_after_check c.self.inside.run c.self.inside.side.monitor c.check.new.self c.self.inside.link c.self.inside.course c.check.result c.self.invariant (ap (λ p. p.course) c.self.view_is ∙ c.requires) c.check.ensures.ok c.check.ensures.err

pub returns-clause-kept : goal.returns-clause-kept
returns-clause-kept g c = port_after_check c.self.inside.run c.self.inside.side.monitor c.check.new.self c.self.inside.link c.self.inside.course c.check.result c.self.invariant (ap (λ p. p.course) c.self.view_is ∙ c.requires) c.check.ensures.ok c.check.ensures.err
