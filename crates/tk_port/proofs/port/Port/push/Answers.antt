use Rattle.std.proofs.Common.{ap, ◌∙◌}
use Rattle.tk_port.proofs.PortLemmas.{port_after_push}
use Rattle.tk_port.proofs.port.Port.push.Goals as goal

pub invariant_of-self : goal.invariant_of-self
invariant_of-self g c = port_after_push c.self.inside.run c.self.inside.side.monitor c.self.inside.link c.say.new.self c.self.inside.course c.self.invariant (ap (λ p. p.course) c.self.view_is ∙ c.requires) c.say.ensures.says

pub returns-clause-kept : goal.returns-clause-kept
returns-clause-kept g c = port_after_push c.self.inside.run c.self.inside.side.monitor c.self.inside.link c.say.new.self c.self.inside.course c.self.invariant (ap (λ p. p.course) c.self.view_is ∙ c.requires) c.say.ensures.says
