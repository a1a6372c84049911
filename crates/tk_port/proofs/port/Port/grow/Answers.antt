use Rattle.std.proofs.Common.{ℕ, sym, subst}
use Rattle.std.specs.Prelude.{ℤ}
use Rattle.tk_trail.specs.Growing.{grown}
use Rattle.tk_trail.specs.Legal.{HasNext}
use Rattle.tk_trail.specs.Setup.{IsSetup}
use Rattle.tk_port.specs.Port.{PortView}
use Rattle.tk_port.proofs.PortLemmas.{port_after_grow}
use Rattle.tk_port.proofs.port.Port.grow.Goals as goal

pub invariant_of-self : goal.invariant_of-self
invariant_of-self g c =
    let inside = c.self.inside in
    let change : ℕ × ℤ = (c.args.change.obj.0, c.args.change.by) in
    port_after_grow inside.run inside.side.monitor c.grow.new.self inside.link inside.course c.args.f.0 change c.grow.result c.self.invariant
    (subst (λ (p : PortView _). HasNext p.monitor.setup p.monitor.trail c.args.f.0) (sym c.self.view_is) c.requires.next)
    (subst (λ (p : PortView _). IsSetup (grown p.monitor.setup c.args.f.0 change)) (sym c.self.view_is) c.requires.limits)
    c.grow.ensures.ok c.grow.ensures.err

pub returns-clause-kept : goal.returns-clause-kept
returns-clause-kept g c = invariant_of-self g c
