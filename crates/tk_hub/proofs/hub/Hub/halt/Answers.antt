use Rattle.tk_hub.proofs.KeptLemmas.{hub_halted}
use Rattle.tk_hub.proofs.hub.Hub.halt.Goals as goal

pub invariant_of-self : goal.invariant_of-self
invariant_of-self g c =
    let s = c.self.inside in
    hub_halted s.seats c.shut.new.self s.lobby c.clear.new.self s.lines s.course c.halted-self-inside.result c.self.invariant c.shut.ensures.rest c.shut.ensures.shut c.shut.ensures.kept c.clear.ensures.held c.halted-self-inside.ensures

pub returns-clause-kept : goal.returns-clause-kept
returns-clause-kept g c =
    let s = c.self.inside in
    hub_halted s.seats c.shut.new.self s.lobby c.clear.new.self s.lines s.course c.halted-self-inside.result c.self.invariant c.shut.ensures.rest c.shut.ensures.shut c.shut.ensures.kept c.clear.ensures.held c.halted-self-inside.ensures
