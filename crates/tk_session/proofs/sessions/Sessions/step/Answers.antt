use Rattle.tk_session.proofs.ChainLemmas.{chain_goes_on}
use Rattle.tk_session.proofs.SessionLemmas.{step_reached}
use Rattle.tk_session.proofs.sessions.Sessions.step.Goals as goal

pub invariant_of-self : goal.invariant_of-self
invariant_of-self c =
    let old = c.self.inside.present in
    let new = c.step.new.self in
    chain_goes_on c.a_session_goes_on.ensures c.self.inside.past.items old new (step_reached old new c.args.event c.step.result c.step.ensures.ok c.step.ensures.err) c.self.invariant
