use Rattle.tk_hub.proofs.RetuneLemmas.{seats_after_retune}
use Rattle.tk_hub.proofs.seats.Seats.retune.Goals as goal

pub invariant_of-self : goal.invariant_of-self
invariant_of-self g c =
    let s = c.self.inside in
    let r = c.retune.ensures in
    seats_after_retune s.run c.args.k c.args.epsilon s.desk.coordinator c.retune.new.self s.links.items c.retune.result r.ok r.turn r.settings r.legal r.err c.self.invariant

pub returns-clause-kept : goal.returns-clause-kept
returns-clause-kept g c =
    let s = c.self.inside in
    let r = c.retune.ensures in
    seats_after_retune s.run c.args.k c.args.epsilon s.desk.coordinator c.retune.new.self s.links.items c.retune.result r.ok r.turn r.settings r.legal r.err c.self.invariant
