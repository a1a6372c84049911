use Rattle.std.proofs.Common.{subst, arith}
use Rattle.tk_end.specs.Hearing.{Hears}
use Rattle.tk_end.proofs.LinkLemmas.{hears_on, hears_pulled, least_in}
use Rattle.tk_end.proofs.link.Link.hear_piece.Goals as goal

pub returns-in-Got-clause-none : goal.returns-in-Got-clause-none
returns-in-Got-clause-none g c =
    let mid = c.hear_whole.new.self in
    let pulled = hears_pulled g.A.Actor.refusal_of g.A.Actor.after g.A.Actor.heard g.A.Actor.said c.args.peer.0 c.pull.result mid c.pull.new.self c.hear_whole.new.actor c.pull.ensures.pulls c.pull.ensures.counted c.pull.ensures.keeps in
    let one = subst (λ p. Hears g.A.Actor.refusal_of g.A.Actor.after g.A.Actor.heard g.A.Actor.said c.args.peer.0 (least_in p) mid c.pull.new.self c.hear_whole.new.actor c.hear_whole.new.actor) c.in-Got.is pulled in
    hears_on g.A.Actor.refusal_of g.A.Actor.after g.A.Actor.heard g.A.Actor.said c.args.peer.0 1 0 1 c.args.self.now mid c.pull.new.self c.args.actor.now c.hear_whole.new.actor c.hear_whole.new.actor (omega arith) c.hear_whole.ensures.hears one
