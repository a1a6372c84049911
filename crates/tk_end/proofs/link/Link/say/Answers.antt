use Rattle.std.proofs.Common.{ap, ◌∙◌}
use Rattle.tk_end.proofs.SayingLemmas.{says_given, pushed_taken}
use Rattle.tk_end.proofs.link.Link.say.Goals as goal

pub returns-clause-says : goal.returns-clause-says
returns-clause-says g c =
    let rest = c.push.ensures.rest in
    says_given (g.A.Actor.said c.args.peer.0 c.args.actor.now) c.args.self.now c.write.new.self c.push.new.self c.write.ensures.says c.push.ensures.given
    (ap (λ l. l.tells) rest) (ap (λ l. l.version) rest) (ap (λ l. l.unread) rest) (ap (λ l. l.front) rest) (ap (λ l. l.shut) rest) (ap (λ l. l.written) rest)
    (ap (λ k. k.taken) c.push.ensures.counted ∙ pushed_taken c.push.result c.write.new.self.counts)
