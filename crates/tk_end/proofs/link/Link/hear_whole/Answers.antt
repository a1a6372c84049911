use Rattle.std.proofs.Common.{refl}
use Rattle.tk_end.proofs.LinkLemmas.{hears_nothing}
use Rattle.tk_end.proofs.link.Link.hear_whole.Goals as goal

pub returns-clause-hears : goal.returns-clause-hears
returns-clause-hears g c = rw (← c.self.view_is) (hears_nothing g.A.Actor.refusal_of g.A.Actor.after g.A.Actor.heard g.A.Actor.said c.args.peer.0 _ _ c.args.actor.now _ (record { tells = refl; version = c.take_all.ensures.version; output = refl; written = refl; shut = refl }) refl refl c.take_all.ensures.takes)
