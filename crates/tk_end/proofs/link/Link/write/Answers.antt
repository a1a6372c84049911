use Rattle.std.proofs.Common.{refl, ◌≡◌, ◌∙◌, sym, ap, subst, Some, slice_get, ◌+◌}
use Rattle.tk_end.proofs.SayingLemmas.{says_nothing, says_more, writes_on}
use Rattle.tk_end.proofs.link.Link.write.Goals as goal

pub loop-place-init : goal.loop-place-init
loop-place-init g c = (says_nothing (g.A.Actor.said c.args.peer.0 c.args.actor.now) c.args.self.now c.requires.within, refl, c.written-place.ensures, c.count-count.ensures)

pub loop-place-preserved : goal.loop-place-preserved
loop-place-preserved g c =
    let before = c.loop-place in
    let new = c.write_next.new.self in
    let wrote = c.in_ok-write_next.ensures in
    let at : slice_get (g.A.Actor.said c.args.peer.0 c.args.actor.now) before.self.written ≡ Some c.frame_at.result.now = subst (λ n. slice_get (g.A.Actor.said c.args.peer.0 c.args.actor.now) n ≡ Some c.frame_at.result.now) before.invariant.2 c.frame_at.ensures.value in (
      says_more (g.A.Actor.said c.args.peer.0 c.args.actor.now) c.args.self.now before.self new c.frame_at.result.now before.invariant.0 at wrote.ok wrote.moved,
      writes_on c.args.self.now before.self new (before.self.written + 1) before.invariant.1 wrote.moved,
      ap (λ n. n + 1) before.invariant.2 ∙ sym (ap (λ l. l.written) wrote.moved),
      before.invariant.3,
    )
