use Rattle.std.proofs.Common.{List, ◌∷◌, arith, refl, sym, subst, if◌then◌else◌}
use Rattle.tk_frames.specs.declared.frame.Frame.{Frame}
use Rattle.tk_journal.specs.declared.noted.Noted.{Noted}
use Rattle.tk_journal.specs.declared.noted.Noted.TheVariants as n
use Rattle.tk_world.specs.Serializing.{IsWalking}
use Rattle.tk_world.proofs.SerializingLemmas.{goes_on, up_walking}
use Rattle.tk_world.proofs.serializing.go_to_frame.Goals as goal

pub step-requires-clause-can : goal.step-requires-clause-can
step-requires-clause-can c =
    let w = c.loop.invariant.next in
    record {
      left = n.Got c.args.mon w.0 ∷ w.1;
      walking = w.2;
      turn = refl;
      more = goes_on c.args.story.now.story c.loop.walk.places.items c.loop.walk.events.items w.1 c.args.mon.0 w.0 w.2;
    }

pub loop-smaller : goal.loop-smaller
loop-smaller c =
    let w = c.loop.invariant.next in
    let more = goes_on c.args.story.now.story c.loop.walk.places.items c.loop.walk.events.items w.1 c.args.mon.0 w.0 w.2 in
    let further = c.in_ok-step.ensures.further in
    omega (arith, more, further)

pub loop-preserved : goal.loop-preserved
loop-preserved c =
    let s = c.args.story.now.story in
    let mon = c.args.mon in
    let places = c.step.new.walk.places.items in
    let events = c.step.new.walk.events.items in
    let w = c.loop.invariant.next in
    let on : (frame : Frame) (left : List Noted) → IsWalking s c.loop.walk.places.items c.loop.walk.events.items (n.Got mon frame ∷ left) 0 → IsWalking s places events (n.Got mon frame ∷ left) 0 =
    λ frame left h. subst (λ b. IsWalking s places events (n.Got mon frame ∷ left) (if b then mon.0 else 0)) c.if-not-branch.true (c.in_ok-step.ensures.walking (n.Got mon frame ∷ left) h refl) in
    record {
      next = (w.0, w.1, on w.0 w.1 w.2);
      carries = λ frame left h. on frame left (c.loop.invariant.carries frame left h);
    }

pub returns : goal.returns
returns c = λ frame left h.
    let s = c.args.story.now.story in
    let mon = c.args.mon in
    let places = c.step.new.walk.places.items in
    let events = c.step.new.walk.events.items in
    let there = subst (λ b. IsWalking s places events (n.Got mon frame ∷ left) (if b then mon.0 else 0)) c.if-not-branch.false (c.in_ok-step.ensures.walking (n.Got mon frame ∷ left) (c.loop.invariant.carries frame left h) refl) in
    subst (λ es. IsWalking s places es left 0) (sym c.in_ok-push.ensures.items) (up_walking s places events left mon.0 frame there)
