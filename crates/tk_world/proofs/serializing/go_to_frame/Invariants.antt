use Rattle.std.proofs.Common.{◌-◌, ◌∷◌, List, length, get_or}
use Rattle.tk_frames.specs.declared.frame.Frame.{Frame}
use Rattle.tk_journal.specs.declared.noted.Noted.{Noted}
use Rattle.tk_journal.specs.declared.noted.Noted.TheVariants as n
use Rattle.tk_story.specs.Story.{trail_of}
use Rattle.tk_world.specs.Serializing.{IsWalking}
use Rattle.tk_world.proofs.serializing.go_to_frame.Given as goal

-- the frame is not sent yet
abbrev pub invariant-loop : goal.invariant-loop
invariant-loop l = record {
  next : (frame : Frame) × (left : List Noted) × IsWalking l.story.story l.walk.places.items l.walk.events.items (n.Got l.mon frame ∷ left) 0;
  carries : (frame : Frame) (left : List Noted) → IsWalking l.story.story l.initial.walk.places.items l.initial.walk.events.items (n.Got l.mon frame ∷ left) 0
      → IsWalking l.story.story l.walk.places.items l.walk.events.items (n.Got l.mon frame ∷ left) 0;
}

abbrev pub decreases-loop : goal.decreases-loop
decreases-loop l = length (trail_of l.story.story l.mon.0) - get_or l.walk.places.items (l.mon.0 - 1) 0
