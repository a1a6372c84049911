use Rattle.std.proofs.Common.{◌≡◌, ◌-◌, ℕ, [], length, get_or}
use Rattle.tk_story.specs.Story.{trail_of}
use Rattle.tk_world.specs.Serializing.{IsWalking}
use Rattle.tk_world.proofs.serializing.go_to_end.Given as goal

-- no other trail is walked
abbrev pub invariant-loop-mon : goal.invariant-loop-mon
invariant-loop-mon l = record {
  walking : IsWalking l.story.story l.walk.places.items l.walk.events.items [] 0;
  others : (i : ℕ) → (i ≡ l.mon.0 - 1 → ⊥) → get_or l.walk.places.items i 0 ≡ get_or l.initial.walk.places.items i 0;
}

abbrev pub decreases-loop-mon : goal.decreases-loop-mon
decreases-loop-mon l = length (trail_of l.story.story l.mon.0) - get_or l.walk.places.items (l.mon.0 - 1) 0
