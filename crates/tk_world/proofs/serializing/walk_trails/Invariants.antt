use Rattle.std.proofs.Common.{◌≡◌, ◌<◌, ℕ, [], length, get_or}
use Rattle.tk_world.specs.Serializing.{IsAt}
use Rattle.tk_world.proofs.serializing.walk_trails.Given as goal

-- the trails of the first monitors are walked to their ends
abbrev pub invariant-loop-j : goal.invariant-loop-j
invariant-loop-j l = record {
  walking : IsAt l.story.story l.walk [] 0;
  ends : (i : ℕ) → i < l.j → get_or l.walk.places.items i 0 ≡ length (get_or l.story.story.trails i []);
}
