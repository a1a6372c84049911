use Rattle.std.proofs.Common.{◌≡◌, ◌≤◌, drop, length, take}
use Rattle.tk_story.specs.Story.{IsStory}
use Rattle.tk_drain.specs.Passing.{Passes, raises}
use Rattle.tk_drain.proofs.finishing.raise_each.Given as goal

-- the parts that go on stand in front, and those ahead as they were
abbrev pub invariant-loop-i : goal.invariant-loop-i
invariant-loop-i g l = record {
  story : IsStory l.world.story;
  passes : Passes (raises (take l.i l.initial.parts.items)) (raises (take l.kept l.parts.items)) l.fn.world l.world;
  ahead : drop l.i l.parts.items ≡ drop l.i l.initial.parts.items;
  behind : l.kept ≤ l.i;
  size : length l.parts.items ≡ length l.initial.parts.items;
}
