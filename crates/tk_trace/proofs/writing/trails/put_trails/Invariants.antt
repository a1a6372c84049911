use Rattle.std.proofs.Common.{◌≡◌, ◌++◌, take}
use Rattle.std.specs.List.{flat_map}
use Rattle.tk_trace.specs.Spelling.{IsTrail, trail}
use Rattle.std.specs.List.{AllZip}
use Rattle.tk_trace.proofs.writing.trails.put_trails.Given as goal

-- those so far are written, and are within the rules
abbrev pub invariant-loop-i : goal.invariant-loop-i
invariant-loop-i l = record {
  told : l.out.items ≡ l.fn.out.items ++ flat_map trail (take l.i l.story.story.trails);
  within : AllZip IsTrail (take l.i l.story.story.logs.logs) (take l.i l.story.story.trails);
}
