use Rattle.std.proofs.Common.{◌≡◌, ◌++◌, All, take}
use Rattle.std.specs.List.{flat_map}
use Rattle.tk_frames.specs.Spelling.{ArePlaces, places}
use Rattle.tk_trace.proofs.writing.journal.cut.Given as goal

-- those so far are written, and are within the rules
abbrev pub invariant-loop-i : goal.invariant-loop-i
invariant-loop-i l = record {
  told : l.out.items ≡ l.fn.out.items ++ flat_map (places 1) (take l.i l.cut);
  within : All ArePlaces (take l.i l.cut);
}
