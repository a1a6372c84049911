use Rattle.std.proofs.Common.{◌≡◌, ◌++◌, take}
use Rattle.std.specs.List.{flat_map}
use Rattle.tk_trace.specs.Spelling.{part}
use Rattle.tk_trace.proofs.writing.logs.parts.Given as goal

-- those so far are written
abbrev pub invariant-loop-item : goal.invariant-loop-item
invariant-loop-item l = l.out.items ≡ l.fn.out.items ++ flat_map part (take l.item-index l.parts)
