use Rattle.std.proofs.Common.{◌≡◌, ◌++◌, take}
use Rattle.std.specs.List.{flat_map}
use Rattle.tk_trace.specs.Spelling.{name}
use Rattle.tk_trace.proofs.writing.head.put_names.Given as goal

-- those so far are written
abbrev pub invariant-loop-i : goal.invariant-loop-i
invariant-loop-i l = l.out.items ≡ l.fn.out.items ++ flat_map name (take l.i l.names)
