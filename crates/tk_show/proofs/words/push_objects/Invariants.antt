use Rattle.std.proofs.Common.{◌≡◌, ◌++◌, take}
use Rattle.tk_show.specs.Frames.{objects_text}
use Rattle.tk_show.proofs.words.push_objects.Given as goal

-- the names so far are written
abbrev pub invariant-loop-i : goal.invariant-loop-i
invariant-loop-i l = l.line.items ≡ l.initial.line.items ++ objects_text l.names (take l.i l.objects)
