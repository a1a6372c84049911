use Rattle.std.proofs.Common.{◌≡◌, ◌++◌, take}
use Rattle.tk_journal.specs.Line.{names_text}
use Rattle.tk_host.proofs.lines.push_names.Given as goal

-- the names so far are written
abbrev pub invariant-loop-i : goal.invariant-loop-i
invariant-loop-i l = l.line.items ≡ l.initial.line.items ++ names_text l.names (take l.i l.members)
