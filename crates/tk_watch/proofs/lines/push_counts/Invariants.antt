use Rattle.std.proofs.Common.{◌≡◌, ◌++◌, take}
use Rattle.tk_journal.specs.Line.{places_text}
use Rattle.tk_watch.proofs.lines.push_counts.Given as goal

-- the counts so far are written
abbrev pub invariant-loop-i : goal.invariant-loop-i
invariant-loop-i l = l.line.items ≡ l.initial.line.items ++ places_text (take l.i l.counts)
