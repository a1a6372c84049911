use Rattle.std.proofs.Common.{◌≡◌, ◌++◌}
use Rattle.tk_host.proofs.LineLemmas.{places_to}
use Rattle.tk_host.proofs.lines.push_absolute.Given as goal

-- the places so far are written
abbrev pub invariant-loop-i : goal.invariant-loop-i
invariant-loop-i l = l.line.items ≡ l.initial.line.items ++ places_to l.beginnings l.places l.i
