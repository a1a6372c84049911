use Rattle.std.proofs.Common.{◌≡◌, ◌++◌, take}
use Rattle.tk_show.specs.Text.{catalog_text}
use Rattle.tk_show.proofs.printing.push_catalog.Given as goal

-- the names so far are written
abbrev pub invariant-loop-i : goal.invariant-loop-i
invariant-loop-i l = l.line.items ≡ l.initial.line.items ++ catalog_text (take l.i l.names)
