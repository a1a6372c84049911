use Rattle.std.proofs.Common.{◌≡◌, ◌+◌, pos, replicate}
use Rattle.tk_rows.proofs.table.Table.new.Given as goal

abbrev pub invariant-loop-o : goal.invariant-loop-o
invariant-loop-o l = l.rows.items ≡ replicate l.o (replicate (l.monitors + 1) (pos 0))
