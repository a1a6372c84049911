use Rattle.std.proofs.lemmas.List.{length-replicate}
use Rattle.tk_rows.proofs.ReplacingLemmas.{zero_rows}
use Rattle.tk_rows.proofs.table.Table.new.Goals as goal

pub invariant_of-result : goal.invariant_of-result
invariant_of-result c i h = rw c.loop-o.invariant (zero_rows c.loop-o.o c.args.monitors i (rw (c.loop-o.invariant, length-replicate) at h))
