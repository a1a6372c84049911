use Rattle.std.proofs.Common.{◌+◌}
use Rattle.tk_alloc.specs.Search.{by_node}
use Rattle.tk_alloc.proofs.LimitLemmas.{FirstAreWithin}
use Rattle.tk_alloc.proofs.limit.past_at.Given as goal

-- the coordinator and the monitors so far are within the limit
abbrev pub invariant-loop-named : goal.invariant-loop-named
invariant-loop-named l = FirstAreWithin (by_node l.change) (l.named-index + 1) l.place
