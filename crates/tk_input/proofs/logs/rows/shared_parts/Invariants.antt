use Rattle.std.proofs.Common.{◌≡◌}
use Rattle.tk_input.proofs.logs.rows.shared_parts.Given as goal

-- the parts so far are shared
abbrev pub invariant-loop-mon : goal.invariant-loop-mon
invariant-loop-mon l = l.shared.items ≡ l.yielded
