use Rattle.std.proofs.Common.{◌≡◌, length}
use Rattle.tk_input.specs.Order.{left_after}
use Rattle.tk_input.proofs.lines.Lines.next.Given as goal

-- the lines that were passed over are empty
abbrev pub invariant-loop-self : goal.invariant-loop-self
invariant-loop-self l = left_after l.self-inside.number l.self-inside.rest.now ≡ l.fn.self

abbrev pub decreases-loop-self : goal.decreases-loop-self
decreases-loop-self l = length l.self-inside.rest.now
