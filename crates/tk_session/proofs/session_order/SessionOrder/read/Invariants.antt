use Rattle.std.proofs.Common.{◌≡◌, length}
use Rattle.tk_input.specs.Records.{through}
use Rattle.tk_session.specs.Order.{line_added, session_order_of}
use Rattle.tk_session.proofs.session_order.SessionOrder.read.Given as goal

-- what is left adds to the order so far what the file adds to none
abbrev pub invariant-loop-number : goal.invariant-loop-number
invariant-loop-number l = through line_added l.order l.left ≡ session_order_of l.fn.bytes

abbrev pub decreases-loop-number : goal.decreases-loop-number
decreases-loop-number l = length l.left
