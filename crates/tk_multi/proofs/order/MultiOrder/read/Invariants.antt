use Rattle.std.proofs.Common.{◌≡◌, length}
use Rattle.tk_input.specs.Records.{through}
use Rattle.tk_multi.specs.Order.{line_added, multi_order_of}
use Rattle.tk_multi.proofs.order.MultiOrder.read.Given as goal

-- what is left adds to the events so far what the file adds to none, and each has its line
abbrev pub invariant-loop-number : goal.invariant-loop-number
invariant-loop-number l = record {
  same : through line_added (record { events = l.events.items; lines = l.lines.items }) l.left ≡ multi_order_of l.fn.bytes;
  pairs : length l.events.items ≡ length l.lines.items;
}

abbrev pub decreases-loop-number : goal.decreases-loop-number
decreases-loop-number l = length l.left
