use Rattle.std.proofs.Common.{◌≡◌, map}
use Rattle.std.specs.List.{range_with_len}
use Rattle.tk_bytes.specs.Greeting.{AreMade}
use Rattle.tk_bytes.specs.Wired.{seat_of}
use Rattle.tk_world.specs.Nodes.{fresh_seat}
use Rattle.tk_bytes.proofs.wired.making.new_lines.Given as goal

-- the monitors passed are at the ends of lines
abbrev pub invariant-loop-j : goal.invariant-loop-j
invariant-loop-j l = record {
  made : AreMade l.j l.hub l.lines.items;
  seats : map seat_of l.lines.items ≡ map (fresh_seat l.plan.settings.now l.plan.logs.now l.plan.from.now) (range_with_len 1 l.j);
  coordinator : l.hub.coordinator ≡ l.fn.hub.coordinator;
}
