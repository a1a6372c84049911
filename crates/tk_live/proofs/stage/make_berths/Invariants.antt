use Rattle.std.proofs.Common.{◌≡◌, ◌≤◌, All, length, map, vec_capacity}
use Rattle.std.specs.List.{range_with_len}
use Rattle.tk_live.specs.Hosting.{HasGone}
use Rattle.tk_live.specs.Made.{planned}
use Rattle.tk_live.specs.Slots.{berth_made}
use Rattle.tk_live.proofs.stage.make_berths.Given as goal

-- the ports of the monitors passed were made, over as many links
abbrev pub invariant-loop-j : goal.invariant-loop-j
invariant-loop-j g l = record {
  made : map berth_made l.berths.items ≡ map (planned l.plan) (range_with_len 1 l.j);
  runs : All (λ b. b.port.run ≡ l.plan.run) l.berths.items;
  gone : HasGone (g.N.Net.state l.fn.net) (g.N.Net.state l.net);
  count : length l.berths.items ≡ l.j;
  room : l.count ≤ vec_capacity l.berths;
  links : (g.N.Net.state l.net).links ≡ l.j;
}
