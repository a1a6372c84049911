use Rattle.std.proofs.Common.{◌≡◌, ◌≤◌, length, map, vec_capacity}
use Rattle.tk_live.specs.Crew.{made_in}
use Rattle.tk_live.specs.Slots.{slot_made}
use Rattle.tk_live.proofs.crew.start.Given as goal

-- a worker was started for each port passed
abbrev pub invariant-loop-berth : goal.invariant-loop-berth
invariant-loop-berth g l = record {
  made : map slot_made l.slots.items ≡ map (λ b. made_in b.port.monitor b.version) l.yielded;
  count : length l.slots.items ≡ length l.yielded;
  room : length l.fn.berths.items ≤ vec_capacity l.slots;
}
