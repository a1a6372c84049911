use Rattle.std.proofs.Common.{◌≡◌, ◌≤◌, length, map, vec_capacity}
use Rattle.tk_live.specs.Crew.{made_in}
use Rattle.tk_live.specs.Slots.{slot_made}
use Rattle.tk_live.proofs.crew.join_all.Given as goal

-- what the workers passed left
abbrev pub invariant-loop-slot : goal.invariant-loop-slot
invariant-loop-slot g l = record {
  made : map (λ w. made_in w.served.end.monitor w.version) l.all.items ≡ map slot_made l.yielded;
  count : length l.all.items ≡ length l.yielded;
  room : length l.fn.slots.items ≤ vec_capacity l.all;
}
