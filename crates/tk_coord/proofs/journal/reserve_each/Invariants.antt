use Rattle.std.proofs.Common.{◌≡◌, ℕ, ◌+◌, ◌<◌, ◌≤◌, Some, vec_len, vec_capacity}
use Rattle.std.specs.Global.{Vec}
use Rattle.std.specs.Prelude.{slice_get}
use Rattle.tk_coord.proofs.journal.reserve_each.Given as goal

-- the lists up to here have room, and all hold what they held
abbrev pub invariant-loop-places : goal.invariant-loop-places
invariant-loop-places l = record {
  room : (j : ℕ) (v : Vec ℕ) → j < l.places-index → slice_get l.sent j ≡ Some v → vec_len v + l.more ≤ vec_capacity v;
  kept : (j : ℕ) (v : Vec ℕ) → slice_get l.sent j ≡ Some v → (w : Vec ℕ) × (slice_get l.initial.sent j ≡ Some w) × (v.items ≡ w.items);
}
