use Rattle.std.proofs.Common.{◌≡◌, ◌<◌, ℕ, false}
use Rattle.tk_hub.specs.Lost.{is_lost_at}
use Rattle.tk_hub.specs.Seats.{link_at}
use Rattle.tk_hub.proofs.seats.Seats.lost.Given as goal

-- at the seats passed no wire failed or ended
abbrev pub invariant-loop-place : goal.invariant-loop-place
invariant-loop-place g l = (i : ℕ) → i < l.place → is_lost_at (link_at l.self.links i) ≡ false
