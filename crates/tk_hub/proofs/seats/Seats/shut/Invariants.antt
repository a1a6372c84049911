use Rattle.std.proofs.Common.{◌≡◌, ◌<◌, ◌≤◌, ℕ, length}
use Rattle.tk_hub.specs.Seats.{SeatShuts, link_at}
use Rattle.tk_hub.proofs.seats.Seats.shut.Given as goal

-- the seats passed are shut, and the others are as they were
abbrev pub invariant-loop-place : goal.invariant-loop-place
invariant-loop-place g l =
    (l.self ≡ record l.initial.self { links = l.self.links })
    × (length l.self.links ≡ length l.initial.self.links)
    × ((i : ℕ) → i < l.place → SeatShuts (link_at l.initial.self.links i) (link_at l.self.links i))
    × ((i : ℕ) → l.place ≤ i → link_at l.self.links i ≡ link_at l.initial.self.links i)
