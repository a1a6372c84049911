use Rattle.std.proofs.Common.{◌+◌, ◌<◌, ℕ, length}
use Rattle.tk_journal.specs.Links.{frames_to}
use Rattle.tk_hub.specs.Seats.{HasGiven, link_at}
use Rattle.tk_hub.proofs.seats.Seats.has_said_all.Given as goal

-- at the seats passed all is given
abbrev pub invariant-loop-place : goal.invariant-loop-place
invariant-loop-place g l = (i : ℕ) → i < l.place → HasGiven (length (frames_to (i + 1) l.self.coordinator.journal)) (link_at l.self.links i)
