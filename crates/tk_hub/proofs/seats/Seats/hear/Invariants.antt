use Rattle.tk_hub.specs.Seats.{AreSeats}
use Rattle.tk_hub.proofs.HearLemmas.{HearsUpTo}
use Rattle.tk_hub.proofs.seats.Seats.hear.Given as goal

-- the seats passed were heard
abbrev pub invariant-loop-place : goal.invariant-loop-place
invariant-loop-place g l = HearsUpTo l.place l.turn l.initial.self l.self × AreSeats l.self
