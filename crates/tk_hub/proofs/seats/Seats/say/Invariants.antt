use Rattle.std.proofs.Common.{◌≡◌, true}
use Rattle.tk_hub.proofs.SayLemmas.{SaidUpTo}
use Rattle.tk_hub.specs.Seats.{AreSeats, SeatsView}
use Rattle.tk_hub.specs.Turn.{Hears, goes_on}
use Rattle.tk_hub.specs.declared.course.HubTurn.{HubTurn}
use Rattle.tk_hub.proofs.seats.Seats.say.Given as goal

-- at the seats passed all is said, and what was heard before stays so
abbrev pub invariant-loop-place : goal.invariant-loop-place
invariant-loop-place g l =
    (l.self ≡ record l.initial.self { links = l.self.links })
    × SaidUpTo l.place l.self.coordinator l.self.links
    × ((old : SeatsView g.row.W.Denot) (turn : HubTurn) → goes_on turn ≡ true → Hears turn old l.initial.self → Hears turn old l.self)
    × AreSeats l.self
