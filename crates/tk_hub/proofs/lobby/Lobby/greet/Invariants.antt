use Rattle.std.proofs.Common.{◌≡◌, ◌≤◌}
use Rattle.slab.specs.Slab.{slab_len}
use Rattle.tk_hub.specs.Door.{GreetsUpTo}
use Rattle.tk_hub.specs.Hub.{EachOpen}
use Rattle.tk_hub.specs.Seats.{AreSeats}
use Rattle.tk_hub.proofs.lobby.Lobby.greet.Given as goal

-- the connections at the keys passed were greeted
abbrev pub invariant-loop-key : goal.invariant-loop-key
invariant-loop-key g l =
    GreetsUpTo g.W.Wire.counts l.initial.seats.run l.initial.seats.coordinator.settings.monitors l.key (record { lobby = l.initial.self; links = l.initial.seats.links }) (record { lobby = l.self; links = l.seats.links })
    × (l.seats ≡ record l.initial.seats { links = l.seats.links })
    × (AreSeats l.initial.seats → AreSeats l.seats)
    × (EachOpen l.initial.seats.links → EachOpen l.seats.links)
    × (slab_len l.self.held ≤ 64)
    × (l.initial.self.strangers ≤ l.self.strangers)
