-- Who sits in a session.
use Rattle.std.specs.Prelude.{ℕ, ◌==◌, Bool, true, false, if◌then◌else◌, List, [], ◌∷◌}
use Rattle.std.specs.List.{list_any}
use Rattle.tk_wire.specs.declared.beginning.Beginning.{Beginning}
use Rattle.tk_host.specs.declared.seat.Seat.{Seat}
use Rattle.tk_host.specs.declared.seat.Seat.TheVariants as st

-- whether a monitor has joined in a seat
abbrev pub joins : ℕ → Seat → Bool
joins mon (st.Joined g) = g.mon.0 == mon
joins mon (st.Missing m) = false

-- whether a stand-in sits there for a monitor
abbrev pub misses : ℕ → Seat → Bool
misses mon (st.Joined g) = false
misses mon (st.Missing m) = m.0 == mon

-- whether a stand-in sits there
abbrev pub is_stand_in : Seat → Bool
is_stand_in (st.Joined g) = false
is_stand_in (st.Missing m) = true

-- whether a monitor has joined
abbrev pub has_joined : List Seat → ℕ → Bool
has_joined seats mon = list_any (joins mon) seats

-- whether a monitor is missing, so that a stand-in sits in its seat
abbrev pub is_missing : List Seat → ℕ → Bool
is_missing seats mon = list_any (misses mon) seats

-- whether any is
abbrev pub has_stand_in : List Seat → Bool
has_stand_in seats = list_any is_stand_in seats

-- how the streams of the monitor of a seat began, where it has joined
abbrev pub beginnings_in : Seat → List Beginning
beginnings_in (st.Joined g) = g.beginnings.items
beginnings_in (st.Missing m) = []

-- how the streams of a monitor began, by who has joined
abbrev pub beginnings_of : List Seat → ℕ → List Beginning
beginnings_of [] mon = []
beginnings_of (seat ∷ seats) mon = if joins mon seat then beginnings_in seat else beginnings_of seats mon
