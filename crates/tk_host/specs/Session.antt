-- A session as it was: what was told in it, the coordinator's journal, and how it was left.
use Rattle.std.specs.Prelude.{ℕ, ◌≡◌, Bool, true, false, List, [], ◌∷◌, ◌++◌, filter_map, fold, Option, Some, None, ⊤}
use Rattle.tk_base.specs.History.{IsFront}
use Rattle.tk_base.specs.Settings.{Setup}
use Rattle.tk_journal.specs.Laws.{HasEnded}
use Rattle.tk_journal.specs.Legal.{IsLegal, start}
use Rattle.tk_journal.specs.Publishing.{publications}
use Rattle.tk_journal.specs.declared.noted.Noted.{Noted}
use Rattle.tk_journal.specs.declared.publication.Publication.{Publication}
use Rattle.tk_host.specs.Room.{IsFull}
use Rattle.tk_host.specs.Seats.{has_joined, has_stand_in, is_missing}
use Rattle.tk_host.specs.declared.cause.Cause.TheVariants as c
use Rattle.tk_host.specs.declared.over.Over.{Over}
use Rattle.tk_host.specs.declared.over.Over.TheVariants as o
use Rattle.tk_host.specs.declared.seat.Seat.{Seat}

-- what a coordinator tells of a session: a seat is taken, by a monitor that joins with its greeting or by a stand-in for one
-- that is missing; or a set is published
pub data Told : Type 0 where
  Seated : Seat → Told
  Published : Publication → Told

-- a session as it was
pub record PastSession : Type 0 where
  pub told : List Told
  pub journal : List Noted
  pub over : Over

-- the seats that are taken once one thing more is told
abbrev pub seats_by : List Seat → Told → List Seat
seats_by seats (Seated seat) = seats ++ seat ∷ []
seats_by seats (Published p) = seats

-- the seats that are taken, in order
abbrev pub seats_in : List Told → List Seat
seats_in told = fold seats_by [] told

-- the set that is told, if one is
abbrev pub set_in : Told → Option Publication
set_in (Seated seat) = None
set_in (Published p) = Some p

-- the sets that are told, in order
abbrev pub sets_in : List Told → List Publication
sets_in told = filter_map set_in told

-- whether a session that was left so may have published what it did not tell
abbrev pub leaves_out : Over → Bool
leaves_out o.Finished = false
leaves_out (o.Ended (c.Link mon)) = false
leaves_out (o.Ended (c.Refused mon)) = false
leaves_out (o.Ended (c.Bad mon)) = false
leaves_out (o.Ended (c.Again mon)) = false
leaves_out (o.Ended (c.Back mon)) = false
leaves_out (o.Ended (c.Early mon)) = true
leaves_out (o.Ended c.Full) = false
leaves_out (o.Ended c.Memory) = true
leaves_out o.HostFailed = false
leaves_out o.WriteFailed = true

-- a session that was left by a cause, so that another one follows
abbrev pub IsEnded : Over → Type 0
IsEnded o.Finished = ⊥
IsEnded (o.Ended cause) = ⊤
IsEnded o.HostFailed = ⊥
IsEnded o.WriteFailed = ⊥

-- by the seats that were taken and by the journal: a monitor that greeted again had joined, one that came back was missing, and
-- a journal that was full is. No session is finished while a monitor is missing
abbrev pub IsCausedBy : List Seat → List Noted → Over → Type 0
IsCausedBy seats journal o.Finished = has_stand_in seats ≡ false
IsCausedBy seats journal (o.Ended (c.Link mon)) = Unit {0}
IsCausedBy seats journal (o.Ended (c.Refused mon)) = Unit {0}
IsCausedBy seats journal (o.Ended (c.Bad mon)) = Unit {0}
IsCausedBy seats journal (o.Ended (c.Again mon)) = has_joined seats mon.0 ≡ true
IsCausedBy seats journal (o.Ended (c.Back mon)) = is_missing seats mon.0 ≡ true
IsCausedBy seats journal (o.Ended (c.Early mon)) = is_missing seats mon.0 ≡ true
IsCausedBy seats journal (o.Ended c.Full) = IsFull journal
IsCausedBy seats journal (o.Ended c.Memory) = Unit {0}
IsCausedBy seats journal o.HostFailed = Unit {0}
IsCausedBy seats journal o.WriteFailed = Unit {0}

-- a session over these settings, with stand-ins after so many seconds, if at all: its journal is legal from the start; the sets
-- that it published are told, in order; it was left by what it says; and where it is finished its journal has ended, with the
-- final set, and nobody is missing
pub record IsSession (settings : Setup) (missing : Option ℕ) (s : PastSession) : Type 0 where
  pub legal : IsLegal (start settings) s.journal
  pub told_in_order : IsFront (sets_in s.told) (publications s.journal)
  pub told_all : leaves_out s.over ≡ false → sets_in s.told ≡ publications s.journal
  pub caused : IsCausedBy (seats_in s.told) s.journal s.over
  pub attended : missing ≡ None → has_stand_in (seats_in s.told) ≡ false
  pub ended : s.over ≡ o.Finished → HasEnded settings s.journal
