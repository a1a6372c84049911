-- The lines of a coordinator, in bytes, each with its line feed.
use Rattle.std.specs.Prelude.{ℕ, if◌then◌else◌, ◌++◌, List, [], ◌∷◌, ◌+◌, length, flat_map, codes, decimal}
use Rattle.std.specs.Fmt.{signed_decimal}
use Rattle.std.specs.List.{join_by, range_with_len}
use Rattle.tk_base.specs.declared.ids.Mon.{Mon}
use Rattle.tk_input.specs.Logs.{places_of}
use Rattle.tk_journal.specs.Line.{kind_text, names_text}
use Rattle.tk_journal.specs.declared.publication.Publication.{Publication}
use Rattle.tk_wire.specs.declared.beginning.Beginning.{Beginning}
use Rattle.tk_wire.specs.declared.greeting.Greeting.{Greeting}
use Rattle.tk_host.specs.Origins.{absolute}
use Rattle.tk_host.specs.Seats.{beginnings_of, is_missing}
use Rattle.tk_host.specs.Session.{PastSession, Told, Seated, Published, seats_by}
use Rattle.tk_host.specs.declared.over.Over.{Over}
use Rattle.tk_host.specs.declared.over.Over.TheVariants as o
use Rattle.tk_host.specs.declared.cause.Cause.{Cause}
use Rattle.tk_host.specs.declared.cause.Cause.TheVariants as c
use Rattle.tk_host.specs.declared.seat.Seat.{Seat}
use Rattle.tk_host.specs.declared.seat.Seat.TheVariants as st

-- where the coordinator listens
abbrev pub listening_text : List ℕ → List ℕ
listening_text address = codes "listening " ++ address ++ codes "\n"

-- a session begins
abbrev pub session_text : ℕ → List ℕ
session_text number = codes "session " ++ decimal number ++ codes "\n"

-- how many records each stream has given, joined by commas
abbrev pub counts_text : List Beginning → List ℕ
counts_text beginnings = join_by (λ b. decimal b.count) (codes ",") beginnings

-- a monitor joins: its absolute places are then the counts of its streams
abbrev pub joined_text : Greeting → List ℕ
joined_text g = codes "joined " ++ decimal g.mon.0 ++ codes " at " ++ counts_text g.beginnings.items ++ codes "\n"

-- a monitor is missing
abbrev pub missing_text : Mon → List ℕ
missing_text mon = codes "missing " ++ decimal mon.0 ++ codes "\n"

-- a seat is taken
abbrev pub seat_text : Seat → List ℕ
seat_text (st.Joined g) = joined_text g
seat_text (st.Missing mon) = missing_text mon

-- the absolute places of a monitor, joined by commas
abbrev pub absolute_text : List Beginning → List ℕ → List ℕ
absolute_text beginnings places = join_by (λ i. signed_decimal (absolute beginnings places i)) (codes ",") (range_with_len 0 (length places))

-- the places of a monitor in a cut: the absolute ones, or that it is missing
abbrev pub places_text : List Seat → ℕ → List ℕ → List ℕ
places_text seats mon places = if is_missing seats mon then codes "-" else absolute_text (beginnings_of seats mon) places

-- a monitor with its places
abbrev pub monitor_text : List Seat → List (List ℕ) → ℕ → List ℕ
monitor_text seats cut mon = codes " " ++ decimal mon ++ codes ":" ++ places_text seats mon (places_of cut mon)

-- all monitors of a cut, ascending
abbrev pub cut_text : List Seat → List (List ℕ) → List ℕ
cut_text seats cut = flat_map (monitor_text seats cut) (range_with_len 1 (length cut))

-- a publication, with its cut at the absolute places by the seats that are taken
abbrev pub set_text : List (List ℕ) → List Seat → Publication → List ℕ
set_text names seats p =
    kind_text p.last ++ decimal p.number
    ++ codes " cut" ++ cut_text seats p.cut
    ++ codes " members" ++ names_text names p.members
    ++ codes "\n"

-- why a session ended
abbrev pub cause_text : Cause → List ℕ
cause_text (c.Link mon) = codes "link " ++ decimal mon.0
cause_text (c.Refused mon) = codes "refused " ++ decimal mon.0
cause_text (c.Bad mon) = codes "bad " ++ decimal mon.0
cause_text (c.Again mon) = codes "again " ++ decimal mon.0
cause_text (c.Back mon) = codes "back " ++ decimal mon.0
cause_text (c.Early mon) = codes "early " ++ decimal mon.0
cause_text c.Full = codes "full"
cause_text c.Memory = codes "memory"

-- a session ended
abbrev pub ended_text : ℕ → Cause → List ℕ
ended_text number cause = codes "ended " ++ decimal number ++ codes " " ++ cause_text cause ++ codes "\n"

-- ---- sessions

-- the line of what is told, where these seats are taken
abbrev pub line_of : List (List ℕ) → List Seat → Told → List ℕ
line_of names seats (Seated seat) = seat_text seat
line_of names seats (Published p) = set_text names seats p

-- the lines of what is told, one behind the other
abbrev pub told_text : List (List ℕ) → List Seat → List Told → List ℕ
told_text names seats [] = []
told_text names seats (told ∷ rest) = line_of names seats told ++ told_text names (seats_by seats told) rest

-- what is written as a session is left
abbrev pub over_text : ℕ → Over → List ℕ
over_text number o.Finished = []
over_text number (o.Ended cause) = ended_text number cause
over_text number o.HostFailed = []
over_text number o.WriteFailed = []

-- the text of a session
abbrev pub text_of : List (List ℕ) → ℕ → PastSession → List ℕ
text_of names number s = session_text number ++ (told_text names [] s.told ++ over_text number s.over)

-- the text of sessions from a number on
abbrev pub sessions_text : List (List ℕ) → ℕ → List PastSession → List ℕ
sessions_text names number [] = []
sessions_text names number (s ∷ rest) = text_of names number s ++ sessions_text names (number + 1) rest
