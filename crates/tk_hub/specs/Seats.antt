-- The coordinator with a seat for each monitor, which is taken once that has greeted.
use Rattle.std.specs.Prelude.{◌≡◌, ◌<◌, ◌≤◌, ℕ, ◌+◌, ◌-◌, Bool, false, not, ◌&&◌, nat_lt, List, [], ◌∷◌, length, take, get_or, set, Option, Some, None, ⊤}
use Rattle.tk_coord.specs.Coordinator.{CoordinatorView, IsJournal}
use Rattle.tk_frames.specs.Spelling.{IsVersion}
use Rattle.tk_frames.specs.declared.frame.Frame.{Frame}
use Rattle.tk_frames.specs.declared.frame.Frame.TheVariants as f
use Rattle.tk_journal.specs.Links.{frames_from, frames_to}
use Rattle.tk_journal.specs.declared.noted.Noted.{Noted}
use Rattle.tk_end.specs.Link.{IsEnd, IsShut, LinkView}

-- the number of the run, the coordinator, and for each monitor its link, if it has greeted
pub record SeatsView (W : Type 0) : Type 0 where
  pub run : ℕ
  pub coordinator : CoordinatorView
  pub links : List (Option (LinkView W))

-- how many monitors there are
abbrev pub monitors_of : {W : Type 0} → SeatsView W → ℕ
monitors_of seats = seats.coordinator.settings.monitors

-- the link at a place from 0, if that seat is taken
abbrev pub link_at : {W : Type 0} → List (Option (LinkView W)) → ℕ → Option (LinkView W)
link_at links place = get_or links place None

-- the link of a monitor, if that is admitted
abbrev pub link_of : {W : Type 0} → List (Option (LinkView W)) → ℕ → Option (LinkView W)
link_of links mon = link_at links (mon - 1)

-- the links before, but for that of one monitor as it is now
abbrev pub with_link : {W : Type 0} → ℕ → List (Option (LinkView W)) → List (Option (LinkView W)) → List (Option (LinkView W))
with_link mon now links = set links (mon - 1) (link_of now mon)

-- the seats before, but with the coordinator and the link of one monitor as they are now
abbrev pub with_seat : {W : Type 0} → ℕ → SeatsView W → SeatsView W → SeatsView W
with_seat mon now seats = record seats { coordinator = now.coordinator; links = with_link mon now.links seats.links }

-- whether a seat is taken by a link that is not shut
abbrev pub is_used : {W : Type 0} → Option (LinkView W) → Bool
is_used None = false
is_used (Some link) = not link.shut

-- whether a monitor is admitted, by a connection that is not shut
abbrev pub admits : {W : Type 0} → List (Option (LinkView W)) → ℕ → Bool
admits links mon = nat_lt 0 mon && is_used (link_of links mon)

-- the frames that were heard of a monitor: its Hello, and those that the coordinator has taken
abbrev pub heard_at : {W : Type 0} → ℕ → List Noted → ℕ → LinkView W → List Frame
heard_at run journal mon link = f.Hello run link.version (record { 0 = mon }) ∷ frames_from mon journal

-- the frames that were said to it: those that the coordinator has sent and that are written
abbrev pub said_at : {W : Type 0} → List Noted → ℕ → LinkView W → List Frame
said_at journal mon link = take link.written (frames_to mon journal)

-- Hello and the frames taken are a front of the parse of what came, and what went is a front of the bytes of those sent
pub record IsSeated {W : Type 0} (run : ℕ) (journal : List Noted) (mon : ℕ) (link : LinkView W) : Type 0 where
  pub version : IsVersion link.version
  pub written : link.written ≤ length (frames_to mon journal)
  pub ends : IsEnd link (heard_at run journal mon link) (said_at journal mon link)

-- of a monitor that has not greeted nothing was taken
abbrev pub IsSeat : {W : Type 0} → ℕ → List Noted → ℕ → Option (LinkView W) → Type 0
IsSeat run journal mon None = frames_from mon journal ≡ []
IsSeat run journal mon (Some link) = IsSeated run journal mon link

-- the journal is legal, and each seat is that of its monitor
pub record AreSeats {W : Type 0} (seats : SeatsView W) : Type 0 where
  pub journal : IsJournal seats.coordinator.settings seats.coordinator.journal
  pub count : length seats.links ≡ seats.coordinator.settings.monitors
  pub each : (place : ℕ) → place < length seats.links → IsSeat seats.run seats.coordinator.journal (place + 1) (link_at seats.links place)

-- no more frames are written than were sent
abbrev pub IsWithin : {W : Type 0} → ℕ → CoordinatorView → Option (LinkView W) → Type 0
IsWithin mon c None = ⊤
IsWithin mon c (Some link) = link.written ≤ length (frames_to mon c.journal)

-- there is such a monitor, and its seat is free
pub record IsFree {W : Type 0} (mon monitors : ℕ) (links : List (Option (LinkView W))) : Type 0 where
  pub some : 0 < mon
  pub within : mon ≤ monitors
  pub free : link_at links (mon - 1) ≡ None

-- so many frames are written at a seat, and all that was written is given
abbrev pub HasGiven : {W : Type 0} → ℕ → Option (LinkView W) → Type 0
HasGiven count None = ⊥
HasGiven count (Some link) = (link.written ≡ count) × (link.output ≡ [])

-- every seat is taken, and all that was sent to its monitor is given
abbrev pub IsAllGiven : {W : Type 0} → CoordinatorView → List (Option (LinkView W)) → Type 0
IsAllGiven c links = (place : ℕ) → place < length links → HasGiven (length (frames_to (place + 1) c.journal)) (link_at links place)

-- the link of a seat is shut, and all else there is as it was
abbrev pub SeatShuts : {W : Type 0} → Option (LinkView W) → Option (LinkView W) → Type 0
SeatShuts None new = new ≡ None
SeatShuts (Some x) None = ⊥
SeatShuts (Some x) (Some y) = IsShut x y

-- so it is at each seat
abbrev pub EachShuts : {W : Type 0} → List (Option (LinkView W)) → List (Option (LinkView W)) → Type 0
EachShuts old new = (place : ℕ) → SeatShuts (link_at old place) (link_at new place)
