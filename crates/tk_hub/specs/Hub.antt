-- A hub, as contracts see it, and what its type keeps.
use Rattle.std.specs.Prelude.{◌≡◌, ◌≤◌, ◌-◌, ℕ, [], List, length, Bool, true, false, Option, Some, None, IfSome, Result, IsErr}
use Rattle.slab.specs.Slab.{Slab, slab_len}
use Rattle.tk_base.specs.declared.memory.NoMemory.{NoMemory}
use Rattle.tk_coord.specs.Coordinator.{CoordinatorView}
use Rattle.tk_journal.specs.Readings.{is_stopped}
use Rattle.tk_wire.specs.Meanings.{Counts}
use Rattle.tk_end.specs.Link.{LinkView, Passes}
use Rattle.tk_hub.specs.Door.{DoorView, GreetsHeld, LobbyView}
use Rattle.tk_hub.specs.Lines.{IsAt}
use Rattle.tk_hub.specs.Seats.{AreSeats, EachShuts, IsAllGiven, SeatShuts, SeatsView, link_at}
use Rattle.tk_hub.specs.Slot.{EndsOne, TakesUpTo}
use Rattle.tk_hub.specs.Turn.{CountsAt, CountsEach, EachSaid, EndsEach, GivesPieces, HoldsAt, IsBadAt, IsRefusedAt, Reaches, SomeLost, course_of, goes_on, is_open}
use Rattle.tk_hub.specs.Visitor.{VisitorView}
use Rattle.tk_hub.specs.Writing.{CutsWhere, WritesUnless}
use Rattle.tk_hub.specs.declared.course.Course.{Course}
use Rattle.tk_hub.specs.declared.course.Course.TheVariants as cs
use Rattle.tk_hub.specs.declared.course.HubTurn.{HubTurn}
use Rattle.tk_hub.specs.declared.course.HubTurn.TheVariants as t
use Rattle.tk_hub.specs.declared.lines.Lines.{Lines}

-- the number of its run, its coordinator, for each monitor its link if it was admitted, the connections that are held
-- and the count of those closed, how far lines are written, and whether it goes on
pub record HubView (W : Type 0) : Type 0 where
  pub run : ℕ
  pub coordinator : CoordinatorView
  pub links : List (Option (LinkView W))
  pub held : Slab (VisitorView W)
  pub strangers : ℕ
  pub lines : Lines
  pub course : Course

-- the seats of a hub: its run, its coordinator and its links
abbrev pub seats_of : {W : Type 0} → HubView W → SeatsView W
seats_of hub = record { run = hub.run; coordinator = hub.coordinator; links = hub.links }

-- the door of a hub: its links beside the connections that are held and the count of those closed
abbrev pub door_of : {W : Type 0} → HubView W → DoorView W
door_of hub = record { lobby = record { held = hub.held; strangers = hub.strangers }; links = hub.links }

-- the hub before, but with another door
abbrev pub with_door : {W : Type 0} → DoorView W → HubView W → HubView W
with_door now hub = record hub { held = now.lobby.held; strangers = now.lobby.strangers; links = now.links }

-- what a turn writes where the sink does not fail: the lines of the publications that were passed since
abbrev pub Writes : {W : Type 0} → HubTurn → List (List ℕ) → HubView W → HubView W → Option (List ℕ) → Option (List ℕ) → Type 0
Writes turn names old new before now = WritesUnless turn names new.coordinator.journal old.lines new.lines before now

-- what it writes where the sink fails: these lines, and a front of the next
abbrev pub Cuts : {W : Type 0} → HubTurn → List (List ℕ) → HubView W → HubView W → Option (List ℕ) → Option (List ℕ) → Type 0
Cuts turn names old new before now = CutsWhere turn names new.coordinator.journal old.lines new.lines before now

-- ---- the course

-- no wire of an admitted monitor is shut
abbrev pub EachOpen : {W : Type 0} → List (Option (LinkView W)) → Type 0
EachOpen links = (place : ℕ) → IfSome (link_at links place) (λ link. link.shut ≡ false)

-- every wire is shut, and no connection is held
pub record IsClosed {W : Type 0} (links : List (Option (LinkView W))) (held : Slab (VisitorView W)) : Type 0 where
  pub shut : (place : ℕ) → IfSome (link_at links place) (λ link. link.shut ≡ true)
  pub held_none : held.slots ≡ []

-- an open hub's wires are not shut; on any other course they are, and what stands next is what that course says
abbrev pub IsOnCourse : {W : Type 0} → CoordinatorView → List (Option (LinkView W)) → Slab (VisitorView W) → Course → Type 0
IsOnCourse coordinator links held cs.Open = EachOpen links
IsOnCourse coordinator links held cs.Halted = IsClosed links held
IsOnCourse coordinator links held cs.Failed = IsClosed links held × SomeLost links
IsOnCourse coordinator links held (cs.Refused mon why) = IsClosed links held × HoldsAt links mon.0 (IsRefusedAt mon.0 coordinator why)
IsOnCourse coordinator links held (cs.Bad mon fault) = IsClosed links held × HoldsAt links mon.0 (IsBadAt fault)
IsOnCourse coordinator links held cs.WriteFailed = IsClosed links held

-- the journal is legal, each link is that of its monitor, and lines are written of what the journal publishes
pub record IsHub {W : Type 0} (hub : HubView W) : Type 0 where
  pub seats : AreSeats (seats_of hub)
  pub lines : IsAt hub.coordinator.journal hub.lines
  pub few : slab_len hub.held ≤ 64
  pub course : IsOnCourse hub.coordinator hub.links hub.held hub.course

-- the final line is written, and all output is given
pub record IsFinishedBy {W : Type 0} (seats : SeatsView W) (lines : Lines) : Type 0 where
  pub stopped : is_stopped seats.coordinator.journal ≡ true
  pub written : lines.passed ≡ length seats.coordinator.journal
  pub given : IsAllGiven seats.coordinator seats.links

-- so it is with a hub
abbrev pub IsFinished : {W : Type 0} → HubView W → Type 0
IsFinished hub = IsFinishedBy (seats_of hub) hub.lines

-- the links and those that are held stay as they are, or all links are shut and nobody is held any more
abbrev pub Closes : {W : Type 0} → Bool → DoorView W → DoorView W → Type 0
Closes true old new = new ≡ old
Closes false old new = EachShuts old.links new.links × (new.lobby.held.slots ≡ []) × (new.lobby.strangers ≡ old.lobby.strangers)

-- ---- a turn

-- bytes passed over the link of a seat, and a seat that is free stays so
abbrev pub SlotPasses : {W : Type 0} → Option (LinkView W) → Option (LinkView W) → Type 0
SlotPasses None new = new ≡ None
SlotPasses (Some x) None = ⊥
SlotPasses (Some x) (Some y) = Passes 0 x y

-- frames were taken of each monitor, and where the turn goes on all that was sent is said, and all lines are written
pub record Exchanges {W : Type 0} (turn : HubTurn) (old new : SeatsView W) (lines : Lines) : Type 0 where
  pub run : new.run ≡ old.run
  pub reaches : Reaches old.coordinator new.coordinator
  pub passes : (place : ℕ) → SlotPasses (link_at old.links place) (link_at new.links place)
  pub more : turn ≡ t.More → GivesPieces old.links new.links
  pub ends : EndsEach turn new.coordinator new.links
  pub counts : CountsEach turn new.coordinator old.links new.links
  pub said : goes_on turn ≡ true → EachSaid new.coordinator new.links
  pub written : goes_on turn ≡ true → lines.passed ≡ length new.coordinator.journal
  pub unfinished : goes_on turn ≡ true → IsFinishedBy new lines → ⊥
  pub finished : turn ≡ t.Finished → IsFinishedBy new lines

-- a turn of an open hub, whose wires have these counts: those that are held are greeted, and then, where that found the
-- memory, frames are exchanged
pub record Turns {W : Type 0} (counts : W → Counts) (turn : HubTurn) (old new : HubView W) : Type 0 where
  pub course : new.course ≡ course_of turn
  pub greeted : DoorView W
  pub welcome : Result (Unit {0}) NoMemory
  pub greets : GreetsHeld counts old.run old.coordinator.settings.monitors welcome (door_of old) greeted
  pub memory : IsErr welcome → turn ≡ t.NoMemory
  pub exchanges : Exchanges turn (record { run = old.run; coordinator = old.coordinator; links = greeted.links }) (seats_of new) new.lines
  pub strangers : new.strangers ≡ greeted.lobby.strangers
  pub held : is_open (course_of turn) ≡ true → new.held ≡ greeted.lobby.held

-- the same of the seats and of those that are held, before its course is known
pub record Works {W : Type 0} (counts : W → Counts) (turn : HubTurn) (old : SeatsView W) (before : LobbyView W) (new : SeatsView W) (after : LobbyView W) (lines : Lines) : Type 0 where
  pub greeted : DoorView W
  pub welcome : Result (Unit {0}) NoMemory
  pub greets : GreetsHeld counts old.run old.coordinator.settings.monitors welcome (record { lobby = before; links = old.links }) greeted
  pub memory : IsErr welcome → turn ≡ t.NoMemory
  pub exchanges : Exchanges turn (record { run = old.run; coordinator = old.coordinator; links = greeted.links }) new lines
  pub lobby : after ≡ greeted.lobby

-- bytes came over a link, and nothing was written or given
pub record TakesFrom {W : Type 0} (old new : LinkView W) : Type 0 where
  pub passes : Passes 0 old new
  pub output : new.output ≡ old.output
  pub written : new.written ≡ old.written

-- a turn of one frame of the monitor of a link
pub record TurnsOne {W : Type 0} (mon : ℕ) (turn : HubTurn) (old new : HubView W) : Type 0 where
  pub run : new.run ≡ old.run
  pub course : new.course ≡ course_of turn
  pub strangers : new.strangers ≡ old.strangers
  pub lines : new.lines ≡ old.lines
  pub before : LinkView W
  pub now : LinkView W
  pub was : link_at old.links (mon - 1) ≡ Some before
  pub is : link_at new.links (mon - 1) ≡ Some now
  pub takes : TakesUpTo turn mon old.coordinator new.coordinator
  pub passes : TakesFrom before now
  pub ends : EndsOne mon new.coordinator now turn
  pub counts : CountsAt mon new.coordinator before now turn
  pub others : is_open (course_of turn) ≡ true → (place : ℕ) → (place ≡ mon - 1 → ⊥) → link_at new.links place ≡ link_at old.links place
  pub others_shut : is_open (course_of turn) ≡ false → (place : ℕ) → (place ≡ mon - 1 → ⊥) → SeatShuts (link_at old.links place) (link_at new.links place)
  pub held : is_open (course_of turn) ≡ true → new.held ≡ old.held
