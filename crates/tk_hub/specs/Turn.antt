-- What a turn does with the links, why it ended, and what it leaves.
use Rattle.std.specs.Prelude.{◌≡◌, ◌<◌, ◌⊎◌, ℕ, ◌+◌, ◌-◌, List, [], length, Bool, true, false, ◌||◌, nat_lt, Option, Some, None, IfSome, ⊤}
use Rattle.tk_coord.specs.Coordinator.{CoordinatorView}
use Rattle.tk_frames.specs.declared.frame.Frame.{Frame}
use Rattle.tk_frames.specs.declared.answer.Next.TheVariants as n
use Rattle.tk_frames.specs.Answer.{Answers}
use Rattle.tk_journal.specs.Laws.{IsMonitor}
use Rattle.tk_journal.specs.Links.{frames_to}
use Rattle.tk_journal.specs.Readings.{is_stopped}
use Rattle.tk_journal.specs.Refusal.{refusal_of}
use Rattle.tk_journal.specs.declared.refusal.CoordRefusal.{CoordRefusal}
use Rattle.tk_wire.specs.Buffered.{IsFull}
use Rattle.tk_wire.specs.Meanings.{Counts, raised_by}
use Rattle.tk_end.specs.Hearing.{IsRefused}
use Rattle.tk_end.specs.Link.{LinkView, Passes}
use Rattle.tk_hub.specs.Desk.{getting, refuses}
use Rattle.tk_hub.specs.Seats.{SeatsView, link_at}
use Rattle.tk_hub.specs.declared.course.Course.{Course}
use Rattle.tk_hub.specs.declared.course.Course.TheVariants as cs
use Rattle.tk_hub.specs.declared.course.HubTurn.{HubTurn}
use Rattle.tk_hub.specs.declared.course.HubTurn.TheVariants as t

-- whether nothing ended the turn but that no frame is whole
abbrev pub goes_on : HubTurn → Bool
goes_on t.Quiet = true
goes_on t.More = true
goes_on t.Finished = false
goes_on t.Failed = false
goes_on (t.Refused mon why) = false
goes_on (t.Bad mon fault) = false
goes_on t.WriteFailed = false
goes_on t.NoMemory = false

-- what a turn answers that has answered the first so far, and goes on or ends with the next
abbrev pub joined : HubTurn → HubTurn → HubTurn
joined turn t.Quiet = turn
joined turn t.More = t.More
joined turn t.Finished = t.Finished
joined turn t.Failed = t.Failed
joined turn (t.Refused mon why) = t.Refused mon why
joined turn (t.Bad mon fault) = t.Bad mon fault
joined turn t.WriteFailed = t.WriteFailed
joined turn t.NoMemory = t.NoMemory

-- what a hub that goes on no more answers
abbrev pub answer_of : Course → Option HubTurn
answer_of cs.Open = None
answer_of cs.Halted = None
answer_of cs.Failed = Some t.Failed
answer_of (cs.Refused mon why) = Some (t.Refused mon why)
answer_of (cs.Bad mon fault) = Some (t.Bad mon fault)
answer_of cs.WriteFailed = Some t.WriteFailed

-- the course after a turn of an open hub
abbrev pub course_of : HubTurn → Course
course_of t.Quiet = cs.Open
course_of t.More = cs.Open
course_of t.Finished = cs.Open
course_of t.Failed = cs.Failed
course_of (t.Refused mon why) = cs.Refused mon why
course_of (t.Bad mon fault) = cs.Bad mon fault
course_of t.WriteFailed = cs.WriteFailed
course_of t.NoMemory = cs.Open

-- whether a hub on this course goes on
abbrev pub is_open : Course → Bool
is_open cs.Open = true
is_open cs.Halted = false
is_open cs.Failed = false
is_open (cs.Refused mon why) = false
is_open (cs.Bad mon fault) = false
is_open cs.WriteFailed = false

-- the course once a hub is halted
abbrev pub halted_of : Course → Course
halted_of cs.Open = cs.Halted
halted_of cs.Halted = cs.Halted
halted_of cs.Failed = cs.Failed
halted_of (cs.Refused mon why) = cs.Refused mon why
halted_of (cs.Bad mon fault) = cs.Bad mon fault
halted_of cs.WriteFailed = cs.WriteFailed

-- from one coordinator the other is reached by frames of its monitors that are taken, each refused by no test
pub data Reaches : CoordinatorView → CoordinatorView → Type 0 where
  Stays : (from to : CoordinatorView) → to ≡ from → Reaches from to
  Takes : (from to : CoordinatorView) (mon : ℕ) (frame : Frame) → IsMonitor from.settings mon → refusal_of from.settings from.journal mon frame ≡ None → Reaches (getting from mon frame) to → Reaches from to

-- Stop was sent to a monitor, and is given with all before it
pub record IsStopGiven {W : Type 0} (mon : ℕ) (c : CoordinatorView) (link : LinkView W) : Type 0 where
  pub stopped : is_stopped c.journal ≡ true
  pub written : link.written ≡ length (frames_to mon c.journal)
  pub given : link.output ≡ []

-- every whole frame that came was taken
abbrev pub IsAllTaken : {W : Type 0} → LinkView W → Type 0
IsAllTaken link = Answers link.version link.unread n.Part

-- nothing waits on the wire, or it has ended after Stop was given to its monitor
abbrev pub IsEmptied : {W : Type 0} → ℕ → CoordinatorView → LinkView W → Type 0
IsEmptied mon c link = (link.tells ≡ true → link.traffic.waiting ≡ []) ⊎ (IsStopGiven mon c link × (0 < link.counts.ends))

-- the next frame of a monitor was read and is refused
abbrev pub IsRefusedAt : {W : Type 0} → ℕ → CoordinatorView → CoordRefusal → LinkView W → Type 0
IsRefusedAt mon c why link = IsRefused refuses mon link.version link.unread link.front (record { coordinator = c }) why

-- the next bytes of a monitor are no frame
abbrev pub IsBadAt : {W : Type 0} → Rattle.tk_frames.specs.declared.answer.BadFrame.BadFrame → LinkView W → Type 0
IsBadAt fault link = Answers link.version link.unread (n.Bad fault) × (link.front ≡ None)

-- this holds of the link of a monitor
pub record HoldsAt {W : Type 0} (links : List (Option (LinkView W))) (mon : ℕ) (P : LinkView W → Type 0) : Type 0 where
  pub some : 0 < mon
  pub link : LinkView W
  pub at : link_at links (mon - 1) ≡ Some link
  pub holds : P link

-- why the hearing of a link ended: Quiet says that nothing waits, or that the wire ended after Stop was given to it,
-- and both it and More that every whole frame was taken
abbrev pub EndsAt : {W : Type 0} → ℕ → CoordinatorView → LinkView W → HubTurn → Type 0
EndsAt mon c link t.Quiet = IsAllTaken link × IsEmptied mon c link
EndsAt mon c link t.More = IsAllTaken link
EndsAt mon c link t.Finished = ⊥
EndsAt mon c link t.Failed = ⊤
EndsAt mon c link (t.Refused of_ why) = (of_.0 ≡ mon) × IsRefusedAt mon c why link
EndsAt mon c link (t.Bad of_ fault) = (of_.0 ≡ mon) × IsBadAt fault link
EndsAt mon c link t.WriteFailed = ⊥
EndsAt mon c link t.NoMemory = ⊤

-- the wire failed, or ended before Stop was given to it
abbrev pub FailsAt : {W : Type 0} → ℕ → CoordinatorView → LinkView W → LinkView W → Type 0
FailsAt mon c old new =
    (new.counts.faults ≡ raised_by 1 old.counts.faults) ⊎ ((new.counts.ends ≡ raised_by 1 old.counts.ends) × (IsStopGiven mon c new → ⊥))

-- the wire did not fail, and did not end but after Stop was given to it
abbrev pub IsSteadyAt : {W : Type 0} → ℕ → CoordinatorView → LinkView W → LinkView W → Type 0
IsSteadyAt mon c old new = (new.counts.faults ≡ old.counts.faults) × ((new.counts.ends ≡ old.counts.ends) ⊎ IsStopGiven mon c new)

-- the counts of a wire: Failed says that it failed or ended, and no other answer leaves that behind
abbrev pub CountsAt : {W : Type 0} → ℕ → CoordinatorView → LinkView W → LinkView W → HubTurn → Type 0
CountsAt mon c old new t.Quiet = IsSteadyAt mon c old new
CountsAt mon c old new t.More = IsSteadyAt mon c old new
CountsAt mon c old new t.Finished = IsSteadyAt mon c old new
CountsAt mon c old new t.Failed = FailsAt mon c old new
CountsAt mon c old new (t.Refused of_ why) = IsSteadyAt mon c old new
CountsAt mon c old new (t.Bad of_ fault) = IsSteadyAt mon c old new
CountsAt mon c old new t.WriteFailed = IsSteadyAt mon c old new
CountsAt mon c old new t.NoMemory = IsSteadyAt mon c old new

-- how many pieces came at least
abbrev pub pieces_of : HubTurn → ℕ
pieces_of t.More = 64
pieces_of t.Quiet = 0
pieces_of t.Finished = 0
pieces_of t.Failed = 0
pieces_of (t.Refused mon why) = 0
pieces_of (t.Bad mon fault) = 0
pieces_of t.WriteFailed = 0
pieces_of t.NoMemory = 0

-- at a seat bytes passed, and nothing was shut; a seat that is free stays so
abbrev pub PassesAt : {W : Type 0} → Option (LinkView W) → Option (LinkView W) → Type 0
PassesAt None new = new ≡ None
PassesAt (Some x) None = ⊥
PassesAt (Some x) (Some y) = Passes 0 x y × (y.shut ≡ x.shut)

-- the wire of a seat that is taken did not fail, and did not end but after Stop was given to it
abbrev pub SteadyAt : {W : Type 0} → ℕ → CoordinatorView → Option (LinkView W) → Option (LinkView W) → Type 0
SteadyAt mon c None new = ⊤
SteadyAt mon c (Some x) None = ⊤
SteadyAt mon c (Some x) (Some y) = IsSteadyAt mon c x y

-- some link gave 64 pieces, so at least as many bytes
pub record GivesPieces {W : Type 0} (old new : List (Option (LinkView W))) : Type 0 where
  pub place : ℕ
  pub before : LinkView W
  pub now : LinkView W
  pub was : link_at old place ≡ Some before
  pub is : link_at new place ≡ Some now
  pub passes : Passes 64 before now

-- the wire of some link failed, or ended before Stop was given to it
pub record SomeFails {W : Type 0} (c : CoordinatorView) (old new : List (Option (LinkView W))) : Type 0 where
  pub place : ℕ
  pub before : LinkView W
  pub now : LinkView W
  pub was : link_at old place ≡ Some before
  pub is : link_at new place ≡ Some now
  pub fails : FailsAt (place + 1) c before now

-- no wire failed, and none ended but after Stop was given to it
abbrev pub EachSteady : {W : Type 0} → CoordinatorView → List (Option (LinkView W)) → List (Option (LinkView W)) → Type 0
EachSteady c old new = (place : ℕ) → SteadyAt (place + 1) c (link_at old place) (link_at new place)

-- the counts of the wires: Failed says that some failed or ended, and no other answer leaves that behind
abbrev pub CountsEach : {W : Type 0} → HubTurn → CoordinatorView → List (Option (LinkView W)) → List (Option (LinkView W)) → Type 0
CountsEach t.Quiet c old new = EachSteady c old new
CountsEach t.More c old new = EachSteady c old new
CountsEach t.Finished c old new = EachSteady c old new
CountsEach t.Failed c old new = SomeFails c old new
CountsEach (t.Refused mon why) c old new = EachSteady c old new
CountsEach (t.Bad mon fault) c old new = EachSteady c old new
CountsEach t.WriteFailed c old new = EachSteady c old new
CountsEach t.NoMemory c old new = EachSteady c old new

-- whether a wire failed, or has ended
abbrev pub is_lost : Counts → Bool
is_lost counts = nat_lt 0 counts.faults || nat_lt 0 counts.ends

-- some wire of a monitor failed, or has ended
abbrev pub SomeLost : {W : Type 0} → List (Option (LinkView W)) → Type 0
SomeLost links = (mon : ℕ) × HoldsAt links mon (λ link. is_lost link.counts ≡ true)

-- why a turn ended: Quiet and More by each link, and a refusal by that of its monitor
abbrev pub EndsEach : {W : Type 0} → HubTurn → CoordinatorView → List (Option (LinkView W)) → Type 0
EndsEach t.Quiet c links = (place : ℕ) → IfSome (link_at links place) (λ link. EndsAt (place + 1) c link t.Quiet)
EndsEach t.More c links = (place : ℕ) → IfSome (link_at links place) (λ link. EndsAt (place + 1) c link t.More)
EndsEach t.Finished c links = ⊤
EndsEach t.Failed c links = ⊤
EndsEach (t.Refused mon why) c links = HoldsAt links mon.0 (IsRefusedAt mon.0 c why)
EndsEach (t.Bad mon fault) c links = HoldsAt links mon.0 (IsBadAt fault)
EndsEach t.WriteFailed c links = ⊤
EndsEach t.NoMemory c links = ⊤

-- all that was sent to a monitor is written, and given as far as the wire has room
pub record HasSaid {W : Type 0} (mon : ℕ) (c : CoordinatorView) (link : LinkView W) : Type 0 where
  pub written : link.written ≡ length (frames_to mon c.journal)
  pub given : (link.output ≡ []) ⊎ (link.tells ≡ true → IsFull link.traffic)

-- so it is with each monitor that is admitted
abbrev pub EachSaid : {W : Type 0} → CoordinatorView → List (Option (LinkView W)) → Type 0
EachSaid c links = (place : ℕ) → IfSome (link_at links place) (HasSaid (place + 1) c)

-- frames of the monitors were taken, one link behind the other, and bytes passed; the turn ended as it says
pub record Hears {W : Type 0} (turn : HubTurn) (old new : SeatsView W) : Type 0 where
  pub run : new.run ≡ old.run
  pub reaches : Reaches old.coordinator new.coordinator
  pub passes : (place : ℕ) → PassesAt (link_at old.links place) (link_at new.links place)
  pub more : turn ≡ t.More → GivesPieces old.links new.links
  pub ends : EndsEach turn new.coordinator new.links
  pub counts : CountsEach turn new.coordinator old.links new.links
  pub never : turn ≡ t.Finished → ⊥
