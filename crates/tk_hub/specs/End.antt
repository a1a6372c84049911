-- What is left of a hub that is done with, and what its wires in memory give and get.
use Rattle.std.specs.Prelude.{◌≡◌, ◌+◌, ℕ, Bool, true, List, filter_map, Option, Some, None, IfSome, ⊤}
use Rattle.std.specs.Borrow.{Bor}
use Rattle.std.specs.List.{list_any}
use Rattle.std.specs.Option.{option_map}
use Rattle.tk_base.specs.declared.ids.Mon.{Mon}
use Rattle.tk_frames.specs.declared.answer.BadFrame.{BadFrame}
use Rattle.tk_frames.specs.declared.frame.Frame.{Frame}
use Rattle.tk_journal.specs.declared.noted.Noted.{Noted}
use Rattle.tk_story.specs.declared.ends.received.Received.{Received}
use Rattle.tk_story.specs.declared.ends.received.Received.TheVariants as r
use Rattle.tk_wire.specs.Meanings.{Counts, Traffic}
use Rattle.tk_wire.specs.Pipe.{Queue}
use Rattle.tk_end.specs.Inbox.{IsOdd}
use Rattle.tk_end.specs.Link.{Covers, LinkView}
use Rattle.tk_end.specs.Piping.{Drains, Fills}
use Rattle.tk_hub.specs.Hub.{HubView}
use Rattle.tk_hub.specs.Seats.{heard_at, link_at}
use Rattle.tk_hub.specs.Turn.{HoldsAt, is_lost}
use Rattle.tk_hub.specs.declared.course.Course.{Course}
use Rattle.tk_hub.specs.declared.course.Course.TheVariants as cs

-- ---- the wires

-- the wire of a link, if there is one
abbrev pub wire_of : {W : Type 0} → Option (LinkView W) → Option W
wire_of link = option_map (λ link. link.wire) link

-- those of the monitors that were admitted, ascending
abbrev pub wires_of : {W : Type 0} → List (Option (LinkView W)) → List W
wires_of links = filter_map wire_of links

-- the wire of a monitor took no fewer bytes than Hello has, with the frames that the journal got of it and what came since
abbrev pub CoversHeard : {W : Type 0} → (W → Counts) → ℕ → List Noted → ℕ → LinkView W → Type 0
CoversHeard counts run journal mon link = Covers link.version (heard_at run journal mon link) link.unread (counts link.wire).taken

-- so each wire of those that were admitted
abbrev pub EachCovers : {W : Type 0} → (W → Counts) → HubView W → Type 0
EachCovers counts hub = (place : ℕ) → IfSome (link_at hub.links place) (CoversHeard counts hub.run hub.coordinator.journal (place + 1))

-- the counts of each link are those of its wire
abbrev pub AreCounted : {W : Type 0} → (W → Counts) → List (Option (LinkView W)) → Type 0
AreCounted counts links = (place : ℕ) → IfSome (link_at links place) (λ link. counts link.wire ≡ link.counts)

-- the wire of each link that was shut is shut
abbrev pub AreShut : {W : Type 0} → (W → Bool) → List (Option (LinkView W)) → Type 0
AreShut is_shut links = (place : ℕ) → IfSome (link_at links place) (λ link. link.shut ≡ true → is_shut link.wire ≡ true)

-- whether some wire failed, or has ended
abbrev pub is_some_lost : {W : Type 0} → (W → Counts) → List W → Bool
is_some_lost counts wires = list_any (λ wire. is_lost (counts wire)) wires

-- ---- what came next and was not taken

-- a frame of a monitor
abbrev pub frame_of : Mon → Frame → Mon × Received
frame_of mon frame = (mon, r.Frame frame)

-- the next frame of a monitor
abbrev pub IsOddFrame : {W : Type 0} → Mon → LinkView W → Option (Mon × Received) → Type 0
IsOddFrame mon link odd = odd ≡ option_map (frame_of mon) link.front

-- the next bytes of a monitor, which are no frame
pub record IsOddBytes {W : Type 0} (mon : Mon) (fault : BadFrame) (link : LinkView W) (odd : Option (Mon × Received)) : Type 0 where
  pub bytes : List ℕ
  pub is : odd ≡ Some (mon, r.Bytes bytes)
  pub odd_ones : IsOdd link.version fault link.unread bytes

-- what is left on a course: the refused frame of its monitor, or the bytes that are none
abbrev pub LeavesOdd : {W : Type 0} → Course → List (Option (LinkView W)) → Option (Mon × Received) → Type 0
LeavesOdd cs.Open links odd = odd ≡ None
LeavesOdd cs.Halted links odd = odd ≡ None
LeavesOdd cs.Failed links odd = odd ≡ None
LeavesOdd (cs.Refused mon why) links odd = HoldsAt links mon.0 (λ link. IsOddFrame mon link odd)
LeavesOdd (cs.Bad mon fault) links odd = HoldsAt links mon.0 (λ link. IsOddBytes mon fault link odd)
LeavesOdd cs.WriteFailed links odd = odd ≡ None

-- what a hub was given next and did not take
abbrev pub IsLeft : {W : Type 0} → HubView W → Option (Mon × Received) → Type 0
IsLeft hub odd = LeavesOdd hub.course hub.links odd

-- ---- wires in memory

-- bytes leave the wire of a seat for a pipe, and at one that is free nothing moves
abbrev pub SeatDrains : {W : Type 0} → (W → ℕ) → (Traffic → W → W) → ℕ → Option (LinkView W) → Option (LinkView W) → Queue → Queue → Type 0
SeatDrains piece bearing moved None new before now = (new ≡ None) × (moved ≡ 0) × (now ≡ before)
SeatDrains piece bearing moved (Some x) None before now = ⊥
SeatDrains piece bearing moved (Some x) (Some y) before now = Drains piece bearing moved x y before now

-- bytes of a pipe reach the wire of a seat, and at one that is free nothing moves
abbrev pub SeatFills : {W : Type 0} → (W → ℕ) → (Traffic → W → W) → ℕ → Option (LinkView W) → Option (LinkView W) → Queue → Queue → Type 0
SeatFills piece bearing moved None new before now = (new ≡ None) × (moved ≡ 0) × (now ≡ before)
SeatFills piece bearing moved (Some x) None before now = ⊥
SeatFills piece bearing moved (Some x) (Some y) before now = Fills piece bearing moved x y before now

-- a wire that tells what is shown of it
pub record IsWireOf {W : Type 0} (traffic : W → Traffic) (counts : W → Counts) (tells : Bool) (link : LinkView W) (wire : W) : Type 0 where
  pub is : wire ≡ link.wire
  pub traffic_is : traffic wire ≡ link.traffic
  pub counts_are : counts wire ≡ link.counts
  pub tells_is : tells ≡ link.tells

-- the wire of a seat, if that is taken
abbrev pub TellsWire : {W : Type 0} → (W → Traffic) → (W → Counts) → Bool → Option (LinkView W) → Option (Bor W) → Type 0
TellsWire traffic counts tells None None = ⊤
TellsWire traffic counts tells None (Some wire) = ⊥
TellsWire traffic counts tells (Some link) None = ⊥
TellsWire traffic counts tells (Some link) (Some wire) = IsWireOf traffic counts tells link wire.now
