-- How a hub leaves its seats one by one. No public clause cites it.
use Rattle.std.specs.Prelude.{◌≡◌, ◌⊎◌, List, Option, None, ⊤}
use Rattle.tk_base.specs.declared.ids.Mon.{Mon}
use Rattle.tk_story.specs.declared.ends.received.Received.{Received}
use Rattle.tk_end.specs.Link.{LinkView}
use Rattle.tk_hub.specs.End.{IsOddBytes, IsOddFrame}
use Rattle.tk_hub.specs.Seats.{SeatsView}
use Rattle.tk_hub.specs.Turn.{HoldsAt, IsBadAt, IsRefusedAt}
use Rattle.tk_hub.specs.declared.course.Course.{Course}
use Rattle.tk_hub.specs.declared.course.Course.TheVariants as cs

-- at the monitor of a course of bad bytes these stand at the front
abbrev pub StandsAt : {W : Type 0} → Mon → Course → LinkView W → Type 0
StandsAt mon cs.Open link = ⊤
StandsAt mon cs.Halted link = ⊤
StandsAt mon cs.Failed link = ⊤
StandsAt mon (cs.Refused from why) link = ⊤
StandsAt mon (cs.Bad from fault) link = from ≡ mon → IsBadAt fault link
StandsAt mon cs.WriteFailed link = ⊤

-- a refusal and bad bytes are of a monitor that is there, where the bytes stand at the front
abbrev pub IsStanding : {W : Type 0} → Course → List (Option (LinkView W)) → Type 0
IsStanding cs.Open links = ⊤
IsStanding cs.Halted links = ⊤
IsStanding cs.Failed links = ⊤
IsStanding (cs.Refused mon why) links = HoldsAt links mon.0 (λ link. ⊤)
IsStanding (cs.Bad mon fault) links = HoldsAt links mon.0 (IsBadAt fault)
IsStanding cs.WriteFailed links = ⊤

-- the link is that of a monitor, and this was left of it, or it is that of another
abbrev pub IsOfOrNone : Mon → Mon → (Option (Mon × Received) → Type 0) → Option (Mon × Received) → Type 0
IsOfOrNone from mon P odd = ((from ≡ mon) × P odd) ⊎ ((from ≡ mon → ⊥) × (odd ≡ None))

-- what is left at the link of one monitor
abbrev pub LeavesAt : {W : Type 0} → Mon → Course → LinkView W → Option (Mon × Received) → Type 0
LeavesAt mon cs.Open link odd = odd ≡ None
LeavesAt mon cs.Halted link odd = odd ≡ None
LeavesAt mon cs.Failed link odd = odd ≡ None
LeavesAt mon (cs.Refused from why) link odd = IsOfOrNone from mon (IsOddFrame from link) odd
LeavesAt mon (cs.Bad from fault) link odd = IsOfOrNone from mon (IsOddBytes from fault link) odd
LeavesAt mon cs.WriteFailed link odd = odd ≡ None

-- what the course of a hub says of the next frame or bytes of its monitor
abbrev pub IsLeftOn : {W : Type 0} → Course → SeatsView W → Type 0
IsLeftOn cs.Open seats = ⊤
IsLeftOn cs.Halted seats = ⊤
IsLeftOn cs.Failed seats = ⊤
IsLeftOn (cs.Refused mon why) seats = HoldsAt seats.links mon.0 (IsRefusedAt mon.0 seats.coordinator why)
IsLeftOn (cs.Bad mon fault) seats = HoldsAt seats.links mon.0 (IsBadAt fault)
IsLeftOn cs.WriteFailed seats = ⊤
