-- How what was received is walked beside what was sent. No public clause cites this file.
use Rattle.std.specs.Prelude.{ℕ, ◌≡◌, List, length, slice_get, Option, Some, Result, Ok, Err, ⊤}
use Rattle.tk_base.specs.History.{IsFront}
use Rattle.tk_base.specs.declared.ids.Mon.{Mon}
use Rattle.tk_frames.specs.declared.frame.Frame.{Frame}
use Rattle.tk_story.specs.Ends.{IsFirstDifference, IsOrdered, KeptLink, with_odd}
use Rattle.tk_story.specs.declared.ends.difference.Direction.{Direction}
use Rattle.tk_story.specs.declared.ends.join_fault.JoinFault.{JoinFault}
use Rattle.tk_story.specs.declared.ends.join_fault.JoinFault.TheVariants.{Differs, NoMemory}
use Rattle.tk_story.specs.declared.ends.mon_end.MonEnd.{MonEnd}
use Rattle.tk_trail.specs.Legal.{IsLegal as IsLegalTrail}
use Rattle.tk_story.specs.declared.ends.received.Received.{Received}

-- a fault tells this difference, or want of memory
abbrev pub IsDifference : Mon → Direction → ℕ → Option Frame → Received → JoinFault → Type 0
IsDifference mon direction place sent received (Differs difference) =
    difference ≡ record { mon = mon; direction = direction; place = place; sent = sent; received = received }
IsDifference mon direction place sent received NoMemory = ⊤

-- what looking at a link finds: that it is ordered, or its first difference
abbrev pub Finds : Mon → Direction → KeptLink → Result (Unit {0}) JoinFault → Type 0
Finds mon direction link (Ok done) = IsOrdered link
Finds mon direction link (Err (Differs found)) =
    (found.mon ≡ mon) × (found.direction ≡ direction) × IsFirstDifference link found.place found.sent found.received
Finds mon direction link (Err NoMemory) = ⊤

-- all frames that were taken stand at the front of those sent, and this one was sent next, if one was
pub record AreTaken (link : KeptLink) (frames : List Frame) (odd : Option Received) (place : ℕ) (next : Option Frame) : Type 0 where
  pub received_is : link.received ≡ with_odd frames odd
  pub front : IsFront frames link.sent
  pub count : place ≡ length frames
  pub next_is : slice_get link.sent place ≡ next

-- what is found of each link behind the frames that were taken from it
abbrev pub FindsBehind : Mon → Direction → Option Received → ℕ → Option Frame → Result (Unit {0}) JoinFault → Type 0
FindsBehind mon direction odd place next result =
    (link : KeptLink) (frames : List Frame) → AreTaken link frames odd place next → Finds mon direction link result

-- each trail is legal over what its monitor was made of
abbrev pub AreTrailsLegal : List MonEnd → Type 0
AreTrailsLegal ends = (k : ℕ) (end : MonEnd) → slice_get ends k ≡ Some end → IsLegalTrail end.monitor.setup end.monitor.trail
