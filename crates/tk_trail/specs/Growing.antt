-- Logs that grow: what a monitor is made of, with a change more, and what its trail keeps.
use Rattle.std.specs.Prelude.{ℕ, ◌≡◌, ◌-◌, ◌<◌, ℤ, false, List, [], length, take, slice_get, slice_index_or, slice_set}
use Rattle.tk_input.specs.Changes.{grown_by}
use Rattle.tk_input.specs.Logs.{ArePlaces}
use Rattle.tk_frames.specs.declared.frame.Frame.{Frame}
use Rattle.tk_trail.specs.Setup.{MonitorSetup}
use Rattle.tk_trail.specs.Frames.{answer_to, due_at, owed_at}
use Rattle.tk_trail.specs.Legal.{HasNext, IsLegal}
use Rattle.tk_trail.specs.Readings.{at_ends, broken_at, levels_of, places_at, values_of}
use Rattle.tk_trail.specs.Refusal.{refusal_of}
use Rattle.tk_trail.specs.declared.entry.Entry.{Entry}

-- other parts
abbrev pub with_parts : MonitorSetup → List (List (ℕ × ℤ)) → MonitorSetup
with_parts setup parts = record setup { parts = parts }

-- one of the parts has a change more in front of its last record
unfoldable pub grown_parts : List (List (ℕ × ℤ)) → ℕ → ℕ × ℤ → List (List (ℕ × ℤ))
grown_parts parts g change = slice_set parts (g - 1) (grown_by change (slice_index_or parts (g - 1) []))

-- so is what a monitor is made of
abbrev pub grown : MonitorSetup → ℕ → ℕ × ℤ → MonitorSetup
grown setup g change = with_parts setup (grown_parts setup.parts g change)

-- over other parts the same fronts are reached, no part is passed, and neither are all parts at their ends
pub record ReachesAlike (setup : MonitorSetup) (others : List (List (ℕ × ℤ))) (trail : List Entry) : Type 0 where
  pub here : ArePlaces setup.parts (places_at setup trail)
  pub there : ArePlaces others (places_at setup trail)
  pub fronts : (i : ℕ) → take (slice_index_or (places_at setup trail) i 0) (slice_index_or setup.parts i []) ≡ take (slice_index_or (places_at setup trail) i 0) (slice_index_or others i [])
  pub open_here : at_ends setup trail ≡ false
  pub open_there : at_ends (with_parts setup others) trail ≡ false

-- what a trail says over two setups is the same
pub record SaysAlike (a b : MonitorSetup) (trail : List Entry) : Type 0 where
  pub places : places_at a trail ≡ places_at b trail
  pub ends : at_ends a trail ≡ at_ends b trail
  pub values : values_of a trail ≡ values_of b trail
  pub levels : levels_of a trail ≡ levels_of b trail
  pub broken : broken_at a trail ≡ broken_at b trail
  pub owed : owed_at a trail ≡ owed_at b trail
  pub due : due_at a trail ≡ due_at b trail
  pub answers : (frame : Frame) → answer_to a trail frame ≡ answer_to b trail frame
  pub refusals : (frame : Frame) → refusal_of a trail frame ≡ refusal_of b trail frame

-- whether a trail is legal looks at what is reached alone, unless its monitor is at its ends
abbrev pub LegalityLooksAtWhatIsReached : Type 0
LegalityLooksAtWhatIsReached =
    (setup : MonitorSetup) (others : List (List (ℕ × ℤ))) (trail : List Entry)
    → ReachesAlike setup others trail → IsLegal setup trail
    → IsLegal (with_parts setup others) trail × SaysAlike setup (with_parts setup others) trail

-- a change that is put in front of a record that is not raised yet leaves a legal trail legal
abbrev pub GrownIsLegal : Type 0
GrownIsLegal =
    (setup : MonitorSetup) (trail : List Entry) (g : ℕ) (change : ℕ × ℤ)
    → ArePlaces setup.parts setup.from → HasNext setup trail g → IsLegal setup trail
    → IsLegal (grown setup g change) trail

-- and all that it says
abbrev pub GrownReadsTheSame : Type 0
GrownReadsTheSame =
    (setup : MonitorSetup) (trail : List Entry) (g : ℕ) (change : ℕ × ℤ)
    → ArePlaces setup.parts setup.from → HasNext setup trail g → IsLegal setup trail
    → SaysAlike setup (grown setup g change) trail × HasNext (grown setup g change) trail g

-- while one part goes on, not all are at their ends, so no Settled says `last` and no Stop is taken
abbrev pub OpenIsNotAtItsEnds : Type 0
OpenIsNotAtItsEnds =
    (setup : MonitorSetup) (trail : List Entry) (g : ℕ)
    → length setup.from ≡ length setup.parts → HasNext setup trail g → at_ends setup trail ≡ false

-- the last record stays the last: a closing record is raised only once its stream has ended
abbrev pub LastRecordStays : Type 0
LastRecordStays =
    (change : ℕ × ℤ) (part : List (ℕ × ℤ))
    → 0 < length part → slice_get (grown_by change part) (length part) ≡ slice_get part (length part - 1)
