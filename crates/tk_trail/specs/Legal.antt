-- Legal trails: which entries are allowed after a front, and that no answer is owed at the end.
use Rattle.std.specs.Prelude.{◌≡◌, ℕ, ◌<◌, ◌≤◌, ◌-◌, false, List, [], ◌∷◌, ◌++◌, length, slice_index, slice_index_or, Option, Some, None}
use Rattle.tk_frames.specs.declared.frame.Frame.{Frame}
use Rattle.tk_base.specs.History.{EachFrom}
use Rattle.tk_trail.specs.Setup.{MonitorSetup}
use Rattle.tk_trail.specs.Readings.{places_at, is_stopped}
use Rattle.tk_trail.specs.Frames.{owed_at, due_at, answer_to}
use Rattle.tk_trail.specs.Refusal.{refusal_of}
use Rattle.tk_trail.specs.declared.entry.Entry.{Entry}
use Rattle.tk_trail.specs.declared.entry.Entry.TheVariants.{Raised, Took, Sent}

-- how many changes the part of a feeder has
abbrev pub part_length : MonitorSetup → ℕ → ℕ
part_length setup g = length (slice_index_or setup.parts (g - 1) [])

-- how many changes of a feeder are reached at the end of a trail
abbrev pub place_of : MonitorSetup → List Entry → ℕ → ℕ
place_of setup trail g = slice_index (places_at setup trail) (g - 1)

-- a feeder of the monitor whose part is not at its end
pub record HasNext (setup : MonitorSetup) (trail : List Entry) (g : ℕ) : Type 0 where
  pub from_one : 1 ≤ g
  pub one_of : g ≤ length setup.parts
  pub not_ended : place_of setup trail g < part_length setup g

-- the frame that may be sent: the answer that is owed, or else what a check sends
abbrev pub to_send : MonitorSetup → List Entry → Option Frame → Option Frame
to_send setup trail (Some answer) = Some answer
to_send setup trail None = due_at setup trail

-- nothing follows a taken Stop; while an answer is owed, only that answer is allowed
abbrev pub Allowed : MonitorSetup → List Entry → Entry → Type 0
Allowed setup before (Raised feeder) = (owed_at setup before ≡ None) × (is_stopped before ≡ false) × HasNext setup before feeder.0
Allowed setup before (Took frame) = (owed_at setup before ≡ None) × (refusal_of setup before frame ≡ None)
Allowed setup before (Sent frame) = (is_stopped before ≡ false) × (to_send setup before (owed_at setup before) ≡ Some frame)

-- each entry is allowed after those in front of it, and no answer is owed at the end
pub record IsLegal (setup : MonitorSetup) (trail : List Entry) : Type 0 where
  pub each : EachFrom (Allowed setup) [] trail
  pub answered : owed_at setup trail ≡ None

-- the trail with an answer behind it, if there is one
abbrev pub with_answer : List Entry → Option Frame → List Entry
with_answer trail None = trail
with_answer trail (Some answer) = trail ++ Sent answer ∷ []

-- the trail once a frame is taken: the frame, and directly behind it its answer
abbrev pub after_take : MonitorSetup → List Entry → Frame → List Entry
after_take setup trail frame =
    let taken = trail ++ Took frame ∷ [] in
    with_answer taken (answer_to setup taken frame)

-- the trail once it is checked
abbrev pub after_check : MonitorSetup → List Entry → List Entry
after_check setup trail = with_answer trail (due_at setup trail)
