-- What holds of legal trails.
use Rattle.std.specs.Prelude.{ℕ, ◌≡◌, ◌≢◌, ◌+◌, ◌≤◌, ℤ, true, false, List, [], ◌∷◌, ◌++◌, length, take, slice_index, Some, None, IfSome}
use Rattle.tk_frames.specs.Carried.{seq_in}
use Rattle.tk_frames.specs.Frame.{kind_of}
use Rattle.tk_frames.specs.declared.frame.Frame.{Frame}
use Rattle.tk_frames.specs.declared.frame.Frame.TheVariants as f
use Rattle.tk_frames.specs.declared.kind.Kind.TheVariants as k
use Rattle.tk_input.specs.Logs.{ArePlaces}
use Rattle.tk_trail.specs.Frames.{answer_to, owed_at}
use Rattle.tk_trail.specs.Legal.{IsLegal}
use Rattle.tk_trail.specs.Readings.{assigns_of, at_ends, is_broken, is_reported, is_stopped, places_at, seq_of}
use Rattle.tk_trail.specs.Setup.{MonitorSetup}
use Rattle.tk_trail.specs.Slack.{IsWithinSlack, moved_between, slack_of}
use Rattle.tk_trail.specs.declared.entry.Entry.{Entry}
use Rattle.tk_trail.specs.declared.entry.Entry.TheVariants.{Took, Sent}

-- a front of a legal trail at whose end no answer is owed is legal
abbrev pub FrontIsLegal : Type 0
FrontIsLegal =
    (setup : MonitorSetup) (trail rest : List Entry)
    → IsLegal setup (trail ++ rest) → owed_at setup trail ≡ None → IsLegal setup trail

-- a sent frame that carries a sequence number carries that of its place
abbrev pub FramesCarryTheSequenceOfTheirPlace : Type 0
FramesCarryTheSequenceOfTheirPlace =
    (setup : MonitorSetup) (before after : List Entry) (frame : Frame)
    → IsLegal setup (before ++ Sent frame ∷ after) → IfSome (seq_in frame) (λ seq. seq ≡ seq_of before)

-- an Assign that is taken has the number behind that of its place
abbrev pub AssignsAreNumbered : Type 0
AssignsAreNumbered =
    (setup : MonitorSetup) (before after : List Entry) (seq : ℕ) (members : List ℕ) (changes : List (ℕ × ℤ))
    → IsLegal setup (before ++ Took (f.Assign seq members changes) ∷ after) → seq ≡ seq_of before + 1

-- a place of a trail is at most that of a longer one
abbrev pub PlacesNeverFall : Type 0
PlacesNeverFall =
    (setup : MonitorSetup) (before after : List Entry) (i : ℕ)
    → slice_index (places_at setup before) i ≤ slice_index (places_at setup (before ++ after)) i

-- while the sizes of the changes raised since an Assign sum to at most the slack right after it, no Report is sent
-- under its number
abbrev pub NoReportWithinTheSlackOfAnAssign : Type 0
NoReportWithinTheSlackOfAnAssign =
    (setup : MonitorSetup) (before since after : List Entry)
    (seq : ℕ) (members : List ℕ) (changes : List (ℕ × ℤ)) (frame : Frame)
    → IsLegal setup (before ++ Took (f.Assign seq members changes) ∷ [] ++ since ++ Sent frame ∷ after)
    → assigns_of since ≡ []
    → IsWithinSlack
    (moved_between setup (before ++ Took (f.Assign seq members changes) ∷ [])
    (before ++ Took (f.Assign seq members changes) ∷ [] ++ since))
    (slack_of setup (before ++ Took (f.Assign seq members changes) ∷ []))
    → kind_of frame ≢ k.Report

-- while the sizes of the changes raised since a place sum to at most the slack there, no Report is sent before the
-- next Assign
abbrev pub NoReportWithinTheSlackOfAPlace : Type 0
NoReportWithinTheSlackOfAPlace =
    (setup : MonitorSetup) (before since after : List Entry) (frame : Frame)
    → IsLegal setup (before ++ since ++ Sent frame ∷ after) → assigns_of since ≡ []
    → IsWithinSlack (moved_between setup before (before ++ since)) (slack_of setup before)
    → kind_of frame ≢ k.Report

-- a Report is sent only where something is broken
abbrev pub ReportNeedsABrokenConstraint : Type 0
ReportNeedsABrokenConstraint =
    (setup : MonitorSetup) (before after : List Entry) (frame : Frame)
    → IsLegal setup (before ++ Sent frame ∷ after) → kind_of frame ≡ k.Report → is_broken setup before ≡ true

-- a Report is sent only where none was sent since the last Assign
abbrev pub ReportIsTheFirstOfItsAssign : Type 0
ReportIsTheFirstOfItsAssign =
    (setup : MonitorSetup) (before after : List Entry) (frame : Frame)
    → IsLegal setup (before ++ Sent frame ∷ after) → kind_of frame ≡ k.Report → is_reported before ≡ false

-- the answer to a taken frame comes directly behind it
abbrev pub AnswersComeAtOnce : Type 0
AnswersComeAtOnce =
    (setup : MonitorSetup) (before after : List Entry) (frame answer : Frame)
    → IsLegal setup (before ++ Took frame ∷ after)
    → answer_to setup (before ++ Took frame ∷ []) frame ≡ Some answer → take 1 after ≡ Sent answer ∷ []

-- no place of a legal trail passes the end of its part
abbrev pub PlacesStayWithinTheParts : Type 0
PlacesStayWithinTheParts =
    (setup : MonitorSetup) (trail : List Entry)
    → ArePlaces setup.parts setup.from → IsLegal setup trail → ArePlaces setup.parts (places_at setup trail)

-- where Stop was taken, all parts are at their ends
abbrev pub StoppedIsAtTheEnds : Type 0
StoppedIsAtTheEnds =
    (setup : MonitorSetup) (trail : List Entry)
    → length setup.from ≡ length setup.parts → IsLegal setup trail → is_stopped trail ≡ true → at_ends setup trail ≡ true

-- where Stop was taken, nothing is broken
abbrev pub StoppedIsCalm : Type 0
StoppedIsCalm =
    (setup : MonitorSetup) (trail : List Entry)
    → length setup.from ≡ length setup.parts → IsLegal setup trail → is_stopped trail ≡ true → is_broken setup trail ≡ false
