-- What the frames of a legal trail say.
use Rattle.std.specs.Prelude.{ℕ, ℤ, ◌≡◌, ◌≤◌, ◌≤ℤ◌, ◌||◌, Bool, true, false, List, ◌∷◌, ◌++◌, length, map, Contains}
use Rattle.tk_frames.specs.Carried.{is_values}
use Rattle.tk_frames.specs.declared.frame.Frame.{Frame}
use Rattle.tk_frames.specs.declared.frame.Frame.TheVariants as f
use Rattle.tk_trail.specs.Legal.{IsLegal}
use Rattle.tk_trail.specs.Readings.{at_ends, is_broken, is_end, is_report, level_of, members_at, places_at, seq_of}
use Rattle.tk_trail.specs.Says.{SaysReport, SaysSettled, SaysValues}
use Rattle.tk_trail.specs.Setup.{MonitorSetup}
use Rattle.tk_trail.specs.Still.{Same, answers_under, is_still}
use Rattle.tk_trail.specs.declared.entry.Entry.{Entry}
use Rattle.tk_trail.specs.declared.entry.Entry.TheVariants.{Sent}

-- a sent Settled says what there is to say at its place
abbrev pub SettledSpeaksOfItsPlace : Type 0
SettledSpeaksOfItsPlace =
    (setup : MonitorSetup) (before after : List Entry) (seq : ℕ) (last : Bool) (places : List ℕ)
    → IsLegal setup (before ++ Sent (f.Settled seq last places) ∷ after) → SaysSettled setup before seq last places

-- a sent Report says what there is to say at its place
abbrev pub ReportSpeaksOfItsPlace : Type 0
ReportSpeaksOfItsPlace =
    (setup : MonitorSetup) (before after : List Entry)
    (seq : ℕ) (border : ℤ) (failed : List ℕ) (values : List (ℕ × ℤ))
    → IsLegal setup (before ++ Sent (f.Report seq border failed values) ∷ after)
    → SaysReport setup before seq border failed values

-- sent Values say what there is to say at their place
abbrev pub ValuesSpeakOfTheirPlace : Type 0
ValuesSpeakOfTheirPlace =
    (setup : MonitorSetup) (before after : List Entry) (round seq : ℕ) (border : ℤ) (values : List (ℕ × ℤ))
    → IsLegal setup (before ++ Sent (f.Values round seq border values) ∷ after)
    → SaysValues setup before round seq border values

-- behind a Report, or a Settled with `last`, nothing but Values is sent until the next Assign
abbrev pub OnlyValuesFollowUntilTheNextAssign : Type 0
OnlyValuesFollowUntilTheNextAssign =
    (setup : MonitorSetup) (before between after : List Entry) (g h : Frame)
    → length setup.from ≡ length setup.parts
    → IsLegal setup (before ++ Sent g ∷ between ++ Sent h ∷ after)
    → seq_of (before ++ Sent g ∷ between) ≡ seq_of before
    → (is_report (Sent g) || is_end (Sent g)) ≡ true → is_values h ≡ true

-- at the ends the places are the lengths of the parts
abbrev pub EndsAreTheLengths : Type 0
EndsAreTheLengths =
    (setup : MonitorSetup) (trail : List Entry)
    → length setup.from ≡ length setup.parts → at_ends setup trail ≡ true → places_at setup trail ≡ map length setup.parts

-- under one sequence number a monitor answers twice at most
abbrev pub TwoAnswersUnderEachNumber : Type 0
TwoAnswersUnderEachNumber =
    (setup : MonitorSetup) → length setup.from ≡ length setup.parts
    → (trail : List Entry) → IsLegal setup trail → (a : ℕ) → answers_under a trail ≤ 2

-- where a trail is still, it has the places and the Assigns that it had at each place behind its last Assign
abbrev pub WhatIsStillIsSaidOfNow : Type 0
WhatIsStillIsSaidOfNow =
    (setup : MonitorSetup) (x z : List Entry)
    → seq_of (x ++ z) ≡ seq_of x → is_still (x ++ z) ≡ true → Same setup x (x ++ z)

-- where nothing is broken, each member's level is at least that of each outsider
abbrev pub WhatIsNotBrokenIsInOrder : Type 0
WhatIsNotBrokenIsInOrder =
    (setup : MonitorSetup) (trail : List Entry) (t o : ℕ)
    → is_broken setup trail ≡ false → Contains (members_at trail) t → (Contains (members_at trail) o → ⊥)
    → 1 ≤ t → t ≤ setup.objects → 1 ≤ o → o ≤ setup.objects
    → level_of setup trail o ≤ℤ level_of setup trail t
