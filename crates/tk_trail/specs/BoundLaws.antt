-- How great what a legal trail holds can be.
use Rattle.std.specs.Prelude.{ℕ, ℤ, Bool, List, ◌∷◌, ◌++◌}
use Rattle.tk_frames.specs.Size.{IsShort}
use Rattle.tk_frames.specs.declared.frame.Frame.{Frame}
use Rattle.tk_frames.specs.declared.frame.Frame.TheVariants as f
use Rattle.tk_trail.specs.Bounds.{AreSomeOutsiders, AreSomePlaces, AreWithinLimits, IsBorderWithin}
use Rattle.tk_trail.specs.Legal.{IsLegal}
use Rattle.tk_trail.specs.Setup.{IsSetup, MonitorSetup}
use Rattle.tk_trail.specs.declared.entry.Entry.{Entry}
use Rattle.tk_trail.specs.declared.entry.Entry.TheVariants.{Sent, Took}

-- the changes of a taken Assign are of objects of the catalogue, and each is a factor
abbrev pub TakenChangesAreWithinLimits : Type 0
TakenChangesAreWithinLimits =
    (setup : MonitorSetup) (before after : List Entry) (seq : ℕ) (members : List ℕ) (changes : List (ℕ × ℤ))
    → IsLegal setup (before ++ Took (f.Assign seq members changes) ∷ after) → AreWithinLimits setup changes

-- a Settled has a place for each part, none past the most changes that a log may have
abbrev pub SettledPlacesAreWithinLimits : Type 0
SettledPlacesAreWithinLimits =
    (setup : MonitorSetup) (before after : List Entry) (seq : ℕ) (last : Bool) (places : List ℕ)
    → IsSetup setup → IsLegal setup (before ++ Sent (f.Settled seq last places) ∷ after) → AreSomePlaces places

-- a Report names some outsiders
abbrev pub ReportNamesOutsiders : Type 0
ReportNamesOutsiders =
    (setup : MonitorSetup) (before after : List Entry)
    (seq : ℕ) (border : ℤ) (failed : List ℕ) (values : List (ℕ × ℤ))
    → IsLegal setup (before ++ Sent (f.Report seq border failed values) ∷ after) → AreSomeOutsiders setup before failed

-- the border of a Report is at most the level of each member, and at least -2^113
abbrev pub ReportBorderIsWithinLimits : Type 0
ReportBorderIsWithinLimits =
    (setup : MonitorSetup) (before after : List Entry)
    (seq : ℕ) (border : ℤ) (failed : List ℕ) (values : List (ℕ × ℤ))
    → IsSetup setup → IsLegal setup (before ++ Sent (f.Report seq border failed values) ∷ after)
    → IsBorderWithin setup before border

-- the border of Values is at most the level of each member, and at least -2^113
abbrev pub ValuesBorderIsWithinLimits : Type 0
ValuesBorderIsWithinLimits =
    (setup : MonitorSetup) (before after : List Entry) (round seq : ℕ) (border : ℤ) (values : List (ℕ × ℤ))
    → IsSetup setup → IsLegal setup (before ++ Sent (f.Values round seq border values) ∷ after)
    → IsBorderWithin setup before border

-- every frame that a monitor sends has no more items than there can be objects
abbrev pub SentFramesAreShort : Type 0
SentFramesAreShort =
    (setup : MonitorSetup) (before after : List Entry) (frame : Frame)
    → IsSetup setup → IsLegal setup (before ++ Sent frame ∷ after) → IsShort frame
