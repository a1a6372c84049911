-- What holds of ends of a run as they were kept.
use Rattle.std.specs.Prelude.{ℕ, ◌≡◌, Option, List, Some}
use Rattle.tk_base.specs.declared.ids.Mon.{Mon}
use Rattle.tk_frames.specs.declared.frame.Frame.{Frame}
use Rattle.tk_input.specs.Logs.{LogSet}
use Rattle.tk_journal.specs.Laws.{IsMonitor}
use Rattle.tk_story.specs.Ends.{IsFirstOfAll, KeptEnds, AreKept, HaveDifference, odd_at}
use Rattle.tk_story.specs.declared.ends.difference.Direction.{Direction}
use Rattle.tk_story.specs.declared.ends.received.Received.{Received}

-- two first differences of the same ends are the same
abbrev pub FirstDifferenceIsOne : Type 0
FirstDifferenceIsOne =
    (ends : KeptEnds) (m k : ℕ) (d x : Direction) (p q : ℕ) (s t : Option Frame) (a b : Received)
    → IsFirstOfAll ends m d p s a → IsFirstOfAll ends k x q t b → (m ≡ k) × (d ≡ x) × (p ≡ q) × (s ≡ t) × (a ≡ b)

-- where the coordinator received what it does not take, some link differs
abbrev pub OddAtTheCoordinatorDiffers : Type 0
OddAtTheCoordinatorDiffers =
    (ends : KeptEnds) (logs : LogSet) (from : List (List ℕ)) (odd : Mon × Received)
    → AreKept ends logs from → ends.odd ≡ Some odd → HaveDifference ends

-- where a monitor received what it does not take, some link differs
abbrev pub OddAtAMonitorDiffers : Type 0
OddAtAMonitorDiffers =
    (ends : KeptEnds) (logs : LogSet) (from : List (List ℕ)) (mon : ℕ) (odd : Received)
    → AreKept ends logs from → IsMonitor ends.settings mon → odd_at ends mon ≡ Some odd → HaveDifference ends
