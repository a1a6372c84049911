-- What holds of every trace.
use Rattle.std.specs.Prelude.{◌≡◌, ℕ, List}
use Rattle.tk_input.specs.Logs.{beginnings}
use Rattle.tk_story.specs.Story.{IsStory, StoryView}
use Rattle.tk_trace.specs.Checked.{Faults}
use Rattle.tk_trace.specs.Recorded.{recorded_of}
use Rattle.tk_trace.specs.Spelling.{IsTrace}
use Rattle.tk_verify.specs.declared.trace_fault.TraceFault.{TraceFault as Fault}
use Rattle.tk_story.specs.Headline.{ReachesItsEnd}

-- nothing is wrong with the trace of a legal story from the beginning of its logs to its end
abbrev pub FinishedRunIsFaultless : Type 0
FinishedRunIsFaultless =
    (bytes : List ℕ) (names : List (List ℕ)) (s : StoryView) (fault : Fault)
    → IsTrace bytes (recorded_of names s) → s.from ≡ beginnings s.logs → IsStory s → ReachesItsEnd s
    → Faults bytes fault → ⊥
