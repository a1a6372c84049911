-- What is answered of bytes that should be a trace of a run to its end.
use Rattle.std.specs.Prelude.{◌≡◌, ◌⊎◌, ℕ, List, [], Result, Ok, Err}
use Rattle.tk_input.specs.Logs.{beginnings}
use Rattle.tk_story.specs.Story.{IsStory, StoryView}
use Rattle.tk_story.specs.Headline.{ReachesItsEnd}
use Rattle.tk_verify.specs.Recorded.{Finds, IsFinished, recorded as told_by}
use Rattle.tk_verify.specs.declared.finding.Finding.{Finding}
use Rattle.tk_verify.specs.declared.finding.Finding.TheVariants as f
use Rattle.tk_trace.specs.Recorded.{Recorded, recorded_of}
use Rattle.tk_trace.specs.Spelling.{IsTrace}
use Rattle.tk_trace.specs.declared.fault.ParseFault.{ParseFault}
use Rattle.tk_trace.specs.declared.fault.ParseFault.TheVariants as p
use Rattle.tk_trace.specs.declared.trace.Trace.{Trace}
use Rattle.tk_verify.specs.declared.trace_fault.TraceFault.{TraceFault}
use Rattle.tk_verify.specs.declared.trace_fault.TraceFault.TheVariants as t

-- the story that a recorded run tells from its beginning, legal or not
abbrev pub told : Recorded → StoryView
told r = told_by r.settings r.logs r.journal r.trails

-- where the bytes are the trace of a legal story from the beginning of its logs to its end, this holds
abbrev pub OnFinishedTrace : List ℕ → Type 0 → Type 0
OnFinishedTrace bytes Fact =
    (names : List (List ℕ)) (s : StoryView)
    → IsTrace bytes (recorded_of names s) → s.from ≡ beginnings s.logs → IsStory s → IsFinished s.journal → Fact

-- the bytes are a trace of a run, and this is found of its story
pub record IsFoundIn (bytes : List ℕ) (finding : Finding) : Type 0 where
  pub run : Recorded
  pub trace : IsTrace bytes run
  pub found : Finds (told run) finding

-- what is wrong with bytes; want of memory is nothing wrong with them
abbrev pub Faults : List ℕ → TraceFault → Type 0
Faults bytes t.NotATrace = (run : Recorded) → IsTrace bytes run → ⊥
Faults bytes (t.NotLegal part place) = IsFoundIn bytes (f.NotLegal part place)
Faults bytes (t.Links mon direction place) = IsFoundIn bytes (f.Links mon direction place)
Faults bytes t.NotFinal = IsFoundIn bytes f.NotFinal
Faults bytes t.NoMemory = ⊥

-- an answer is this fault, or else want of memory
abbrev pub Refuses : {T : Type 0} → TraceFault → Result T TraceFault → Type 0
Refuses fault (Ok trace) = ⊥
Refuses fault (Err other) = (other ≡ fault) ⊎ (other ≡ t.NoMemory)

-- a fault of reading, as one of a trace
abbrev pub as_unread : ParseFault → TraceFault
as_unread p.NotATrace = t.NotATrace
as_unread p.NoMemory = t.NoMemory

-- what is kept of a recorded run: its names, and its story, which is legal and came to its end
pub record IsKeptOf (r : Recorded) (trace : Trace) : Type 0 where
  pub names : trace.names ≡ r.names
  pub story : trace.story.story ≡ told r
  pub events : trace.story.events ≡ []
  pub legal : IsStory (told r)
  pub finished : ReachesItsEnd (told r)
