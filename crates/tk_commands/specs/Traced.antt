-- The trace that a file holds: a run that its bytes spell, legal and to its end, or what is wrong with them.
use Rattle.std.specs.Prelude.{ℕ, ◌≡◌, List, [], Option, Result, Ok, Err}
use Rattle.tk_input.specs.Logs.{beginnings}
use Rattle.tk_story.specs.Story.{IsStory}
use Rattle.tk_trace.specs.Checked.{Faults}
use Rattle.tk_trace.specs.Recorded.{recorded_of}
use Rattle.tk_trace.specs.Spelling.{IsTrace}
use Rattle.tk_trace.specs.declared.trace.Trace.{Trace}
use Rattle.tk_story.specs.Headline.{ReachesItsEnd}
use Rattle.tk_load.specs.Faults.{Fault}
use Rattle.tk_load.specs.Input.{bytes_from}
use Rattle.tk_load.specs.Reads.{FileReads, IsRead, Says}
use Rattle.tk_load.specs.declared.status.Status.{Status}
use Rattle.tk_load.specs.declared.status.Status.TheVariants as s

-- some bytes spell this trace: a legal story, from the beginning of its logs to its end, with no events kept
pub record IsSpelledBy (bytes : List ℕ) (trace : Trace) : Type 0 where
  pub spelled : IsTrace bytes (recorded_of trace.names trace.story.story)
  pub starts : trace.story.story.from ≡ beginnings trace.story.story.logs
  pub events : trace.story.events ≡ []
  pub legal : IsStory trace.story.story
  pub finished : ReachesItsEnd trace.story.story

-- a status tells what is wrong with the bytes of a file of this name; want of memory is free
abbrev pub TellsWrong : List ℕ → List ℕ → Status → Type 0
TellsWrong name bytes (s.BadTrace file fault) = (file.items ≡ name) × Faults bytes fault
TellsWrong name bytes s.NoMemory = Unit
TellsWrong name bytes s.Done = ⊥
TellsWrong name bytes s.Usage = ⊥
TellsWrong name bytes (s.ReadFault file) = ⊥
TellsWrong name bytes (s.BadInput file line kind) = ⊥
TellsWrong name bytes (s.TooGreat mon obj) = ⊥
TellsWrong name bytes s.WriteFault = ⊥
TellsWrong name bytes s.LinkFault = ⊥
TellsWrong name bytes (s.LinkDiffers difference) = ⊥

-- what is answered of the bytes of a file of this name
abbrev pub TracesBytes : List ℕ → List ℕ → Result Trace Status → Type 0
TracesBytes name bytes (Ok trace) = IsSpelledBy bytes trace
TracesBytes name bytes (Err status) = TellsWrong name bytes status

-- and of what reading it gave
abbrev pub TracesRead : List ℕ → Result (List ℕ) Fault → Result Trace Status → Type 0
TracesRead name (Ok bytes) answer = TracesBytes name bytes answer
TracesRead name (Err fault) (Ok trace) = ⊥
TracesRead name (Err fault) (Err status) = Says status fault

-- a file was read, and the answer is its trace, or the first fault that there is
pub record LoadsTrace (reads : FileReads) (name : List ℕ) (answer : Result Trace Status) : Type 0 where
  pub content : Option (List ℕ)
  pub read : IsRead reads (record { name = name; content = content })
  pub traces : TracesRead name (bytes_from name content) answer
