-- What follows from how words end.
use Rattle.std.specs.Prelude.{ℕ, ◌≡◌, true, List, ◌∷◌, ◌++◌, Some, Ok, is_ok}
use Rattle.tk_journal.specs.declared.noted.Noted.{Noted}
use Rattle.tk_journal.specs.declared.noted.Noted.TheVariants as n
use Rattle.tk_journal.specs.declared.publication.Publication.{Publication}
use Rattle.tk_story.specs.Kept.{KeptStory}
use Rattle.tk_trace.specs.Checked.{Faults}
use Rattle.tk_verify.specs.declared.trace_fault.TraceFault.{TraceFault}
use Rattle.tk_window.specs.TickEnds.{ticks_at}
use Rattle.tk_window.specs.Validity.{IsWindowValid}
use Rattle.tk_words.specs.Words.{Asked, words_of}
use Rattle.tk_words.specs.Words.Asked.{Checks, Coordinates, Generates, Helps, Lives, Monitors, Queries, Replays, Restarts, Shows, Traces, Versions}
use Rattle.tk_commands.specs.Generated.{generated_of}
use Rattle.tk_load.specs.Input.{ReadWords, input_of}
use Rattle.tk_commands.specs.MultiInput.{multi_input_of}
use Rattle.tk_load.specs.Reads.{FileReads}
use Rattle.tk_commands.specs.SessionInput.{session_input_of}
use Rattle.tk_load.specs.Told.{AreTold, IsTold, files_of, read_by}
use Rattle.tk_commands.specs.Told.{multi_files_of, multi_read_by}
use Rattle.tk_load.specs.Windowed.{ticked_rows}
use Rattle.tk_load.specs.declared.input.Input.{Input}
use Rattle.tk_load.specs.declared.status.Status.{Status}
use Rattle.tk_load.specs.declared.status.Status.TheVariants.{WriteFault}
use Rattle.tk_run.specs.Ends.{EndsWords, IsDone, IsStoryOf, IsTracedOf, trace_text}
use Rattle.tk_story.specs.Headline.{IsSound}
use Rattle.tk_load.specs.Surroundings.{Surroundings}

-- nothing is wrong with the bytes of a trace
abbrev pub IsRight : List ℕ → Type 0
IsRight bytes = (fault : TraceFault) → Faults bytes fault → ⊥

-- the files of what is asked tell what they hold, no read of them failed, and with the words they give an input; the file of
-- a check, and of what is shown, tells a right trace; help and the version want none
abbrev pub GivesInput : FileReads → (List ℕ → List ℕ) → Asked → Type 0
GivesInput reads contents (Replays words) = AreTold reads contents (files_of words.sources) × (is_ok (input_of (read_by contents words.sources)) ≡ true)
GivesInput reads contents (Traces words) = AreTold reads contents (files_of words.sources) × (is_ok (input_of (read_by contents words.sources)) ≡ true)
GivesInput reads contents (Restarts words) = AreTold reads contents (files_of words) × (is_ok (session_input_of (read_by contents words)) ≡ true)
GivesInput reads contents (Queries words) = AreTold reads contents (multi_files_of words) × (is_ok (multi_input_of (multi_read_by contents words)) ≡ true)
GivesInput reads contents (Generates words) = is_ok (generated_of words) ≡ true
GivesInput reads contents (Checks file) = IsTold reads file (contents file) × IsRight (contents file)
GivesInput reads contents (Shows file) = IsTold reads file (contents file) × IsRight (contents file)
GivesInput reads contents (Lives words) = ⊥
GivesInput reads contents (Coordinates words) = ⊥
GivesInput reads contents (Monitors words) = ⊥
GivesInput reads contents (Helps command) = Unit
GivesInput reads contents Versions = Unit

-- where words and what their files tell give an input and the output was written, the run is done, or no memory was found
abbrev pub InputIsRun : Type 0
InputIsRun =
    (words : List (List ℕ)) (asked : Asked) (met : Surroundings) (contents : List ℕ → List ℕ) (status : Status)
    → words_of words ≡ Some asked → GivesInput met.reads contents asked
    → (status ≡ WriteFault → ⊥) → EndsWords words met status → IsDone status

-- where a file tells the trace of an input's story, no read of it failed and the output was written, its check is done,
-- or no memory was found
abbrev pub WrittenTraceIsChecked : Type 0
WrittenTraceIsChecked =
    (words : List (List ℕ)) (file : List ℕ) (met : Surroundings) (input : Input) (kept : KeptStory) (status : Status)
    → words_of words ≡ Some (Checks file) → IsTold met.reads file (trace_text input kept) → IsTracedOf input kept → IsSound kept.story
    → (status ≡ WriteFault → ⊥) → EndsWords words met status → IsDone status

-- where the words ask for a window, a set that the story of their input published at a cut where ticks end is valid for the
-- windows at these ticks, over the logs in ticks that the files hold
abbrev pub PublishedIsValidForItsWindows : Type 0
PublishedIsValidForItsWindows =
    (words : ReadWords) (width : ℕ) (input : Input) (kept : KeptStory) (before after : List Noted) (p : Publication)
    (ends : List (List (List ℕ))) (ticks : List (List ℕ))
    → words.width ≡ Some width → input_of words ≡ Ok input → IsStoryOf input kept → IsSound kept.story
    → kept.story.journal ≡ before ++ n.Published p ∷ after → input.ends ≡ Some ends → ticks_at ends p.cut ≡ Some ticks
    → IsWindowValid width (ticked_rows input.names words.logs) input.settings.objects p.k p.epsilon ticks p.members
