-- The story of an input, and how a run of it ends.
use Rattle.std.specs.Prelude.{ℕ, ◌≡◌, ◌⊎◌, ◌++◌, Bool, true, false, List, [], codes, Option, Some, None, Result, Ok, Err}
use Rattle.tk_input.specs.Logs.{beginnings}
use Rattle.tk_input.specs.Sink.{Grows, GrowsByFront}
use Rattle.tk_words.specs.Manual.{manual_text, version_text}
use Rattle.tk_words.specs.Words.{Asked, GenerateWords, words_of}
use Rattle.tk_words.specs.Words.Asked.{Checks, Coordinates, Generates, Helps, Lives, Monitors, Queries, Replays, Restarts, Shows, Traces, Versions}
use Rattle.tk_words.specs.declared.verb.Verb.{Verb}
use Rattle.tk_words.specs.declared.verb.Verb.TheVariants as v
use Rattle.tk_commands.specs.Generated.{generated_of}
use Rattle.tk_commands.specs.MultiInput.{LoadsMulti}
use Rattle.tk_load.specs.Reads.{Loads, Meets}
use Rattle.tk_commands.specs.SessionInput.{LoadsSessions}
use Rattle.tk_commands.specs.Traced.{LoadsTrace}
use Rattle.tk_load.specs.declared.input.Input.{Input}
use Rattle.tk_load.specs.declared.status.Status.{Status}
use Rattle.tk_load.specs.declared.status.Status.TheVariants as s
use Rattle.tk_story.specs.Kept.{KeptStory}
use Rattle.tk_story.specs.Moments.{IsOver}
use Rattle.tk_story.specs.Story.{StoryView}
use Rattle.tk_world.specs.Events.{begin}
use Rattle.tk_world.specs.Runs.{RunsBy}
use Rattle.tk_drain.specs.Drive.{Drives, events_in}
use Rattle.tk_drain.specs.Resting.{RunsFrom}
use Rattle.tk_ledger.specs.Text.{sets_text, summary_of, text_of, ticked_text_of}
use Rattle.tk_trace.specs.Recorded.{recorded_of}
use Rattle.tk_trace.specs.Spelling.{IsRecorded, trace_of}
use Rattle.tk_trace.specs.declared.trace.Trace.{Trace}
use Rattle.tk_show.specs.Text.{shown_text}
use Rattle.tk_run.specs.Constant.{EndsTold, HasTold}
use Rattle.tk_run.specs.Multi.{AreAnswersOf, multi_text}
use Rattle.tk_run.specs.Sessions.{AreStoriesOf, sessions_text}
use Rattle.tk_load.specs.Surroundings.{IsUnwritten, Output, Surroundings}
use Rattle.tk_run.specs.declared.outcome.Outcome.{Outcome}

-- ---- the story of an input

-- a story of this input before its first event
abbrev pub begun_by : Input → KeptStory
begun_by input = record { story = begin input.settings input.logs (beginnings input.logs); events = [] }

-- the story of an input: over its settings and logs, from places 0, it runs the events that are kept with it, and these
-- are what is kept of the drive of the input's order; and it is over
pub record IsStoryOf (input : Input) (kept : KeptStory) : Type 0 where
  pub runs : RunsFrom input.settings input.logs (beginnings input.logs) kept
  pub driven : Drives (events_in input.order) (begun_by input) kept
  pub over : IsOver kept.story

-- ---- its text

-- the whole text, with the ticks at which the sets stand, where a window goes over the logs
abbrev pub text_with : Option (List (List (List ℕ))) → List (List ℕ) → StoryView → List ℕ
text_with None = text_of
text_with (Some ends) = ticked_text_of ends

-- the text of the story of an input
abbrev pub replay_text : Input → KeptStory → List ℕ
replay_text input kept = text_with input.ends input.names kept.story

-- the summary of it
abbrev pub summary_text : Input → KeptStory → List ℕ
summary_text input kept = summary_of input.names kept.story

-- ---- traces

-- the trace of it
abbrev pub trace_text : Input → KeptStory → List ℕ
trace_text input kept = trace_of input.names kept.story

-- the story of an input, all of which a trace can spell
pub record IsTracedOf (input : Input) (kept : KeptStory) : Type 0 where
  pub story : IsStoryOf input kept
  pub recorded : IsRecorded (recorded_of input.names kept.story)

-- the story that a trace tells
abbrev pub IsToldBy : Trace → KeptStory → Type 0
IsToldBy trace kept = kept ≡ trace.story

-- the answer to it: its sets, and yes
abbrev pub yes_text : List (List ℕ) → StoryView → List ℕ
yes_text names s = sets_text names s ++ codes "yes\n"

-- the text that a check writes of a trace
abbrev pub check_text : Trace → KeptStory → List ℕ
check_text trace kept = yes_text trace.names kept.story

-- the story that a trace tells, with a list of events that it runs from its beginning
pub record IsShownBy (trace : Trace) (kept : KeptStory) : Type 0 where
  pub story : kept.story ≡ trace.story.story
  pub runs : RunsBy kept.story kept.events

-- the text of these events
abbrev pub show_text : Trace → KeptStory → List ℕ
show_text trace kept = shown_text trace.names kept

-- ---- how a run ends, by what gives its input, what was made of it, and what the text of that is

-- a run that is done: there is an input, what was made is of the input, and its text was written, where that is told
pub record HasRun {I S : Type 0} (gives : Result I Status → Type 0) (IsOf : I → S → Type 0) (text : I → S → List ℕ) (output : Output) (made : S) : Type 0 where
  pub input : I
  pub given : gives (Ok input)
  pub story : IsOf input made
  pub written : Grows output.before output.after (text input made)

-- a run that was cut short in writing: a front of the text of what was made of the input was written
pub record IsCutShort {I S : Type 0} (gives : Result I Status → Type 0) (IsOf : I → S → Type 0) (text : I → S → List ℕ) (output : Output) : Type 0 where
  pub input : I
  pub given : gives (Ok input)
  pub made : S
  pub story : IsOf input made
  pub written : GrowsByFront output.before output.after (text input made)

-- what a status tells: of a run that is done see above; where there is no input it is the fault that there is, and
-- nothing was written; where writing failed the run was cut short; want of memory is free, but nothing else was written
abbrev pub Ends : {I S : Type 0} → (Result I Status → Type 0) → (I → S → Type 0) → (I → S → List ℕ) → Output → Status → Type 0
Ends gives IsOf text output s.Done = Unit
Ends gives IsOf text output s.Usage = ⊥
Ends gives IsOf text output (s.ReadFault file) = gives (Err (s.ReadFault file)) × IsUnwritten output
Ends gives IsOf text output (s.BadInput file line kind) = gives (Err (s.BadInput file line kind)) × IsUnwritten output
Ends gives IsOf text output (s.TooGreat mon obj) = gives (Err (s.TooGreat mon obj)) × IsUnwritten output
Ends gives IsOf text output s.WriteFault = IsCutShort gives IsOf text output
Ends gives IsOf text output s.NoMemory = IsUnwritten output ⊎ IsCutShort gives IsOf text output
Ends gives IsOf text output s.LinkFault = ⊥
Ends gives IsOf text output (s.LinkDiffers difference) = ⊥
Ends gives IsOf text output (s.BadTrace file fault) = gives (Err (s.BadTrace file fault)) × IsUnwritten output

-- ---- of the words of a command

-- what words ask of `run`, which serves all but live runs, and coordinators and monitors as processes of their own
abbrev pub served : Option Asked → Option Asked
served None = None
served (Some (Replays words)) = Some (Replays words)
served (Some (Generates words)) = Some (Generates words)
served (Some (Lives words)) = None
served (Some (Queries words)) = Some (Queries words)
served (Some (Restarts words)) = Some (Restarts words)
served (Some (Traces words)) = Some (Traces words)
served (Some (Checks file)) = Some (Checks file)
served (Some (Shows file)) = Some (Shows file)
served (Some (Coordinates words)) = None
served (Some (Monitors words)) = None
served (Some (Helps command)) = Some (Helps command)
served (Some Versions) = Some Versions

-- whether a command is served
abbrev pub serves : Option Verb → Bool
serves None = false
serves (Some v.Live) = false
serves (Some v.Replay) = true
serves (Some v.Generate) = true
serves (Some v.Window) = true
serves (Some v.Multi) = true
serves (Some v.Sessions) = true
serves (Some v.Trace) = true
serves (Some v.Check) = true
serves (Some v.Show) = true
serves (Some v.Coordinate) = false
serves (Some v.Monitor) = false
serves (Some v.Help) = true
serves (Some v.Version) = true

-- one story was made, of which this holds
pub record IsOne (Holds : KeptStory → Type 0) (outcome : Outcome) : Type 0 where
  pub kept : KeptStory
  pub is : outcome.story ≡ Some kept
  pub alone : outcome.stories.items ≡ []
  pub holds : Holds kept

-- several stories were made, of which this holds
pub record AreSeveral (Holds : List KeptStory → Type 0) (outcome : Outcome) : Type 0 where
  pub none : outcome.story ≡ None
  pub holds : Holds outcome.stories.items

-- a generated run, which reads no file: what has run for its words
abbrev pub RunsGenerated : GenerateWords → Output → Outcome → Type 0
RunsGenerated words output = IsOne (HasRun (Meets (λ input. input) (generated_of words)) IsStoryOf summary_text output)

-- how they have ended
abbrev pub EndsGenerated : GenerateWords → Output → Status → Type 0
EndsGenerated words output = Ends (Meets (λ input. input) (generated_of words)) IsStoryOf summary_text output

-- what has run for what words ask; a live run, a coordinator and a monitor are not served
abbrev pub RunsAsked : Asked → Surroundings → Outcome → Type 0
RunsAsked (Replays words) met = IsOne (HasRun (Loads met.reads words.sources) IsStoryOf replay_text met.output)
RunsAsked (Generates words) met = RunsGenerated words met.output
RunsAsked (Lives words) met = λ outcome. ⊥
RunsAsked (Queries words) met = AreSeveral (HasRun (LoadsMulti met.reads words) AreAnswersOf multi_text met.output)
RunsAsked (Restarts words) met = AreSeveral (HasRun (LoadsSessions met.reads words) AreStoriesOf sessions_text met.output)
RunsAsked (Traces words) met = IsOne (HasRun (Loads met.reads words.sources) IsTracedOf trace_text met.output)
RunsAsked (Checks file) met = IsOne (HasRun (LoadsTrace met.reads file) IsToldBy check_text met.output)
RunsAsked (Shows file) met = IsOne (HasRun (LoadsTrace met.reads file) IsShownBy show_text met.output)
RunsAsked (Coordinates words) met = λ outcome. ⊥
RunsAsked (Monitors words) met = λ outcome. ⊥
RunsAsked (Helps command) met = HasTold (manual_text command) met.output
RunsAsked Versions met = HasTold version_text met.output

-- how what words ask for has ended; of a trace that was cut short a front of that of the story was written
abbrev pub EndsAsked : Asked → Surroundings → Status → Type 0
EndsAsked (Replays words) met = Ends (Loads met.reads words.sources) IsStoryOf replay_text met.output
EndsAsked (Generates words) met = EndsGenerated words met.output
EndsAsked (Lives words) met = λ status. ⊥
EndsAsked (Queries words) met = Ends (LoadsMulti met.reads words) AreAnswersOf multi_text met.output
EndsAsked (Restarts words) met = Ends (LoadsSessions met.reads words) AreStoriesOf sessions_text met.output
EndsAsked (Traces words) met = Ends (Loads met.reads words.sources) IsStoryOf trace_text met.output
EndsAsked (Checks file) met = Ends (LoadsTrace met.reads file) IsToldBy check_text met.output
EndsAsked (Shows file) met = Ends (LoadsTrace met.reads file) IsShownBy show_text met.output
EndsAsked (Coordinates words) met = λ status. ⊥
EndsAsked (Monitors words) met = λ status. ⊥
EndsAsked (Helps command) met = EndsTold (manual_text command) met.output
EndsAsked Versions met = EndsTold version_text met.output

-- the words are understood, and what they ask for has run
pub record RunsWords (words : List (List ℕ)) (met : Surroundings) (outcome : Outcome) : Type 0 where
  pub asked : Asked
  pub understood : served (words_of words) ≡ Some asked
  pub ran : RunsAsked asked met outcome

-- the words are understood, and what they ask for has ended so
pub record EndsUnderstood (words : List (List ℕ)) (met : Surroundings) (status : Status) : Type 0 where
  pub asked : Asked
  pub understood : served (words_of words) ≡ Some asked
  pub ends : EndsAsked asked met status

-- the words are not understood, or no memory was found for them
abbrev pub IsRefused : List (List ℕ) → Status → Type 0
IsRefused words s.Usage = served (words_of words) ≡ None
IsRefused words s.NoMemory = Unit
IsRefused words s.Done = ⊥
IsRefused words (s.ReadFault file) = ⊥
IsRefused words (s.BadInput file line kind) = ⊥
IsRefused words (s.TooGreat mon obj) = ⊥
IsRefused words s.WriteFault = ⊥
IsRefused words s.LinkFault = ⊥
IsRefused words (s.LinkDiffers difference) = ⊥
IsRefused words (s.BadTrace file fault) = ⊥

-- how words end
abbrev pub EndsWords : List (List ℕ) → Surroundings → Status → Type 0
EndsWords words met status = (IsRefused words status × IsUnwritten met.output) ⊎ EndsUnderstood words met status

-- a run is done, or no memory was found
abbrev pub IsDone : Status → Type 0
IsDone s.Done = Unit
IsDone s.NoMemory = Unit
IsDone s.Usage = ⊥
IsDone (s.ReadFault file) = ⊥
IsDone (s.BadInput file line kind) = ⊥
IsDone (s.TooGreat mon obj) = ⊥
IsDone s.WriteFault = ⊥
IsDone s.LinkFault = ⊥
IsDone (s.LinkDiffers difference) = ⊥
IsDone (s.BadTrace file fault) = ⊥
