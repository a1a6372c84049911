-- An input that the files tell is run.
use Rattle.std.proofs.Common.{◌≡◌, ℕ, true, List, Some, Result, Err, is_ok, refl, sym, ap, subst, inl, inr}
use Rattle.tk_words.specs.Manual.{manual_text, version_text}
use Rattle.tk_words.specs.Words.{Asked, words_of}
use Rattle.tk_words.specs.Words.Asked.{Checks, Coordinates, Generates, Helps, Lives, Monitors, Queries, Replays, Restarts, Shows, Traces, Versions}
use Rattle.tk_load.proofs.FaultLemmas.{none_is_meant}
use Rattle.tk_load.specs.Faults.{Fault}
use Rattle.tk_commands.specs.Generated.{generated_of}
use Rattle.tk_load.specs.Input.{input_of}
use Rattle.tk_load.specs.Laws.{WhatIsToldIsMeant}
use Rattle.tk_commands.specs.Laws.{RightTraceIsRead, WhatIsToldOfQueriesIsMeant}
use Rattle.tk_commands.specs.MultiInput.{LoadsMulti, multi_input_of}
use Rattle.tk_load.specs.Reads.{Loads, Meets, Tells}
use Rattle.tk_commands.specs.SessionInput.{LoadsSessions, session_input_of}
use Rattle.tk_load.specs.Told.{read_by}
use Rattle.tk_commands.specs.Told.{multi_read_by}
use Rattle.tk_commands.specs.Traced.{LoadsTrace}
use Rattle.tk_load.specs.declared.input.Input.{Input}
use Rattle.tk_load.specs.declared.status.Status.{Status}
use Rattle.tk_load.specs.declared.status.Status.TheVariants as s
use Rattle.tk_run.specs.Constant.{EndsTold}
use Rattle.tk_run.specs.Ends.{Ends, EndsAsked, EndsWords, IsDone, IsStoryOf, IsShownBy, IsToldBy, check_text, replay_text, served, show_text, summary_text, trace_text}
use Rattle.tk_run.specs.Laws.{GivesInput}
use Rattle.tk_run.specs.Multi.{AreAnswersOf, multi_text}
use Rattle.tk_run.specs.Sessions.{AreStoriesOf, sessions_text}
use Rattle.tk_load.specs.Surroundings.{Output, Surroundings}
use Rattle.tk_run.proofs.EndsLemmas.{not_refused}

meant_is_run : {V : Type 0} (meant : Result V Fault) (status : Status) → is_ok meant ≡ true → Tells status meant → IsDone status
meant_is_run meant (s.ReadFault file) ok tells = absurd (none_is_meant meant _ ok tells)
meant_is_run meant (s.BadInput file line kind) ok tells = absurd (none_is_meant meant _ ok tells)
meant_is_run meant (s.TooGreat mon obj) ok tells = absurd (none_is_meant meant _ ok tells)
meant_is_run meant s.NoMemory ok tells = tt
meant_is_run meant s.Done ok tells = absurd tells
meant_is_run meant s.Usage ok tells = absurd tells
meant_is_run meant s.WriteFault ok tells = absurd tells
meant_is_run meant s.LinkFault ok tells = absurd tells
meant_is_run meant (s.LinkDiffers difference) ok tells = absurd tells
meant_is_run meant (s.BadTrace file fault) ok tells = absurd tells

-- a run whose input has no fault, and whose output was written
ended : {I S : Type 0} (gives : Result I Status → Type 0) (IsOf : I → S → Type 0) (text : I → S → List ℕ) (output : Output) → ((status : Status) → gives (Err status) → IsDone status) → (status : Status) → (status ≡ s.WriteFault → ⊥)
    → Ends gives IsOf text output status → IsDone status
ended gives IsOf text output given (s.ReadFault file) written ends = given (s.ReadFault file) ends.0
ended gives IsOf text output given (s.BadInput file line kind) written ends = given (s.BadInput file line kind) ends.0
ended gives IsOf text output given (s.TooGreat mon obj) written ends = given (s.TooGreat mon obj) ends.0
ended gives IsOf text output given (s.BadTrace file fault) written ends = given (s.BadTrace file fault) ends.0
ended gives IsOf text output given s.NoMemory written ends = tt
ended gives IsOf text output given s.Done written ends = tt
ended gives IsOf text output given s.Usage written ends = absurd ends
ended gives IsOf text output given s.WriteFault written ends = absurd (written refl)
ended gives IsOf text output given s.LinkFault written ends = absurd ends
ended gives IsOf text output given (s.LinkDiffers difference) written ends = absurd ends

-- a text that was written
told_is_done : (text : List ℕ) (output : Output) (status : Status) → (status ≡ s.WriteFault → ⊥) → EndsTold text output status → IsDone status
told_is_done text output s.Done written ends = tt
told_is_done text output s.WriteFault written ends = absurd (written refl)
told_is_done text output s.Usage written ends = absurd ends
told_is_done text output (s.ReadFault file) written ends = absurd ends
told_is_done text output (s.BadInput file line kind) written ends = absurd ends
told_is_done text output (s.TooGreat mon obj) written ends = absurd ends
told_is_done text output s.NoMemory written ends = absurd ends
told_is_done text output s.LinkFault written ends = absurd ends
told_is_done text output (s.LinkDiffers difference) written ends = absurd ends
told_is_done text output (s.BadTrace file fault) written ends = absurd ends

memory_is_free : (status : Status) → status ≡ s.NoMemory → IsDone status
memory_is_free status is = subst IsDone (sym is) tt

module _ (replay : WhatIsToldIsMeant input_of) (sessions : WhatIsToldIsMeant session_input_of) (queries : WhatIsToldOfQueriesIsMeant) (trace : RightTraceIsRead) where
  asked_is_run : (met : Surroundings) (contents : List ℕ → List ℕ) (asked : Asked) → GivesInput met.reads contents asked → (status : Status) → (status ≡ s.WriteFault → ⊥) → EndsAsked asked met status → IsDone status
  asked_is_run met contents (Replays words) given = ended (Loads met.reads words.sources) IsStoryOf replay_text met.output
      (λ other loads. meant_is_run (input_of (read_by contents words.sources)) other given.1 (replay met.reads contents words.sources (Err other) given.0 loads))
  asked_is_run met contents (Traces words) given = ended (Loads met.reads words.sources) IsStoryOf trace_text met.output
      (λ other loads. meant_is_run (input_of (read_by contents words.sources)) other given.1 (replay met.reads contents words.sources (Err other) given.0 loads))
  asked_is_run met contents (Restarts words) given = ended (LoadsSessions met.reads words) AreStoriesOf sessions_text met.output
      (λ other loads. meant_is_run (session_input_of (read_by contents words)) other given.1 (sessions met.reads contents words (Err other) given.0 loads))
  asked_is_run met contents (Queries words) given = ended (LoadsMulti met.reads words) AreAnswersOf multi_text met.output
      (λ other loads. meant_is_run (multi_input_of (multi_read_by contents words)) other given.1 (queries met.reads contents words (Err other) given.0 loads))
  asked_is_run met contents (Generates words) given = ended (Meets (λ (input : Input). input) (generated_of words)) IsStoryOf summary_text met.output
      (λ other tells. meant_is_run (generated_of words) other given tells)
  asked_is_run met contents (Checks file) given = ended (LoadsTrace met.reads file) IsToldBy check_text met.output
      (λ other loads. memory_is_free other (trace met.reads file (contents file) other given.0 given.1 loads))
  asked_is_run met contents (Shows file) given = ended (LoadsTrace met.reads file) IsShownBy show_text met.output
      (λ other loads. memory_is_free other (trace met.reads file (contents file) other given.0 given.1 loads))
  asked_is_run met contents (Lives words) given = absurd given
  asked_is_run met contents (Coordinates words) given = absurd given
  asked_is_run met contents (Monitors words) given = absurd given
  asked_is_run met contents (Helps command) given = told_is_done (manual_text command) met.output
  asked_is_run met contents Versions given = told_is_done version_text met.output

  -- words that are understood and no wish for a live run are served
  is_served : (reads : Surroundings) (contents : List ℕ → List ℕ) (asked : Asked) → GivesInput reads.reads contents asked → served (Some asked) ≡ Some asked
  is_served met contents (Replays words) given = refl
  is_served met contents (Traces words) given = refl
  is_served met contents (Restarts words) given = refl
  is_served met contents (Queries words) given = refl
  is_served met contents (Generates words) given = refl
  is_served met contents (Checks file) given = refl
  is_served met contents (Shows file) given = refl
  is_served met contents (Lives words) given = absurd given
  is_served met contents (Coordinates words) given = absurd given
  is_served met contents (Monitors words) given = absurd given
  is_served met contents (Helps command) given = refl
  is_served met contents Versions given = refl

  pub input_is_run : (words : List (List ℕ)) (asked : Asked) (met : Surroundings) (contents : List ℕ → List ℕ) (status : Status) → words_of words ≡ Some asked → GivesInput met.reads contents asked
      → (status ≡ s.WriteFault → ⊥) → EndsWords words met status → IsDone status
  input_is_run words asked met contents status understood given written (inl refused) = not_refused words asked status (let on = ap served understood in let here = is_served met contents asked given in cc (on, here)) refused.0
  input_is_run words asked met contents status understood given written (inr ends) =
      let on = ap served understood in
      let here = is_served met contents asked given in
      let found = ends.understood in
      let same : ends.asked ≡ asked = cc (on, here, found) in
      asked_is_run met contents asked given status written (subst (λ (a : Asked). EndsAsked a met status) same ends.ends)
