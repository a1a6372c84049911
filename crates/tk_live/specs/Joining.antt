-- What the joining of ends goes by. No public clause cites it.
use Rattle.std.specs.Prelude.{ℕ, ◌≡◌, List, Option, Result, Ok, Err}
use Rattle.std.specs.List.{concat}
use Rattle.tk_base.specs.Settings.{Setup}
use Rattle.tk_input.specs.Logs.{LogSet, beginnings}
use Rattle.tk_input.specs.Sink.{GrowsByFront}
use Rattle.tk_ledger.specs.Ledger.{ledger_of}
use Rattle.tk_ledger.specs.Text.{ledger_text, lines_of}
use Rattle.tk_ledger.specs.declared.printing.PrintFault.{PrintFault}
use Rattle.tk_ledger.specs.declared.printing.PrintFault.TheVariants as f
use Rattle.tk_load.specs.declared.input.Input.{Input}
use Rattle.tk_load.specs.Surroundings.{Output}
use Rattle.tk_story.specs.Ends.{HaveNothingOdd, joined, kept_by}
use Rattle.tk_story.specs.Story.{StoryView}
use Rattle.tk_story.specs.declared.ends.Ends.{Ends}
use Rattle.tk_live.specs.Complete.{IsComplete}
use Rattle.tk_live.specs.Lived.{Concludes, IsOfInput}
use Rattle.tk_live.specs.Traffic.{Traffic, traffic_of}
use Rattle.tk_live.specs.declared.outcome.LiveOutcome.{LiveOutcome}
use Rattle.tk_load.specs.declared.status.Status.{Status}
use Rattle.tk_load.specs.declared.status.Status.TheVariants as st

-- the lines of the ledger of a story
abbrev pub ledger_lines : StoryView → List ℕ
ledger_lines s = ledger_text (ledger_of s.settings s.journal)

-- what is told where the ledger was printed so
abbrev pub printed_as : {A : Type 0} → Result A PrintFault → Status
printed_as (Ok done) = st.Done
printed_as (Err f.WriteFailed) = st.WriteFault
printed_as (Err f.NoMemory) = st.NoMemory

-- settings, logs and starting places are those of an input
pub record IsFrom (input : Input) (settings : Setup) (logs : LogSet) (from : List (List ℕ)) : Type 0 where
  pub settings_are : settings ≡ input.settings
  pub logs_are : logs ≡ input.logs
  pub from_is : from ≡ beginnings input.logs

-- where nothing is odd, the story of the ends is one that is over
abbrev pub IsCompleteUnlessOdd : List (List ℕ) → ℕ → Ends → LogSet → List (List ℕ) → Traffic → Type 0
IsCompleteUnlessOdd names version ends logs from traffic =
    HaveNothingOdd (kept_by ends.coordinator ends.monitors.items) → IsComplete names version (joined (kept_by ends.coordinator ends.monitors.items) logs from) traffic

-- a run concludes with a story: whatever input the story is of, and whatever was written and taken up to here, if it is
-- complete by that
abbrev pub ConcludesStory : StoryView → Output → LiveOutcome → Type 0
ConcludesStory s output result =
    (input : Input) (version : ℕ) (was : Option (List ℕ)) (taken taken_then : ℕ) → IsOfInput input s
    → IsComplete input.names version s (traffic_of was output.before taken taken_then)
    → Concludes input version (traffic_of was output.after taken taken_then) result

-- a run concludes with ends, in the same way
abbrev pub ConcludesEnds : Setup → LogSet → List (List ℕ) → Ends → Output → LiveOutcome → Type 0
ConcludesEnds settings logs from ends output result =
    (input : Input) (version : ℕ) (was : Option (List ℕ)) (taken taken_then : ℕ) → IsFrom input settings logs from
    → IsCompleteUnlessOdd input.names version ends logs from (traffic_of was output.before taken taken_then)
    → GrowsByFront was output.before (concat (lines_of input.names ends.coordinator.coordinator.journal))
    → Concludes input version (traffic_of was output.after taken taken_then) result
