-- How a live run of an input ends, and what its status tells.
use Rattle.std.specs.Prelude.{ℕ, ◌≡◌, List, Option, Some, None, IsSome, IfSome, ⊤}
use Rattle.std.specs.List.{concat}
use Rattle.tk_drain.specs.Resting.{RunsFrom}
use Rattle.tk_input.specs.Logs.{beginnings}
use Rattle.tk_input.specs.Sink.{Grows, GrowsByFront}
use Rattle.tk_ledger.specs.Text.{lines_of, text_of}
use Rattle.tk_load.specs.declared.input.Input.{Input}
use Rattle.tk_story.specs.Headline.{IsSound}
use Rattle.tk_load.specs.Surroundings.{IsUnwritten, Output}
use Rattle.tk_story.specs.Ends.{AreOfOneRun, HaveNothingOdd, IsFirst, kept_by}
use Rattle.tk_story.specs.Kept.{KeptStory}
use Rattle.tk_story.specs.Moments.{IsOver}
use Rattle.tk_story.specs.Story.{StoryView}
use Rattle.tk_story.specs.declared.ends.Ends.{Ends}
use Rattle.tk_wire.specs.Net.{NetState}
use Rattle.tk_live.specs.Carried.{IsCarried}
use Rattle.tk_live.specs.Traffic.{Traffic, traffic_over}
use Rattle.tk_live.specs.declared.outcome.LiveOutcome.{LiveOutcome}
use Rattle.tk_load.specs.declared.status.Status.{Status}
use Rattle.tk_load.specs.declared.status.Status.TheVariants as st

-- ---- a run that is done

-- a story over the settings and the logs of an input, from places 0
pub record IsOfInput (input : Input) (s : StoryView) : Type 0 where
  pub settings : s.settings ≡ input.settings
  pub logs : s.logs ≡ input.logs
  pub from : s.from ≡ beginnings input.logs

-- the story of a live run that is done: it runs the events that are kept with it, its text was written, where that is
-- told, and as many bytes as it needs were taken from the links
pub record HasLived (input : Input) (version : ℕ) (traffic : Traffic) (kept : KeptStory) : Type 0 where
  pub runs : RunsFrom input.settings input.logs (beginnings input.logs) kept
  pub written : Grows traffic.output.before traffic.output.after (text_of input.names kept.story)
  pub carried : IsCarried version kept.story traffic.taken traffic.taken_then

-- ---- what is left of any run

-- ends of nodes that were made for an input
abbrev pub AreOfInput : Input → Ends → Type 0
AreOfInput input ends = AreOfOneRun ends.coordinator ends.monitors.items input.logs input.settings (beginnings input.logs)

-- what was written: with a story a front of its text, with ends a front of the lines that their journal published; and
-- with neither nothing, and no byte was taken from a link, as where no worker was started
abbrev pub Leaves : List (List ℕ) → Traffic → Option KeptStory → Option Ends → Type 0
Leaves names traffic (Some kept) ends = GrowsByFront traffic.output.before traffic.output.after (text_of names kept.story)
Leaves names traffic None (Some ends) = GrowsByFront traffic.output.before traffic.output.after (concat (lines_of names ends.coordinator.coordinator.journal))
Leaves names traffic None None = IsUnwritten traffic.output × (traffic.taken_then ≡ traffic.taken)

-- a difference is the first that the ends show; and a failed link is told only where no end has what it did not take, so
-- what was refused, or was no frame, never passes for a failed link
abbrev pub TellsEnds : Status → Option Ends → Type 0
TellsEnds (st.LinkDiffers difference) None = ⊥
TellsEnds (st.LinkDiffers difference) (Some ends) = IsFirst (kept_by ends.coordinator ends.monitors.items) difference
TellsEnds st.Done ends = ends ≡ None
TellsEnds st.WriteFault ends = ⊤
TellsEnds st.LinkFault None = ⊤
TellsEnds st.LinkFault (Some ends) = HaveNothingOdd (kept_by ends.coordinator ends.monitors.items)
TellsEnds st.NoMemory ends = ⊤
TellsEnds st.Usage ends = ⊥
TellsEnds (st.ReadFault file) ends = ⊥
TellsEnds (st.BadInput file line kind) ends = ⊥
TellsEnds (st.TooGreat mon obj) ends = ⊥
TellsEnds (st.BadTrace file fault) ends = ⊥

-- what a live run leaves
pub record Concludes (input : Input) (version : ℕ) (traffic : Traffic) (result : LiveOutcome) : Type 0 where
  pub done : result.status ≡ st.Done → IsSome result.story
  pub lived : result.status ≡ st.Done → IfSome result.story (HasLived input version traffic)
  -- for any story all of the headline holds, and each monitor took Stop
  pub sound : IfSome result.story (λ s. IsSound s.story)
  pub over : IfSome result.story (λ s. IsOver s.story)
  pub of_input : IfSome result.story (λ s. IsOfInput input s.story)
  -- any ends are those of the nodes that were made for the input
  pub ends : IfSome result.ends (AreOfInput input)
  pub one : IsSome result.story → result.ends ≡ None
  pub written : Leaves input.names traffic result.story result.ends
  pub differs : TellsEnds result.status result.ends

-- the same over a net, which counts the bytes that were taken from its links
abbrev pub EndsOver : Input → ℕ → Output → NetState → NetState → LiveOutcome → Type 0
EndsOver input version output net net' result = Concludes input version (traffic_over output net net') result
