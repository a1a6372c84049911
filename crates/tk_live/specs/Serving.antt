-- How the words of a live run end.
use Rattle.std.specs.Prelude.{ℕ, ◌≡◌, ◌⊎◌, List, Option, Some, None, Ok, Err}
use Rattle.tk_words.specs.Words.{Asked, LiveWords, words_of}
use Rattle.tk_words.specs.Words.Asked.{Checks, Coordinates, Generates, Helps, Lives, Monitors, Queries, Replays, Restarts, Shows, Traces, Versions}
use Rattle.tk_load.specs.Reads.{Loads}
use Rattle.tk_load.specs.declared.input.Input.{Input}
use Rattle.tk_load.specs.declared.status.Status.{Status}
use Rattle.tk_load.specs.declared.status.Status.TheVariants as s
use Rattle.tk_load.specs.Surroundings.{IsUnwritten}
use Rattle.tk_live.specs.Lived.{Concludes}
use Rattle.tk_live.specs.Traffic.{LiveSurroundings, Traffic}
use Rattle.tk_live.specs.declared.outcome.LiveOutcome.{LiveOutcome}

-- what words ask of `live`, which serves live runs alone
abbrev pub served : Option Asked → Option LiveWords
served None = None
served (Some (Replays words)) = None
served (Some (Generates words)) = None
served (Some (Lives words)) = Some words
served (Some (Queries words)) = None
served (Some (Restarts words)) = None
served (Some (Traces words)) = None
served (Some (Checks file)) = None
served (Some (Shows file)) = None
served (Some (Coordinates words)) = None
served (Some (Monitors words)) = None
served (Some (Helps command)) = None
served (Some Versions) = None

-- words give no live run: there was no memory for them, or they are of none
abbrev pub GivesNone : List (List ℕ) → Status → Type 0
GivesNone words status = (status ≡ s.NoMemory) ⊎ ((served (words_of words) ≡ None) × (status ≡ s.Usage))

-- no worker was started: nothing was written, and no byte was taken from a link
pub record IsUnstarted (traffic : Traffic) (outcome : LiveOutcome) : Type 0 where
  pub story : outcome.story ≡ None
  pub ends : outcome.ends ≡ None
  pub unwritten : IsUnwritten traffic.output
  pub untaken : traffic.taken_then ≡ traffic.taken

-- how words end: they are not those of a live run; there was no memory for them; their files give no input, by the first
-- rule that fails; or their input has run
pub data EndsWords (words : List (List ℕ)) (met : LiveSurroundings) (outcome : LiveOutcome) : Type 0 where
  Refused : served (words_of words) ≡ None → outcome.status ≡ s.Usage → IsUnstarted met.traffic outcome → EndsWords words met outcome
  Unmet : outcome.status ≡ s.NoMemory → IsUnstarted met.traffic outcome → EndsWords words met outcome
  Unread : (asked : LiveWords) → served (words_of words) ≡ Some asked → Loads met.reads asked.sources (Err outcome.status) → IsUnstarted met.traffic outcome → EndsWords words met outcome
  Ran : (asked : LiveWords) (input : Input) → served (words_of words) ≡ Some asked → Loads met.reads asked.sources (Ok input) → Concludes input asked.frames met.traffic outcome → EndsWords words met outcome
