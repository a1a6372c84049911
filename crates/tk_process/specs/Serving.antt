-- How the words of a process end.
use Rattle.std.specs.Prelude.{ℕ, ◌≡◌, Bool, true, false, List, Option, Some, None}
use Rattle.tk_load.specs.Surroundings.{IsUnwritten, Surroundings}
use Rattle.tk_load.specs.declared.status.Status.{Status}
use Rattle.tk_load.specs.declared.status.Status.TheVariants as s
use Rattle.tk_process.specs.Coordinating.{EndsCoordinator}
use Rattle.tk_process.specs.Monitoring.{EndsMonitor}
use Rattle.tk_words.specs.Words.{Asked, CoordinateWords, MonitorWords, words_of}
use Rattle.tk_words.specs.Words.Asked.{Checks, Coordinates, Generates, Helps, Lives, Monitors, Queries, Replays, Restarts, Shows, Traces, Versions}

-- whether words ask for a process of its own
abbrev pub asks_process : Option Asked → Bool
asks_process None = false
asks_process (Some (Replays words)) = false
asks_process (Some (Generates words)) = false
asks_process (Some (Lives words)) = false
asks_process (Some (Queries words)) = false
asks_process (Some (Restarts words)) = false
asks_process (Some (Traces words)) = false
asks_process (Some (Checks file)) = false
asks_process (Some (Shows file)) = false
asks_process (Some (Coordinates words)) = true
asks_process (Some (Monitors words)) = true
asks_process (Some (Helps command)) = false
asks_process (Some Versions) = false

-- how words end: they ask for no process; there was no memory for them; or they have ended as those of a coordinator or of a
-- monitor
pub data EndsProcess (W : Type 0) (words : List (List ℕ)) (met : Surroundings) (status : Status) : Type 0 where
  Refused : asks_process (words_of words) ≡ false → status ≡ s.Usage → IsUnwritten met.output → EndsProcess W words met status
  Unmet : status ≡ s.NoMemory → IsUnwritten met.output → EndsProcess W words met status
  Coordinated : (asked : CoordinateWords) → words_of words ≡ Some (Coordinates asked) → EndsCoordinator asked met status → EndsProcess W words met status
  Monitored : (asked : MonitorWords) → words_of words ≡ Some (Monitors asked) → EndsMonitor W asked met status → EndsProcess W words met status
