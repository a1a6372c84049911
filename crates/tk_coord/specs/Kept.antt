-- What the fields of a coordinator keep of its journal. No public clause cites this.
use Rattle.std.specs.Prelude.{◌≡◌, List}
use Rattle.std.specs.List.{All}
use Rattle.tk_base.specs.Settings.{Setup}
use Rattle.tk_journal.specs.Entries.{IsEntryOf}
use Rattle.tk_journal.specs.Kinds.{turns_of}
use Rattle.tk_journal.specs.declared.noted.Noted.{Noted}
use Rattle.tk_journal.specs.declared.turn.Turn.{Turn}
use Rattle.tk_coord.specs.Coordinator.{IsJournal}
use Rattle.tk_coord.specs.State.{Holds, Stands}
use Rattle.tk_coord.specs.declared.phase.Phase.{Phase}
use Rattle.tk_coord.specs.declared.state.State.{State}

-- the fields are what the journal gives, which is a legal one
pub record IsKept (s : Setup) (j : List Noted) (state : State) (phase : Phase) (turns : List Turn) : Type 0 where
  pub journal : IsJournal s j
  pub holds : Holds s j state
  pub stands : Stands s j phase
  pub entries : All (IsEntryOf s.monitors s.objects) j
  pub turned : turns ≡ turns_of s j
