-- How the words of a coordinator end.
use Rattle.std.specs.Prelude.{◌≡◌, Ok, Err}
use Rattle.tk_commands.specs.Processes.{LoadsCoordinator}
use Rattle.tk_commands.specs.declared.coordinator.CoordinatorInput.{CoordinatorInput}
use Rattle.tk_host.specs.Coordinating.{Coordinates}
use Rattle.tk_host.specs.declared.coordinated.Coordinated.{Coordinated}
use Rattle.tk_host.specs.declared.coordinated.Coordinated.TheVariants as c
use Rattle.tk_load.specs.Surroundings.{IsUnwritten, Surroundings}
use Rattle.tk_load.specs.declared.status.Status.{Status}
use Rattle.tk_load.specs.declared.status.Status.TheVariants as s
use Rattle.tk_wire.specs.declared.net.NetFault.{NetFault}
use Rattle.tk_wire.specs.declared.net.NetFault.TheVariants as n
use Rattle.tk_words.specs.Words.{CoordinateWords}

-- the status of a coordinator's process that ended so
abbrev pub status_of : Coordinated → Status
status_of c.Done = s.Done
status_of c.WriteFault = s.WriteFault
status_of c.NoMemory = s.NoMemory
status_of c.LinkFault = s.LinkFault

-- that of one for which no host could be made
abbrev pub status_of_net : NetFault → Status
status_of_net n.Failed = s.LinkFault
status_of_net n.NoMemory = s.NoMemory

-- how words end: their file gives no input, by the first rule that fails; there was no host; or the process ran over exactly the
-- names and settings of their input, for as many sessions as they ask for
pub data EndsCoordinator (words : CoordinateWords) (met : Surroundings) (status : Status) : Type 0 where
  Unread : LoadsCoordinator met.reads words (Err status) → IsUnwritten met.output → EndsCoordinator words met status
  Unhosted : (input : CoordinatorInput) (fault : NetFault) → LoadsCoordinator met.reads words (Ok input) → status ≡ status_of_net fault → IsUnwritten met.output → EndsCoordinator words met status
  Ran : (input : CoordinatorInput) (end : Coordinated) → LoadsCoordinator met.reads words (Ok input) → status ≡ status_of end
      → Coordinates end input.names input.settings words.missing words.sessions met.output.before met.output.after → EndsCoordinator words met status
