-- How the words of a monitor end.
use Rattle.std.specs.Prelude.{ℕ, ◌≡◌, ◌-◌, List, [], length, slice_get, slice_index_or, Some, Ok, Err, ⊤}
use Rattle.tk_base.specs.declared.ids.Feeder.{Feeder}
use Rattle.tk_commands.specs.Processes.{LoadsMonitor}
use Rattle.tk_commands.specs.declared.monitor.MonitorInput.{MonitorInput}
use Rattle.tk_load.specs.Surroundings.{IsUnwritten, Surroundings}
use Rattle.tk_load.specs.declared.status.InputKind.{InputKind}
use Rattle.tk_load.specs.declared.status.InputKind.TheVariants as k
use Rattle.tk_load.specs.declared.status.Status.{Status}
use Rattle.tk_load.specs.declared.status.Status.TheVariants as s
use Rattle.tk_stream.specs.declared.line_fault.LineFault.{LineFault}
use Rattle.tk_stream.specs.declared.line_fault.LineFault.TheVariants as l
use Rattle.tk_watch.specs.Connections.{Writes}
use Rattle.tk_watch.specs.Watch.{Named}
use Rattle.tk_watch.specs.declared.fault.FeedKind.{FeedKind}
use Rattle.tk_watch.specs.declared.fault.FeedKind.TheVariants as f
use Rattle.tk_watch.specs.declared.verdict.Verdict.{Verdict}
use Rattle.tk_watch.specs.declared.verdict.Verdict.TheVariants as v
use Rattle.tk_words.specs.Words.{MonitorWords}

-- what is wrong with a line of a stream, as an input has it
abbrev pub kind_of : LineFault → InputKind
kind_of l.TooLong = k.LineTooLong
kind_of l.BadRow = k.BadRow
kind_of l.UnknownName = k.UnknownName
kind_of l.BadNumber = k.BadNumber

-- a line of this number is bad, and this is what is wrong with it
pub record IsBadLine (kind : FeedKind) (line : ℕ) (what : InputKind) : Type 0 where
  pub fault : LineFault
  pub bad : kind ≡ f.Bad line fault
  pub told : what ≡ kind_of fault

-- a status tells what was wrong with the stream of this name at a monitor; want of memory is free
abbrev pub FeedsAs : ℕ → List ℕ → FeedKind → Status → Type 0
FeedsAs number source kind (s.ReadFault file) = (kind ≡ f.Unread) × (file.items ≡ source)
FeedsAs number source kind (s.BadInput file line what) = IsBadLine kind line what × (file.items ≡ source)
FeedsAs number source kind (s.TooGreat mon obj) = (mon.0 ≡ number) × (kind ≡ f.TooGreat obj)
FeedsAs number source kind s.NoMemory = ⊤
FeedsAs number source kind s.Done = ⊥
FeedsAs number source kind s.Usage = ⊥
FeedsAs number source kind s.WriteFault = ⊥
FeedsAs number source kind s.LinkFault = ⊥
FeedsAs number source kind (s.LinkDiffers difference) = ⊥
FeedsAs number source kind (s.BadTrace file fault) = ⊥

-- a source of the words was not opened; want of memory is free
abbrev pub IsUnopened : MonitorWords → Status → Type 0
IsUnopened words (s.ReadFault file) = (i : ℕ) × (slice_get words.sources i ≡ Some file.items)
IsUnopened words s.NoMemory = ⊤
IsUnopened words s.Done = ⊥
IsUnopened words s.Usage = ⊥
IsUnopened words (s.BadInput file line kind) = ⊥
IsUnopened words (s.TooGreat mon obj) = ⊥
IsUnopened words s.WriteFault = ⊥
IsUnopened words s.LinkFault = ⊥
IsUnopened words (s.LinkDiffers difference) = ⊥
IsUnopened words (s.BadTrace file fault) = ⊥

-- the source of a stream, as the words name it
abbrev pub source_of : MonitorWords → Feeder → List ℕ
source_of words stream = slice_index_or words.sources (stream.0 - 1) []

-- a status tells how a monitor's process ended
abbrev pub TellsVerdict : MonitorWords → Verdict → Status → Type 0
TellsVerdict words v.Done status = status ≡ s.Done
TellsVerdict words v.WriteFault status = status ≡ s.WriteFault
TellsVerdict words v.LinkFault status = status ≡ s.LinkFault
TellsVerdict words v.NoMemory status = status ≡ s.NoMemory
TellsVerdict words (v.Fed fault) status = FeedsAs words.number (source_of words fault.stream) fault.kind status

-- what no call of the watch of a monitor changes, by its words and their input
abbrev pub named_by : MonitorWords → MonitorInput → Named
named_by words input = record {
  number = words.number;
  objects = length input.names;
  streams = length words.sources;
  run = input.run;
  version = words.frames;
}

-- how words end: their file gives no input, by the first rule that fails; a source is not opened; or the process ran over exactly
-- the names of their input, with a stream for each of their sources
pub data EndsMonitor (W : Type 0) (words : MonitorWords) (met : Surroundings) (status : Status) : Type 0 where
  Unread : LoadsMonitor met.reads words (Err status) → IsUnwritten met.output → EndsMonitor W words met status
  Unopened : (input : MonitorInput) → LoadsMonitor met.reads words (Ok input) → IsUnopened words status → IsUnwritten met.output → EndsMonitor W words met status
  Ran : (input : MonitorInput) (verdict : Verdict) → LoadsMonitor met.reads words (Ok input) → TellsVerdict words verdict status
      → Writes W (named_by words input) verdict met.output.before met.output.after → EndsMonitor W words met status
