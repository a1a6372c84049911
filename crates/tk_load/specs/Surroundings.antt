-- What stands about a run: the reads of its files, and what is written of it.
use Rattle.std.specs.Prelude.{ℕ, ◌≡◌, List, Option}
use Rattle.tk_input.specs.Files.{one_more}
use Rattle.tk_input.specs.declared.files.Files.{Ghosts as FilesOf}
use Rattle.tk_input.specs.declared.sink.Sink.{Ghosts as SinkOf}
use Rattle.tk_load.specs.Reads.{FileReads, reads_by}
use Rattle.tk_load.specs.declared.status.Status.{Status}
use Rattle.tk_load.specs.declared.status.Status.TheVariants as s

-- what an output was given before a call and after it, where that is told
pub record Output : Type 0 where
  pub before : Option (List ℕ)
  pub after : Option (List ℕ)

-- the same of an output that was in one state before the call, and is in another after it
abbrev pub output_by : {O : Type 0} → SinkOf O → O → O → Output
output_by out old new = record { before = out.written old; after = out.written new }

-- how many puts of an output have failed after a run of some status: one more exactly where it tells so
abbrev pub faults_told : Status → ℕ → ℕ
faults_told s.WriteFault faults = one_more faults
faults_told s.Done faults = faults
faults_told s.Usage faults = faults
faults_told (s.ReadFault file) faults = faults
faults_told (s.BadInput file line kind) faults = faults
faults_told (s.TooGreat mon obj) faults = faults
faults_told s.NoMemory faults = faults
faults_told s.LinkFault faults = faults
faults_told (s.LinkDiffers difference) faults = faults
faults_told (s.BadTrace file fault) faults = faults

-- nothing was written
abbrev pub IsUnwritten : Output → Type 0
IsUnwritten output = output.after ≡ output.before

-- the reads of the files of a run, and its output
pub record Surroundings : Type 0 where
  pub reads : FileReads
  pub output : Output

-- the same of files and an output, by their states before the call and after it
abbrev pub met_by : {F O : Type 0} → FilesOf F → SinkOf O → F → F → O → O → Surroundings
met_by files out read read_then written written_then = record { reads = reads_by files read read_then; output = output_by out written written_then }
