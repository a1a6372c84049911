-- What a live run gives to its output and takes from its links.
use Rattle.std.specs.Prelude.{ℕ, List, Option}
use Rattle.tk_input.specs.declared.files.Files.{Ghosts as FilesOf}
use Rattle.tk_input.specs.declared.sink.Sink.{Ghosts as SinkOf}
use Rattle.tk_load.specs.Reads.{FileReads, reads_by}
use Rattle.tk_load.specs.Surroundings.{Output, output_by}
use Rattle.tk_wire.specs.Net.{NetState}

-- what its output was given, and how many bytes were taken from its links, before the run and after it
pub record Traffic : Type 0 where
  pub output : Output
  pub taken : ℕ
  pub taken_then : ℕ

-- the same by what was written and taken before and after
abbrev pub traffic_of : Option (List ℕ) → Option (List ℕ) → ℕ → ℕ → Traffic
traffic_of before after taken taken_then = record { output = record { before = before; after = after }; taken = taken; taken_then = taken_then }

-- the same of an output, by the states of a net, which counts what is taken
abbrev pub traffic_over : Output → NetState → NetState → Traffic
traffic_over output net net' = record { output = output; taken = net.taken; taken_then = net'.taken }

-- the reads of the files of a live run, and its traffic
pub record LiveSurroundings : Type 0 where
  pub reads : FileReads
  pub traffic : Traffic

-- the same of files, an output and a net, by their states before the call and after it
abbrev pub all_met : {F O N : Type 0} → FilesOf F → SinkOf O → (N → NetState) → F → F → O → O → N → N → LiveSurroundings
all_met files out net read read_then written written_then before after = record {
  reads = reads_by files read read_then;
  traffic = traffic_over (output_by out written written_then) (net before) (net after);
}
