use Rattle.std.proofs.Common.{◌≡◌, length, take, sum_by}
use Rattle.tk_ledger.specs.Ledger.{bytes_in as bytes_of}
use Rattle.tk_ledger.proofs.FrameLemmas.{AreCounted}
use Rattle.tk_ledger.proofs.frames.count_frames.Given as goal

-- the entries so far are counted, and their bytes added
abbrev pub invariant-loop-entry : goal.invariant-loop-entry
invariant-loop-entry l = record {
  size : length l.per.items ≡ l.monitors;
  counted : AreCounted l.per.items l.monitors (take l.entry-index l.journal);
  bytes : l.bytes ≡ sum_by bytes_of (take l.entry-index l.journal);
}
