use Rattle.std.proofs.Common.{◌≡◌, All, length, true}
use Rattle.std.specs.Prelude.{is_ok}
use Rattle.tk_load.specs.Batch.{EachAt, IsReadAs}
use Rattle.tk_load.specs.Reads.{AreKept, NoneFailed, reads_by}
use Rattle.tk_load.proofs.batch.Batch.read.Given as goal

-- the files of the words so far were read, and no read failed
abbrev pub invariant-loop-file : goal.invariant-loop-file
invariant-loop-file g l = record {
  count : length l.logs.items ≡ l.file-index;
  read : EachAt (IsReadAs (reads_by g.F.Files l.initial.files l.files)) l.words l.logs.items;
  kept : AreKept g.F.Files l.initial.files l.files;
  none : NoneFailed (reads_by g.F.Files l.initial.files l.files);
  fine : All (λ log. is_ok log.content ≡ true) l.logs.items;
}
