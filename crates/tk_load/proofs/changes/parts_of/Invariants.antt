use Rattle.std.proofs.Common.{◌≡◌, ◌+◌, ◌-◌, All, length, true}
use Rattle.std.specs.Prelude.{is_ok}
use Rattle.tk_load.specs.Reads.{AreKept, NoneFailed, reads_by}
use Rattle.tk_load.proofs.PartsLemmas.{PartsSoFar}
use Rattle.tk_load.proofs.changes.parts_of.Given as goal

-- the parts so far are those that the words before give, and no read failed
abbrev pub invariant-loop-alloc : goal.invariant-loop-alloc
invariant-loop-alloc g l = record {
  parts : PartsSoFar (reads_by g.F.Files l.fn.files l.files) l.width l.names l.words l.parts.items l.updates;
  kept : AreKept g.F.Files l.fn.files l.files;
  none : NoneFailed (reads_by g.F.Files l.fn.files l.files);
}

abbrev pub decreases-loop-alloc : goal.decreases-loop-alloc
decreases-loop-alloc g l = length l.words - length l.parts.items

-- with those of a batch
abbrev pub invariant-loop-log : goal.invariant-loop-log
invariant-loop-log g l = record {
  parts : PartsSoFar (reads_by g.F.Files l.fn.files l.files) l.width l.names l.words l.parts.items l.updates;
  count : length l.parts.items ≡ length l.initial.parts.items + length l.yielded;
  fine : All (λ log. is_ok log ≡ true) l.yielded;
}
