use Rattle.std.proofs.Common.{◌≡◌, ◌-◌, ◌*◌, ◌^◌, ◌≤◌, take, sum_by}
use Rattle.tk_ledger.specs.Counting.{count_of}
use Rattle.tk_ledger.proofs.text.total.Given as goal

-- the counts so far are added
abbrev pub invariant-loop-counts : goal.invariant-loop-counts
invariant-loop-counts l = record {
  sum : l.total ≡ sum_by (count_of l.kind) (take l.counts-index l.per);
  small : l.total ≤ (2 ^ 64 - 1) * l.counts-index;
}
