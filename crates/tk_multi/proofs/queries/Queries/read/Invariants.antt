use Rattle.std.proofs.Common.{◌≡◌, ◌≤◌, [], length}
use Rattle.tk_input.specs.Records.{records_in, through}
use Rattle.tk_multi.specs.Queries.{query_added}
use Rattle.tk_multi.proofs.queries.Queries.read.Given as goal

-- what is left adds to the queries so far what the file adds to none
abbrev pub invariant-loop-list : goal.invariant-loop-list
invariant-loop-list l = record {
  same : through query_added l.list.items l.rows ≡ through query_added [] (records_in l.fn.bytes);
  few : length l.list.items ≤ 16;
}

abbrev pub decreases-loop-list : goal.decreases-loop-list
decreases-loop-list l = length l.rows
