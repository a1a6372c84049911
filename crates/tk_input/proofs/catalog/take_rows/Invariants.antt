use Rattle.std.proofs.Common.{◌≡◌, ◌≤◌, length}
use Rattle.tk_input.specs.Catalog.{name_added, names_of}
use Rattle.tk_input.specs.Records.{through}
use Rattle.tk_input.proofs.catalog.take_rows.Given as goal

-- what is left adds to the names so far what all of it adds to those before
abbrev pub invariant-loop-names : goal.invariant-loop-names
invariant-loop-names l = record {
  same : through name_added (names_of l.names.keys) l.rows ≡ through name_added (names_of l.fn.names.keys) l.fn.rows;
  few : length l.names.keys ≤ 65536;
}

abbrev pub decreases-loop-names : goal.decreases-loop-names
decreases-loop-names l = length l.rows
