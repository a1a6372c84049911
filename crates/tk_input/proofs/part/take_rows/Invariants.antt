use Rattle.std.proofs.Common.{◌≡◌, ◌≤◌, length}
use Rattle.std.specs.Prelude.{All}
use Rattle.tk_input.specs.Log.{change_added}
use Rattle.tk_input.specs.Logs.{IsObject}
use Rattle.tk_input.specs.Records.{through}
use Rattle.tk_input.proofs.part.take_rows.Given as goal

-- what is left adds to the changes so far what all of it adds to those before, and they are within the limits
abbrev pub invariant-loop-row : goal.invariant-loop-row
invariant-loop-row l = record {
  same : through (change_added l.names) l.changes l.rows ≡ through (change_added l.names) l.fn.changes l.fn.rows;
  few : length l.changes ≤ 1000000;
  objects : All (λ c. IsObject (length l.names) c.0) l.changes;
}

abbrev pub decreases-loop-row : goal.decreases-loop-row
decreases-loop-row l = length l.rows
