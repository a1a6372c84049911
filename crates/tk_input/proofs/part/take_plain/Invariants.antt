use Rattle.std.proofs.Common.{◌≡◌, ◌≤◌, length}
use Rattle.std.specs.Prelude.{All}
use Rattle.tk_input.specs.Log.{change_added}
use Rattle.tk_input.specs.Logs.{IsObject}
use Rattle.tk_input.specs.Plain.{cut_records}
use Rattle.tk_input.specs.Records.{through}
use Rattle.tk_input.proofs.part.take_plain.Given as goal

-- the rest adds to the changes so far what the whole text adds to those before, and they are within the limits
abbrev pub invariant-loop-rest : goal.invariant-loop-rest
invariant-loop-rest l = record {
  same : through (change_added l.names) l.changes (cut_records l.rest) ≡ through (change_added l.names) l.fn.changes (cut_records l.text);
  few : length l.changes ≤ 1000000;
  objects : All (λ c. IsObject (length l.names) c.0) l.changes;
}

abbrev pub decreases-loop-rest : goal.decreases-loop-rest
decreases-loop-rest l = length l.rest
