use Rattle.std.proofs.Common.{◌≡◌, ◌+◌, ◌≤◌, ◌++◌, drop, length}
use Rattle.tk_show.specs.Turned.{batch_length, batch_text}
use Rattle.tk_show.proofs.noted.push_batch.Given as goal

-- what is written and what is left are the whole
abbrev pub invariant-loop-i : goal.invariant-loop-i
invariant-loop-i l = record {
  within : l.i ≤ length l.journal;
  text : l.line.items ++ batch_text l.names (drop l.i l.journal) ≡ l.initial.line.items ++ batch_text l.names (drop l.from l.journal);
  end : l.i + batch_length (drop l.i l.journal) ≡ l.from + batch_length (drop l.from l.journal);
}
