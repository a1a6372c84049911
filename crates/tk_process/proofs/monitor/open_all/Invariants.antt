use Rattle.std.specs.Prelude.{◌≡◌, length}
use Rattle.tk_process.proofs.monitor.open_all.Given as goal

-- a source was opened for each name so far
abbrev pub invariant-loop-name : goal.invariant-loop-name
invariant-loop-name g l = length l.sources.items ≡ l.name-index
