use Rattle.std.proofs.Common.{◌≡◌, take}
use Rattle.std.specs.Prelude.{fold}
use Rattle.tk_drain.specs.Passing.{longest_from}
use Rattle.tk_drain.proofs.parts.longest_of.Given as goal

abbrev pub invariant-loop-j : goal.invariant-loop-j
invariant-loop-j l = l.longest ≡ fold longest_from 0 (take l.j l.logs.logs)
