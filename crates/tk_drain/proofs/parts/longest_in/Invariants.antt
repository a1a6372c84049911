use Rattle.std.proofs.Common.{◌≡◌, take}
use Rattle.tk_input.specs.Logs.{parts_of}
use Rattle.tk_drain.specs.Passing.{longest_from}
use Rattle.tk_drain.proofs.parts.longest_in.Given as goal

abbrev pub invariant-loop-f : goal.invariant-loop-f
invariant-loop-f l = l.longest ≡ longest_from l.most (take l.f (parts_of l.logs.logs l.mon.0))
