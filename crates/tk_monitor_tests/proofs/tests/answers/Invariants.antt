use Rattle.std.proofs.Common.{◌≡◌}
use Rattle.tk_monitor_tests.proofs.tests.answers.Given as goal

-- a monitor keeps its setup
abbrev pub invariant-loop-does : goal.invariant-loop-does
invariant-loop-does l = l.m.setup ≡ l.initial.m.setup
