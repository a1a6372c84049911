use Rattle.std.proofs.Common.{◌≡◌, true}
use Rattle.tk_watch_tests.proofs.tests.play.Given as goal

-- the host listens
abbrev pub invariant-loop-deed : goal.invariant-loop-deed
invariant-loop-deed l = l.host.state.listens ≡ true
