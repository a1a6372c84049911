use Rattle.std.proofs.Common.{◌≡◌, true}
use Rattle.tk_watch_tests.proofs.far.accepted.Given as goal

-- the host listens
abbrev pub invariant-loop : goal.invariant-loop
invariant-loop l = l.host.state.listens ≡ true
