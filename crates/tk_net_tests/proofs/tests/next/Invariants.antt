use Rattle.std.proofs.Common.{◌≡◌, true}
use Rattle.tk_net_tests.proofs.tests.next.Given as goal

-- the net listens
abbrev pub invariant-loop : goal.invariant-loop
invariant-loop g l = (g.N.Net.state l.net).listens ≡ true
