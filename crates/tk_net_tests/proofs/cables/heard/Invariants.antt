use Rattle.std.proofs.Common.{◌≡◌, true}
use Rattle.tk_net_tests.proofs.cables.heard.Given as goal

-- the host listens
abbrev pub invariant-loop : goal.invariant-loop
invariant-loop g l = (g.H.Host.state l.host).listens ≡ true
