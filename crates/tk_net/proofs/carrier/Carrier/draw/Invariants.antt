use Rattle.std.proofs.Common.{◌≡◌, []}
use Rattle.tk_net.proofs.carrier.Carrier.draw.Given as goal

-- no bytes of a chunk are there yet
abbrev pub invariant-loop : goal.invariant-loop
invariant-loop g l = l.self.inlet.held ≡ []
