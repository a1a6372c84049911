use Rattle.std.proofs.Common.{length}
use Rattle.tk_net.specs.Cables.{Writes}
use Rattle.tk_net.proofs.carrier.Carrier.flush.Given as goal

-- what is not left was written
abbrev pub invariant-loop-self : goal.invariant-loop-self
invariant-loop-self g l = Writes l.initial.self.outlet l.self.outlet

abbrev pub decreases-loop-self : goal.decreases-loop-self
decreases-loop-self g l = length l.self.outlet
