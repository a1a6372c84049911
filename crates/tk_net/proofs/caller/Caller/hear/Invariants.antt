use Rattle.std.proofs.Common.{◌-◌}
use Rattle.tk_net.proofs.caller.Caller.hear.Given as goal

abbrev pub decreases-loop-self : goal.decreases-loop-self
decreases-loop-self g l = 113 - l.self.filled
