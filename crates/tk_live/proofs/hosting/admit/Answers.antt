use Rattle.std.proofs.Common.{refl}
use Rattle.tk_live.proofs.HostLemmas.{gone_none}
use Rattle.tk_live.proofs.hosting.admit.Goals as goal

pub loop-init : goal.loop-init
loop-init g c = record { rest = refl; kept = c.coordinator.ensures.kept; gone = gone_none (g.N.Net.state c.args.net.now) }
