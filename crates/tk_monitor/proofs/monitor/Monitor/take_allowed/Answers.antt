use Rattle.tk_monitor.proofs.TakeLemmas.{only_three}
use Rattle.tk_monitor.proofs.monitor.Monitor.take_allowed.Goals as goal

pub unreachable-requires : goal.unreachable-requires
unreachable-requires c =
    only_three c.args.self.now.setup c.args.self.now.trail c.args.frame c.requires c.in_default.not-Assign c.in_default.not-Collect c.in_default.not-Stop
