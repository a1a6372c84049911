use Rattle.std.proofs.Common.{rules}
use Rattle.tk_monitor.specs.Factors.{kept_by}
use Rattle.tk_monitor.proofs.factors.Factors.new.Goals as goal

pub returns : goal.returns
unfolding kept_by
returns c = search rules
