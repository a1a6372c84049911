use Rattle.tk_verify.proofs.TrailLemmas.{checked}
use Rattle.tk_verify.proofs.trails.check.Goals as goal

pub returns-clause-leads : goal.returns-clause-leads
returns-clause-leads c = λ frame. (checked c.args.monitor.now frame c.check.new.self c.trail.ensures.legal c.check.ensures.legal c.in_ok-check.ensures.ok).leads
