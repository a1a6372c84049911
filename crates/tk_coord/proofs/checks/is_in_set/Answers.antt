use Rattle.tk_border.proofs.MembershipLemmas.{has_is}
use Rattle.tk_coord.proofs.checks.is_in_set.Goals as goal

pub returns : goal.returns
returns c = has_is c.has.result c.args.set.now c.args.o.0 c.has.ensures.0 c.has.ensures.1
