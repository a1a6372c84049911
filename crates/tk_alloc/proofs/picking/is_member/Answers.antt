use Rattle.tk_alloc.proofs.MemberLemmas.{is_in_from}
use Rattle.tk_alloc.proofs.picking.is_member.Goals as goal

pub returns : goal.returns
returns c = is_in_from c.args.set.now c.args.o.0 c.has.result c.has.ensures
