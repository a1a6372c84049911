use Rattle.tk_border.proofs.PassedLemmas.{passed_none}
use Rattle.tk_border.proofs.extremes.start.Goals as goal

pub returns : goal.returns
returns c = passed_none c.args.set.now c.len.ensures.ascends
