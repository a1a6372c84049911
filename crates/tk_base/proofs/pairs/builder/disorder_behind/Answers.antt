use Rattle.std.proofs.Common.{rules}
use Rattle.tk_base.proofs.AscendingLemmas.{stays}
use Rattle.tk_base.proofs.pairs.builder.disorder_behind.Goals as goal

pub returns : goal.returns
returns c xs is known = stays xs c.args.last c.args.o.0 c.args.disorder known (λ none. search rules)
