use Rattle.std.proofs.Common.{ap, ◌∙◌}
use Rattle.std.specs.Prelude.{is_some}
use Rattle.tk_alloc.proofs.BorderLemmas.{named_is}
use Rattle.tk_coord.proofs.checks.is_named.Goals as goal

pub returns : goal.returns
returns c = c.is_some.ensures ∙ ap is_some c.get.ensures ∙ named_is c.args.values.now c.args.o.0
