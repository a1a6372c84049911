use Rattle.std.proofs.Common.{subst}
use Rattle.tk_input.specs.Catalog.{AreDifferent}
use Rattle.tk_input.proofs.DifferLemmas.{names_differ}
use Rattle.tk_input.proofs.catalog.Catalog.len.Goals as goal

pub returns-clause-differ : goal.returns-clause-differ
returns-clause-differ c = subst AreDifferent c.self.view_is (names_differ c.self.inside.names.keys c.len.ensures.unique)
