use Rattle.tk_coord.proofs.OutcomesLemmas.{fits_named}
use Rattle.tk_coord.proofs.outcomes.end_wide.Goals as goal

pub assigned-requires-clause-named : goal.assigned-requires-clause-named
assigned-requires-clause-named c =
    fits_named c.args.grounds.board.now.table c.in_ok-reallocation.reallocation c.args.grounds.phase.settings.monitors c.in_ok-reallocation.ensures.fits c.requires.size.monitors
