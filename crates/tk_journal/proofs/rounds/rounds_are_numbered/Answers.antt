use Rattle.tk_journal.proofs.NumberLemmas.{rounds_named}
use Rattle.tk_journal.proofs.rounds.rounds_are_numbered.Goals as goal

pub returns : goal.returns
returns c = rounds_named
