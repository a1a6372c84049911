use Rattle.tk_journal.proofs.NumberLemmas.{collects_rise}
use Rattle.tk_journal.proofs.rounds.collects_rise.Goals as goal

pub returns : goal.returns
returns c = collects_rise
