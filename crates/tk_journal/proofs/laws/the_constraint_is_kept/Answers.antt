use Rattle.tk_journal.proofs.SoundLemmas.{legal_firm}
use Rattle.tk_journal.proofs.laws.the_constraint_is_kept.Goals as goal

pub returns : goal.returns
returns c = λ o j set legal t q in' out some within. (legal_firm o j set legal).standing.own t q in' out (record { from_one = some; within = within })
