use Rattle.tk_journal.proofs.SoundLemmas.{legal_firm}
use Rattle.tk_journal.proofs.laws.factors_are_small.Goals as goal

pub returns : goal.returns
returns c = λ o j set legal. let sizes = (legal_firm o j set legal).standing.sizes in record { own = λ q some within. sizes.own q (record { from_one = some; within = within }); each = λ q mon some within m. sizes.each q mon (record { from_one = some; within = within }) m }
