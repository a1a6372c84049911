use Rattle.tk_compact.proofs.ToldLemmas.{closed_once, told_once}
use Rattle.tk_compact.proofs.laws.what_is_told_counts_once.Goals as goal

pub returns-clause-told : goal.returns-clause-told
returns-clause-told c = told_once

pub returns-clause-closed : goal.returns-clause-closed
returns-clause-closed c = closed_once
