use Rattle.tk_journal.proofs.AskedLemmas.{each_collect_is_answered}
use Rattle.tk_journal.proofs.sending.each_collect_is_answered.Goals as goal

pub returns : goal.returns
returns c = each_collect_is_answered
