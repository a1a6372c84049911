use Rattle.tk_journal.proofs.LawLemmas.{one_less}
use Rattle.tk_journal.proofs.Ended.{legal_ends}
use Rattle.tk_journal.proofs.laws.only_the_final_one_is_last.Goals as goal

pub returns : goal.returns
returns c = λ o j set legal is. let m = one_less o.settings.monitors set.limits.some_monitor in (legal_ends o m.0 m.1 j legal).going is
