use Rattle.tk_journal.specs.Publishing.{publications}
use Rattle.tk_verify.proofs.RecordLemmas.{last_is}
use Rattle.tk_verify.proofs.journals.is_over.Goals as goal

pub returns-in_default : goal.returns-in_default
returns-in_default c = last_is (publications c.args.coordinator.now.journal) c.published.result c.publication.result.now c.published.ensures c.publication.ensures
