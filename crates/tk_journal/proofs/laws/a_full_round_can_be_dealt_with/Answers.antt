use Rattle.tk_journal.proofs.Dealable.{ended_dealable}
use Rattle.tk_journal.proofs.laws.a_full_round_can_be_dealt_with.Goals as goal

pub returns : goal.returns
returns c = ended_dealable
