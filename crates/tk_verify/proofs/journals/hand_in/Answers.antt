use Rattle.std.proofs.Common.{ap}
use Rattle.tk_journal.specs.Legal.{is_input, start}
use Rattle.tk_verify.proofs.JournalLemmas.{no_input}
use Rattle.tk_verify.proofs.journals.hand_in.Goals as goal

pub returns-in-Sent-clause-leads : goal.returns-in-Sent-clause-leads
returns-in-Sent-clause-leads c = no_input (start c.args.coordinator.now.settings) c.args.coordinator.now.journal c.args.noted.now c.requires (ap is_input c.in-Sent.is)

pub returns-in-Published-clause-leads : goal.returns-in-Published-clause-leads
returns-in-Published-clause-leads c = no_input (start c.args.coordinator.now.settings) c.args.coordinator.now.journal c.args.noted.now c.requires (ap is_input c.in-Published.is)
