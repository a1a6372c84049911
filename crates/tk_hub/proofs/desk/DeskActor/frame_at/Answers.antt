use Rattle.tk_hub.proofs.DeskLemmas.{can_be_sent}
use Rattle.tk_hub.proofs.desk.DeskActor.frame_at.Goals as goal

pub returns-clause-sent : goal.returns-clause-sent
returns-clause-sent c = can_be_sent c.args.self.now.coordinator.settings c.args.self.now.coordinator.journal c.args.peer.0 c.args.i c.sent_at.result.now c.journal.ensures.legal c.sent_at.ensures
