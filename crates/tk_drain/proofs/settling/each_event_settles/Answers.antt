use Rattle.tk_drain.proofs.SettleLemmas.{event_settles}
use Rattle.tk_drain.proofs.settling.each_event_settles.Goals as goal

pub returns : goal.returns
returns c = event_settles
