use Rattle.tk_drain.proofs.DrivenLemmas.{driven_reached, finished_reached}
use Rattle.tk_drain.proofs.driven.a_drive_is_reached.Goals as goal

pub returns-clause-finished : goal.returns-clause-finished
returns-clause-finished c = finished_reached

pub returns-clause-driven : goal.returns-clause-driven
returns-clause-driven c = driven_reached
