use Rattle.tk_world.proofs.SerialLemmas.{reached, serialized}
use Rattle.tk_world.proofs.laws.each_story_has_its_events.Goals as goal

pub returns-clause-runs : goal.returns-clause-runs
returns-clause-runs c = serialized

pub returns-clause-reached : goal.returns-clause-reached
returns-clause-reached c = reached
