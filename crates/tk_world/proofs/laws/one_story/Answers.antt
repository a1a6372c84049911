use Rattle.tk_world.proofs.ReadLemmas.{reads}
use Rattle.tk_world.proofs.WalkLemmas.{runs_there, stands_alone}
use Rattle.tk_world.proofs.laws.one_story.Goals as goal

pub returns-clause-runs : goal.returns-clause-runs
returns-clause-runs c = runs_there

pub returns-clause-alone : goal.returns-clause-alone
returns-clause-alone c = stands_alone

pub returns-clause-reads : goal.returns-clause-reads
returns-clause-reads c = reads
