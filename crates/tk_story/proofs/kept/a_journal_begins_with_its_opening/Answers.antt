use Rattle.tk_story.proofs.JoiningLemmas.{opens_it}
use Rattle.tk_story.proofs.kept.a_journal_begins_with_its_opening.Goals as goal

pub returns : goal.returns
returns c = opens_it
