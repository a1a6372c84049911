use Rattle.tk_story.proofs.DownLemmas.{down_is_taken}
use Rattle.tk_story.proofs.UpLemmas.{up_is_taken}
use Rattle.tk_story.proofs.joined.links_hold_over_any_opening.Goals as goal

pub returns-clause-down : goal.returns-clause-down
returns-clause-down c = down_is_taken

pub returns-clause-up : goal.returns-clause-up
returns-clause-up c = up_is_taken
