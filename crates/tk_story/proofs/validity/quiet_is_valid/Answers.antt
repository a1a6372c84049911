use Rattle.tk_story.proofs.QuietLemmas.{quiet_holds}
use Rattle.tk_story.proofs.validity.quiet_is_valid.Goals as goal

pub returns : goal.returns
returns c = quiet_holds
