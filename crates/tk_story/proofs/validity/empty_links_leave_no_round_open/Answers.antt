use Rattle.tk_story.proofs.QuietLemmas.{empty_links_close}
use Rattle.tk_story.proofs.validity.empty_links_leave_no_round_open.Goals as goal

pub returns : goal.returns
returns c = empty_links_close
