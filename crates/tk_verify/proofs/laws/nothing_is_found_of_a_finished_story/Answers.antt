use Rattle.tk_verify.proofs.RecordLemmas.{none_found}
use Rattle.tk_verify.proofs.laws.nothing_is_found_of_a_finished_story.Goals as goal

pub returns : goal.returns
returns c = none_found
