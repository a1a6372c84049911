use Rattle.tk_trail.proofs.GrowingLemmas.{last_stays}
use Rattle.tk_trail.proofs.growing.the_last_record_stays.Goals as goal

pub returns : goal.returns
returns c = last_stays
