use Rattle.tk_trail.proofs.LawLemmas.{seq_grows}
use Rattle.tk_trail.proofs.SlackLemmas.{places_rise}
use Rattle.tk_trail.proofs.laws.readings_never_fall.Goals as goal

pub returns-clause-seq : goal.returns-clause-seq
returns-clause-seq c = seq_grows

pub returns-clause-places : goal.returns-clause-places
returns-clause-places c setup before after i = (places_rise setup before after).each i
