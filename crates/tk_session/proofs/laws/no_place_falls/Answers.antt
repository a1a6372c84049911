use Rattle.tk_session.proofs.CutLemmas.{no_place_falls_within}
use Rattle.tk_session.proofs.FallLemmas.{no_place_falls_between}
use Rattle.tk_session.proofs.laws.no_place_falls.Goals as goal

pub returns-clause-within : goal.returns-clause-within
returns-clause-within c = no_place_falls_within c.readings_never_fall.ensures.places

pub returns-clause-between : goal.returns-clause-between
returns-clause-between c = no_place_falls_between c.readings_never_fall.ensures.places
