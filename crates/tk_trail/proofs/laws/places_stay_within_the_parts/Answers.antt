use Rattle.tk_trail.proofs.LegalLemmas.{legal_places}
use Rattle.tk_trail.proofs.laws.places_stay_within_the_parts.Goals as goal

pub returns : goal.returns
returns c setup trail places legal = legal_places setup places trail legal.each
