use Rattle.tk_trail.proofs.SaysLemmas.{ends_are}
use Rattle.tk_trail.proofs.speaking.the_ends_are_the_lengths.Goals as goal

pub returns : goal.returns
returns c = ends_are
