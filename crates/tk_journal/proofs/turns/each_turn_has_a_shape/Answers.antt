use Rattle.tk_journal.proofs.ShapeLemmas.{shape}
use Rattle.tk_journal.proofs.turns.each_turn_has_a_shape.Goals as goal

pub returns : goal.returns
returns c = shape
