use Rattle.tk_world.proofs.MomentLemmas.{state_is_moment}
use Rattle.tk_world.proofs.laws.each_state_is_a_moment.Goals as goal

pub returns : goal.returns
returns c = state_is_moment
