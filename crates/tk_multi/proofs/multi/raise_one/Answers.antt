use Rattle.tk_input.specs.declared.event.Event.TheVariants.{Raise}
use Rattle.tk_multi.proofs.multi.raise_one.Goals as goal
use Rattle.tk_drain.proofs.LegLemmas.{moves_keep}

pub returns : goal.returns
returns g c = moves_keep c.args.world.now c.step.new.self (Raise c.args.mon c.args.f) c.in-Ok.field-0 c.in-Ok.ensures.ok
