use Rattle.tk_watch.proofs.TurningLemmas.{looks_away}
use Rattle.tk_watch.proofs.look.look.Goals as goal

pub returns-then-halted : goal.returns-then-halted
returns-then-halted g c = looks_away c.args.port.now
