use Rattle.tk_watch.proofs.EndsLemmas.{told_ticked}
use Rattle.tk_watch.proofs.cell.Watched.take_end.Goals as goal

pub returns : goal.returns
returns g c = told_ticked _ _ c.args.self.now.windows c.args.self.now.ends c.take.result c.args.self.now.are_windows c.args.self.now.are_ends c.take.ensures.last c.take.ensures.some
