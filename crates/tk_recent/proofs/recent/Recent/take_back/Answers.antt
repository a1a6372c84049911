use Rattle.tk_recent.proofs.KeptLemmas.{next_taken}
use Rattle.tk_recent.proofs.recent.Recent.take_back.Goals as goal

pub returns-then-self-len : goal.returns-then-self-len
returns-then-self-len c =
    let s = c.self.inside in
    next_taken s.width s.ended.items s.sums.items s.leaves s.told c.args.self.now c.self.view_is
