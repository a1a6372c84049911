use Rattle.std.proofs.Common.{◌∙◌, sym, ap, length}
use Rattle.tk_base.specs.Ascending.{numbers_of}
use Rattle.tk_rank.specs.Rank.{RankView}
use Rattle.tk_rank.proofs.SidesLemmas.{length_levels}
use Rattle.tk_rank.proofs.rank.Rank.len.Goals as goal

pub returns-clause-value : goal.returns-clause-value
returns-clause-value c =
    let r = c.self.inside in
    sym (length_levels r.count (numbers_of r.list.items) r.members.leaves r.outsiders.leaves) ∙ ap (λ (x : RankView). length x.levels) c.self.view_is

pub returns-clause-limits : goal.returns-clause-limits
returns-clause-limits c = rw (← c.self.view_is) c.self.invariant.ranked
