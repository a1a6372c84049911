use Rattle.std.proofs.Common.{◌∙◌, vec_capacity}
use Rattle.tk_base.specs.Ascending.{numbers_of}
use Rattle.tk_rank.proofs.RankLemmas.{outsiders_stand}
use Rattle.tk_rank.specs.Sides.{levels_of}
use Rattle.tk_rank.proofs.rank.Rank.greatest_outsider.Goals as goal

pub returns : goal.returns
returns c =
    let r = c.self.inside in
    rw (← c.self.view_is)
    (c.greatest.ensures ∙ outsiders_stand (levels_of r.count (numbers_of r.list.items) r.members.leaves r.outsiders.leaves) (numbers_of r.list.items) (vec_capacity r.list) r.members r.outsiders.leaves c.self.invariant)
