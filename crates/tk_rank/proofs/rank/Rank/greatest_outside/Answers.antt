use Rattle.std.proofs.Common.{◌≡◌, ◌∙◌, vec_capacity, true}
use Rattle.tk_base.specs.Ascending.{numbers_of}
use Rattle.tk_border.specs.Levels.{holds}
use Rattle.tk_border.proofs.MembershipLemmas.{held_in}
use Rattle.tk_rank.proofs.RankLemmas.{outside_stand}
use Rattle.tk_rank.specs.Sides.{levels_of}
use Rattle.tk_rank.proofs.rank.Rank.greatest_outside.Goals as goal

pub returns : goal.returns
returns c =
    let r = c.self.inside in
    let members = numbers_of r.list.items in
    let held : holds c.args.r.now members ≡ true = rw (← c.self.view_is) at c.requires in
    rw (← c.self.view_is)
    (c.greatest_outside.ensures
    ∙ outside_stand (levels_of r.count (numbers_of r.list.items) r.members.leaves r.outsiders.leaves) members c.args.r.now (vec_capacity r.list) r.members r.outsiders.leaves c.self.invariant (held_in c.args.r.now members held))
