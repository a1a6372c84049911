use Rattle.std.proofs.Common.{◌≡◌, ◌∙◌, sym, ap, subst, filter, length, vec_capacity}
use Rattle.std.specs.Int.{w128}
use Rattle.std.proofs.lemmas.Int.{to_z-of_z}
use Rattle.tk_base.specs.Ascending.{IsAscending, numbers_of}
use Rattle.tk_base.specs.Objects.{objects}
use Rattle.tk_border.specs.Levels.{above}
use Rattle.tk_rank.specs.Tree.{is_over, leaf_at}
use Rattle.tk_rank.proofs.RankLemmas.{above_stand, above_ascends}
use Rattle.tk_rank.specs.Sides.{levels_of}
use Rattle.tk_rank.proofs.rank.Rank.above.Goals as goal

listed : (c : goal.After-new) → numbers_of c.in_ok-list.list.items ≡ above (levels_of c.self.inside.count (numbers_of c.self.inside.list.items) c.self.inside.members.leaves c.self.inside.outsiders.leaves) (numbers_of c.self.inside.list.items) c.args.level
listed c =
    let r = c.self.inside in
    c.in_ok-list.ensures
    ∙ ap (λ x. filter (λ o. is_over x (leaf_at r.outsiders.leaves o)) (objects (length r.outsiders.leaves))) (to_z-of_z w128 c.args.level c.ranges.level)
    ∙ above_stand (levels_of r.count (numbers_of r.list.items) r.members.leaves r.outsiders.leaves) (numbers_of r.list.items) (vec_capacity r.list) r.members r.outsiders.leaves c.args.level c.self.invariant

pub unwrap-requires : goal.unwrap-requires
unwrap-requires c =
    let r = c.self.inside in
    c.new.ensures.ascends.1 (subst IsAscending (sym (listed c)) (above_ascends (levels_of r.count (numbers_of r.list.items) r.members.leaves r.outsiders.leaves) (numbers_of r.list.items) c.args.level))

pub returns : goal.returns
returns c = rw (← c.self.view_is) ((rw c.unwrap.ensures at c.new.ensures.ok) ∙ listed c.before)
