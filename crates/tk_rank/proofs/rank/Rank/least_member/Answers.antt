use Rattle.std.proofs.Common.{◌≡◌, ◌∙◌, ◌<◌, ◌^◌, ap, sym, arith, vec_capacity, Some, pos, ◌-ℤ◌}
use Rattle.std.specs.Prelude.{unsigned_abs}
use Rattle.std.proofs.lemmas.Int.{ints}
use Rattle.tk_base.specs.Ascending.{numbers_of}
use Rattle.tk_border.specs.Levels.{least_member}
use Rattle.tk_rank.proofs.RankLemmas.{least_from_root, root_there}
use Rattle.tk_rank.proofs.SidesLemmas.{turned}
use Rattle.tk_rank.specs.Sides.{levels_of}
use Rattle.tk_rank.proofs.rank.Rank.least_member.Goals as goal

pub unwrap-requires : goal.unwrap-requires
unwrap-requires c =
    let r = c.self.inside in
    root_there (levels_of r.count (numbers_of r.list.items) r.members.leaves r.outsiders.leaves) (numbers_of r.list.items) (vec_capacity r.list) r.members r.outsiders.leaves c.greatest.result c.self.invariant c.greatest.ensures

-- what the root tells
root : (c : goal.After-unwrap) → (least_member (levels_of c.self.inside.count (numbers_of c.self.inside.list.items) c.self.inside.members.leaves c.self.inside.outsiders.leaves) (numbers_of c.self.inside.list.items) ≡ Some (pos 0 -ℤ c.unwrap.result)) × (unsigned_abs c.unwrap.result < 2 ^ 114)
root c =
    let r = c.self.inside in
    least_from_root (levels_of r.count (numbers_of r.list.items) r.members.leaves r.outsiders.leaves) (numbers_of r.list.items) (vec_capacity r.list) r.members r.outsiders.leaves c.greatest.result c.unwrap.result c.self.invariant c.greatest.ensures c.unwrap.ensures

pub overflow_sub-result : goal.overflow_sub-result
overflow_sub-result c = let small = (root c).1 in omega (arith, ints)

pub returns-clause-value : goal.returns-clause-value
returns-clause-value c = rw (← c.self.view_is) ((root c).0 ∙ ap Some (sym (turned c.unwrap.result (root c).1)))

pub returns-clause-size : goal.returns-clause-size
returns-clause-size c = let small = (root c).1 in rw (turned c.unwrap.result small) (omega (arith, ints))
