use Rattle.std.proofs.Common.{◌∙◌, ℤ, List, vec_capacity, ap, length}
use Rattle.std.specs.Prelude.{IsSome, nat_lt}
use Rattle.tk_base.specs.Ascending.{numbers_of}
use Rattle.tk_border.specs.Levels.{broken}
use Rattle.tk_rank.specs.Node.{narrow_number}
use Rattle.tk_rank.specs.Rank.{RankView}
use Rattle.tk_rank.specs.Sides.{levels_of}
use Rattle.tk_rank.proofs.RankLemmas.{broken_at_roots, root_there, some_value}
use Rattle.tk_rank.proofs.rank.Rank.is_broken.Goals as goal
use Rattle.tk_rank.proofs.rank.Rank.is_broken.Goals.{In-Some-narrow_greatest}

-- the levels
abbrev levels : (c : In-Some-narrow_greatest) → List ℤ
levels c = let r = c.self.inside in levels_of r.count (numbers_of r.list.items) r.members.leaves r.outsiders.leaves

-- a number stands at the members' root
there : (c : In-Some-narrow_greatest) → IsSome (narrow_number c.in-Some.turned)
there c =
    let r = c.self.inside in
    root_there (levels c) (numbers_of r.list.items) (vec_capacity r.list) r.members r.outsiders.leaves (narrow_number c.in-Some.turned) c.self.invariant c.in-Some.ensures

pub is_over_turned-requires : goal.is_over_turned-requires
is_over_turned-requires c = there c

pub returns-in-Some-narrow_greatest : goal.returns-in-Some-narrow_greatest
returns-in-Some-narrow_greatest c =
    let r = c.self.inside in
    let turned = narrow_number c.in-Some.turned in
    let greatest = narrow_number c.in-Some-narrow_greatest.greatest in
    let (x, is) = some_value turned (there c.before) in
    c.is_over_turned.ensures x is
    ∙ broken_at_roots (levels c.before) (numbers_of r.list.items) (vec_capacity r.list) r.members r.outsiders.leaves turned greatest x c.self.invariant c.in-Some.ensures is c.in-Some-narrow_greatest.ensures
    ∙ ap (λ (v : RankView). nat_lt 0 (length (broken v.levels v.members))) c.self.view_is
