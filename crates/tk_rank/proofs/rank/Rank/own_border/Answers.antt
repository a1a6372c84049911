use Rattle.std.proofs.Common.{◌∙◌, sym, arith, ◌+ℤ◌}
use Rattle.std.specs.Prelude.{FitsSigned}
use Rattle.std.specs.Int.{w128}
use Rattle.std.proofs.lemmas.Int.{to_z-of_z, ints}
use Rattle.tk_border.proofs.LevelLemmas.{own_border_inside}
use Rattle.tk_rank.proofs.rank.Rank.own_border.Goals as goal

pub overflow_add-result : goal.overflow_add-result
overflow_add-result c = let small = c.least_member.ensures.size in omega (arith, ints)

pub returns-in-None : goal.returns-in-None
returns-in-None c =
    let small = c.least_member.ensures.size in
    let fits : FitsSigned w128 c.least_member.result = omega (arith, ints) in
    let fits_sum : FitsSigned w128 (c.least_member.result +ℤ c.args.epsilon) = omega (arith, ints) in
    rw (to_z-of_z w128 c.least_member.result fits, to_z-of_z w128 c.args.epsilon c.ranges.epsilon, to_z-of_z w128 (c.least_member.result +ℤ c.args.epsilon) fits_sum)
    (own_border_inside c.args.self.now.levels c.args.self.now.members c.args.epsilon c.least_member.result c.args.r.now (sym c.greatest_outside.ensures ∙ c.in-None.is) c.least_member.ensures.value)
