use Rattle.std.proofs.Common.{arith, FitsSigned}
use Rattle.std.specs.Int.{w128}
use Rattle.std.proofs.lemmas.Int.{ints, to_z-of_z}
use Rattle.tk_alloc.proofs.LimitLemmas.{first_past_is}
use Rattle.tk_alloc.proofs.limit.within_limit.Goals as goal

pub returns-in-Some-clause-past : goal.returns-in-Some-clause-past
returns-in-Some-clause-past c =
    let fits : FitsSigned w128 c.in-Some.past.factor = omega (arith, ints) in
    rw (to_z-of_z w128 c.in-Some.past.factor fits)
    (first_past_is c.args.change c.loop-place.place c.at.result.0.0 c.in-Some.past.node c.at.result.1 c.in-Some.past.factor c.requires c.at.ensures.ascends c.at.ensures.value (omega arith) c.loop-place.invariant c.in-Some.ensures.some)
