use Rattle.std.proofs.Common.{sym, arith}
use Rattle.std.specs.Prelude.{FitsSigned}
use Rattle.std.specs.Int.{w128}
use Rattle.std.proofs.lemmas.Int.{to_z-of_z, ints}
use Rattle.tk_base.proofs.PairsLemmas.{value_at-got, value_at-absent}
use Rattle.tk_base.proofs.pairs.Pairs.get.Goals as goal

pub returns-in_err-place : goal.returns-in_err-place
returns-in_err-place c = rw c.from_residual.ensures (sym (value_at-absent c.args.self.now c.args.o.0 c.in_err-place.ensures.none))

pub returns : goal.returns
returns c =
    let fits : FitsSigned w128 c.at-number.result.1 = omega (arith, ints) in
    rw (to_z-of_z w128 c.at-number.result.1 fits)
    (sym (value_at-got c.args.self.now c.args.o.0 c.in_ok-place.place (c.at-number.result.0.0, c.at-number.result.1)
    c.at-number.ensures.ascends c.in_ok-place.ensures.within c.at-number.ensures.value c.in_ok-place.ensures.found))
