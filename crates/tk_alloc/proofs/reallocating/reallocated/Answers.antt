use Rattle.std.proofs.Common.{refl, arith, FitsSigned}
use Rattle.std.specs.Int.{w128}
use Rattle.std.proofs.lemmas.Int.{ints, to_z-of_z}
use Rattle.tk_alloc.specs.Parts.{by_monitor}
use Rattle.tk_alloc.proofs.DealtLemmas.{weights_are, dealt_to, joined}
use Rattle.tk_alloc.proofs.reallocating.reallocated.Goals as goal

pub returns : goal.returns
returns c =
    let terms = c.args.terms.now in
    let grid = c.args.table.now in
    let reports = c.args.reports.now in
    let fits : FitsSigned w128 terms.own_border = omega (arith, ints) in
    let dealt = rw (to_z-of_z w128 terms.own_border fits, c.as_slice.ensures.value, c.as_slice-2.ensures.value) at c.in_ok-own.ensures in
    let own = dealt_to grid terms reports (record { node = 0; weight = terms.own_weight; border = terms.own_border; values = terms.own_values }) 0 c.in_ok-weights.weights.items c.in_ok-leeways.leeways.items c.in_ok-own.own
    (weights_are terms reports c.in_ok-weights.weights.items c.in_ok-weights.ensures.value) c.in_ok-leeways.ensures.value dealt in
    record {
      chosen = refl;
      factors = joined c.in_ok-own.own _ (by_monitor c.in_ok-at.at.items) _ own c.in_ok-at.ensures;
    }
