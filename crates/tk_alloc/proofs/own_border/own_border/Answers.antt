use Rattle.std.proofs.Common.{ℤ, ◌∙◌, sym, ap, arith, ◌+ℤ◌, FitsSigned}
use Rattle.std.specs.Int.{w128}
use Rattle.std.proofs.lemmas.Int.{ints, to_z-of_z}
use Rattle.tk_base.specs.Pairs.{objects_of}
use Rattle.tk_alloc.proofs.BorderLemmas.{members_within, least_size, border_outside, border_inside}
use Rattle.tk_alloc.proofs.own_border.own_border.Goals as goal

pub least_member-requires-clause-within : goal.least_member-requires-clause-within
least_member-requires-clause-within c = members_within c.args.settings.now c.args.table.now c.args.members.now (objects_of c.args.values.now) c.requires

pub overflow_add-result : goal.overflow_add-result
overflow_add-result c =
    let least : FitsSigned w128 c.least_member.result = omega (arith, ints) in
    let epsilon : FitsSigned w128 c.epsilon.result = omega (arith, ints) in
    let small = least_size c.args.table.now c.args.members.now c.least_member.result c.promise.ensures c.least_member.ensures in
    rw (to_z-of_z w128 c.least_member.result least, to_z-of_z w128 c.epsilon.result epsilon) (omega (arith, ints, small, c.epsilon.ensures.value, c.epsilon.ensures.limits.no_debt, c.epsilon.ensures.limits.epsilon))

pub returns-in-Some : goal.returns-in-Some
returns-in-Some c =
    let fits : FitsSigned w128 c.in-Some.greatest = omega (arith, ints) in
    to_z-of_z w128 c.in-Some.greatest fits
    ∙ sym (border_outside c.args.settings.now c.args.table.now c.args.members.now (objects_of c.args.values.now) c.in-Some.greatest (sym c.greatest_outside.ensures ∙ c.in-Some.is))

pub returns-in-None : goal.returns-in-None
returns-in-None c =
    let least : FitsSigned w128 c.least_member.result = omega (arith, ints) in
    let epsilon : FitsSigned w128 c.epsilon.result = omega (arith, ints) in
    let small = least_size c.args.table.now c.args.members.now c.least_member.result c.promise.ensures c.least_member.ensures in
    let sum : FitsSigned w128 (c.least_member.result +ℤ c.epsilon.result) = omega (arith, ints, small, c.epsilon.ensures.value, c.epsilon.ensures.limits.no_debt, c.epsilon.ensures.limits.epsilon) in
    rw (to_z-of_z w128 c.least_member.result least, to_z-of_z w128 c.epsilon.result epsilon, to_z-of_z w128 (c.least_member.result +ℤ c.epsilon.result) sum)
    (ap (λ (e : ℤ). c.least_member.result +ℤ e) c.epsilon.ensures.value
    ∙ sym (border_inside c.args.settings.now c.args.table.now c.args.members.now (objects_of c.args.values.now) c.least_member.result (sym c.greatest_outside.ensures ∙ c.in-None.is) c.least_member.ensures))
