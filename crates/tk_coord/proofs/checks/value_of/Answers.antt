use Rattle.std.proofs.Common.{◌≡◌, ◌≤◌, ◌^◌, ℤ, pos, unsigned_abs, Option, arith, ap, sym, subst, ◌∙◌}
use Rattle.std.specs.Prelude.{FitsSigned, unwrap_or}
use Rattle.std.specs.Int.{w128}
use Rattle.std.proofs.lemmas.Int.{to_z-of_z, ints}
use Rattle.tk_alloc.specs.Parts.{value_of}
use Rattle.tk_alloc.proofs.WideLemmas.{value_size}
use Rattle.tk_coord.proofs.checks.value_of.Goals as goal

pub returns-clause-small : goal.returns-clause-small
returns-clause-small c =
    let is : c.unwrap_or.result ≡ value_of c.args.values.now c.args.o.0 = c.unwrap_or.ensures ∙ ap (λ (x : Option ℤ). unwrap_or x (pos 0)) c.get.ensures in
    let small : unsigned_abs c.unwrap_or.result ≤ 2 ^ 100 = subst (λ z. unsigned_abs z ≤ 2 ^ 100) (sym is) (value_size c.args.values.now c.args.o.0 c.requires) in
    let fits : FitsSigned w128 c.unwrap_or.result = omega (arith, ints, small) in
    subst (λ z. unsigned_abs z ≤ 2 ^ 100) (sym (to_z-of_z w128 c.unwrap_or.result fits)) small
