use Rattle.std.proofs.Common.{◌≡◌, ◌<◌, true, false, nat_lt, unsigned_abs, ◌^◌, List, length, get_or, sym, ap, subst, ◌∙◌, arith, FitsSigned}
use Rattle.std.specs.Int.{w128}
use Rattle.std.proofs.lemmas.Int.{ints, to_z-of_z}
use Rattle.tk_rows.specs.declared.mon_change.MonChange.{MonChange}
use Rattle.tk_alloc.proofs.LimitLemmas.{monitor_first, more_within}
use Rattle.tk_alloc.proofs.limit.past_at.Goals as goal

pub returns-then-is_past-2-clause-some : goal.returns-then-is_past-2-clause-some
returns-then-is_past-2-clause-some c =
    let z = c.at-factor-in-loop-named.result.1 in
    let fits : FitsSigned w128 z = omega (arith, ints) in
    let great : nat_lt (2 ^ 112) (unsigned_abs z) ≡ true = rw (to_z-of_z w128 z fits) at (sym c.is_past-in-loop-named.ensures ∙ c.if-is_past-2.true) in
    let within : c.loop-named.named-index < length c.args.change.now.at.items = subst (λ (xs : List MonChange). c.loop-named.named-index < length xs) c.deref-named-items.ensures.value c.loop-named-test.true in
    let is : c.named-item.result ≡ get_or c.args.change.now.at.items c.loop-named.named-index c.named-item.result = c.named-item.is ∙ ap (λ (xs : List MonChange). get_or xs c.loop-named.named-index c.named-item.result) c.deref-named-items.ensures.value in
    rw (to_z-of_z w128 z fits)
    (monitor_first c.args.change.now c.loop-named.named-index c.args.place c.at-factor-in-loop-named.result.0.0 c.named-item.result z within is c.at-factor-in-loop-named.ensures.value great c.loop-named.invariant)

pub loop-named-preserved : goal.loop-named-preserved
loop-named-preserved c =
    let z = c.at-factor-in-loop-named.result.1 in
    let fits : FitsSigned w128 z = omega (arith, ints) in
    let small : nat_lt (2 ^ 112) (unsigned_abs z) ≡ false = rw (to_z-of_z w128 z fits) at (sym c.is_past-in-loop-named.ensures ∙ c.if-is_past-2.false) in
    let within : c.loop-named.named-index < length c.args.change.now.at.items = subst (λ (xs : List MonChange). c.loop-named.named-index < length xs) c.deref-named-items.ensures.value c.loop-named-test.true in
    let is : c.named-item.result ≡ get_or c.args.change.now.at.items c.loop-named.named-index c.named-item.result = c.named-item.is ∙ ap (λ (xs : List MonChange). get_or xs c.loop-named.named-index c.named-item.result) c.deref-named-items.ensures.value in
    more_within c.args.change.now c.loop-named.named-index c.args.place c.at-factor-in-loop-named.result.0.0 c.named-item.result z within is c.at-factor-in-loop-named.ensures.value small c.loop-named.invariant
