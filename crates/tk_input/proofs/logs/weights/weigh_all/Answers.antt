use Rattle.std.proofs.Common.{◌≡◌, ℕ, ℤ, List, length, get_or, arith, sym, ◌∙◌, subst}
use Rattle.std.specs.Prelude.{All}
use Rattle.tk_input.specs.Logs.{IsObject}
use Rattle.tk_input.proofs.logs.weights.weigh_all.Goals as goal

pub weigh-requires : goal.weigh-requires
weigh-requires c = λ k d within.
    let part = c.part-item.result in
    let n = length c.args.weights.now in
    let here : part ≡ get_or c.args.row.now c.loop-part.part-index part = c.part-item.is in
    let known = c.requires c.loop-part.part-index part c.loop-part-test.true in
    let fact = subst (λ (cs : List (ℕ × ℤ)). All (λ p. IsObject n p.0) cs) (sym (c.changes.ensures ∙ here)) known k d within in
    (fact.0, omega (arith, fact.1, c.loop-part.auto.weights))
