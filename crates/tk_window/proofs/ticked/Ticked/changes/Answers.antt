use Rattle.std.proofs.Common.{◌<◌, ◌-◌, ◌^◌, ℕ, ℤ, unsigned_abs, List, length, subst, sym, ap, ◌∙◌, arith}
use Rattle.std.specs.Prelude.{All}
use Rattle.tk_window.proofs.ticked.Ticked.changes.Goals as goal

pub returns-clause-sizes : goal.returns-clause-sizes
returns-clause-sizes c =
    let P : ℕ × ℤ → Type 0 = λ p. unsigned_abs p.1 < 2 ^ 127 in
    let ticks = c.self.inside.ticks.items in
    let within : c.args.t - 1 < length ticks = omega (arith, ap (λ (ts : List (List (ℕ × ℤ))). length ts) c.self.view_is) in
    subst (All P) (sym (c.changes.ensures ∙ c.index.ensures)) (c.self.invariant.sizes (c.args.t - 1) c.index.result.now within)
