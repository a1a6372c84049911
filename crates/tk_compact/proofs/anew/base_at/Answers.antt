use Rattle.std.proofs.Common.{◌≡◌, ℕ, ◌∙◌, List, sym, subst, arith}
use Rattle.std.specs.Prelude.{ℤ, IfOk}
use Rattle.tk_compact.proofs.BeginLemmas.{base_blank, base_first}
use Rattle.tk_compact.proofs.anew.base_at.Goals as goal

pub returns-then-i-gt0 : goal.returns-then-i-gt0
returns-then-i-gt0 c = c.new.ensures ∙ sym (base_blank c.args.monitor.now.setup c.args.monitor.now.trail c.args.i c.if-i-gt0.true)

pub returns : goal.returns
returns c =
    let m = c.args.monitor.now in
    let first : c.args.i ≡ 0 = (let low = c.if-i-gt0.false in omega (arith, low)) in
    subst (λ (cs : List (ℕ × ℤ)). IfOk c.compact.result (λ changes. changes ≡ cs)) (base_first m.setup m.trail c.args.i first) c.compact.ensures
