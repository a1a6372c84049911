use Rattle.std.proofs.Common.{◌≡◌, ℕ, Bool, true, ◌&&◌, not, length, get_or, below_more, arith, sym, ap, ap₂, ◌∙◌}
use Rattle.std.specs.Prelude.{nat_lt, nat_le}
use Rattle.std.proofs.Math.Bool.{and-false}
use Rattle.std.proofs.lemmas.Bool.{lt-ltb}
use Rattle.std.proofs.lemmas.List.Folds.{list_all_at}
use Rattle.tk_base.specs.Ascending.{ascends}
use Rattle.tk_base.specs.Objects.{is_in}
use Rattle.tk_border.proofs.AscendsLemmas.{ascending_passes}
use Rattle.tk_coord.specs.Checks.{known_in}
use Rattle.tk_coord.proofs.SearchLemmas.{all_pass}
use Rattle.tk_coord.proofs.checks.are_outsiders.Goals as goal

pub returns-then-not-is_outsider : goal.returns-then-not-is_outsider
returns-then-not-is_outsider c =
    let outside : ℕ → Bool = λ o. nat_le o c.args.known.objects && not (is_in (known_in c.args.known).members o) in
    let failed = c.args.failed.now in
    sym (ap (λ b. nat_lt 0 (length failed) && ascends failed && b)
    (list_all_at outside failed c.loop-i.i 0 (omega (arith, c.len-i-end.ensures.value)) (ap outside (sym c.at.ensures.value) ∙ sym c.is_outsider.ensures ∙ c.if-not-is_outsider.true))
    ∙ and-false (nat_lt 0 (length failed) && ascends failed))

pub loop-i-preserved : goal.loop-i-preserved
loop-i-preserved c =
    let outside : ℕ → Bool = λ o. nat_le o c.args.known.objects && not (is_in (known_in c.args.known).members o) in
    below_more (λ k. outside (get_or c.args.failed.now k 0) ≡ true) c.loop-i.i c.loop-i.invariant (ap outside (sym c.at.ensures.value) ∙ sym c.is_outsider.ensures ∙ c.if-not-is_outsider.false)

pub returns : goal.returns
returns c =
    let outside : ℕ → Bool = λ o. nat_le o c.args.known.objects && not (is_in (known_in c.args.known).members o) in
    sym (ap₂ ◌&&◌ (ap₂ ◌&&◌ (lt-ltb 0 (length c.args.failed.now) (omega (arith, c.len.ensures.value, c.if-len-eq0.false)))
    (ascending_passes c.args.failed.now c.len.ensures.ascends))
    (all_pass outside c.args.failed.now 0 (λ k within. c.loop-i.invariant k (omega (arith, c.len-i-end.ensures.value)))))
