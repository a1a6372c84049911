use Rattle.std.proofs.Common.{◌∙◌, sym, arith, inl, inr}
use Rattle.std.proofs.lemmas.Bool.{cases_Bool, eqb-true, eqb-false, le-ltb}
use Rattle.tk_border.proofs.PassedLemmas.{found_here, passed_met, passed_missed, not_here}
use Rattle.tk_border.proofs.extremes.is_met.Goals as goal

pub returns-then-place-len-clause-met : goal.returns-then-place-len-clause-met
returns-then-place-len-clause-met c met =
    passed_met c.args.set.now c.args.place c.args.o.0 c.len.ensures.ascends c.requires (omega arith)
    (sym c.at.ensures.value ∙ eqb-true c.at.result.0 c.args.o.0 (sym c.eq.ensures ∙ met))

pub returns-then-place-len-clause-missed : goal.returns-then-place-len-clause-missed
returns-then-place-len-clause-missed c missed =
    passed_missed c.args.set.now c.args.place c.args.o.0 c.len.ensures.ascends c.requires
    (λ _ here. eqb-false c.at.result.0 c.args.o.0 (sym c.eq.ensures ∙ missed) (c.at.ensures.value ∙ here))

pub returns-then-place-len-clause-value : goal.returns-then-place-len-clause-value
returns-then-place-len-clause-value c = elim (cases_Bool c.eq.result) [
  | inl met ↦ met ∙ sym (found_here c.args.set.now c.args.place c.args.o.0 (omega arith) (sym c.at.ensures.value ∙ eqb-true c.at.result.0 c.args.o.0 (sym c.eq.ensures ∙ met)))
  | inr missed ↦ missed ∙ sym (not_here c.args.set.now c.args.place c.args.o.0 (returns-then-place-len-clause-missed c missed) c.requires.passed)
]

pub returns-else-place-len-clause-value : goal.returns-else-place-len-clause-value
returns-else-place-len-clause-value c =
    let set = c.args.set.now in
    le-ltb c.args.place c.len.result c.if-place-len.false
    ∙ sym (not_here set c.args.place c.args.o.0 (passed_missed set c.args.place c.args.o.0 c.len.ensures.ascends c.requires (λ more. absurd (omega arith))) c.requires.passed)
