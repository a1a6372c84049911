use Rattle.std.proofs.Common.{◌≡◌, ◌<◌, ◌^◌, ℕ, length, sym, subst, ◌∙◌, arith}
use Rattle.tk_base.proofs.DigitsLemmas.{digits_found, digits_missing, digits_read_more, eqb_some, not_all, powers}
use Rattle.tk_base.proofs.digits.digits_of.Goals as goal

pub overflow_mul-number : goal.overflow_mul-number
overflow_mul-number c =
    let most = powers c.loop-digit.digit-index 37 (omega arith) in
    omega (arith, most, c.loop-digit.invariant.read.small)

pub overflow_add-number : goal.overflow_add-number
overflow_add-number c =
    let most = powers c.loop-digit.digit-index 37 (omega arith) in
    omega (arith, most, c.loop-digit.invariant.read.small)

pub loop-digit-preserved : goal.loop-digit-preserved
loop-digit-preserved c = record {
  read = digits_read_more c.args.text.now c.loop-digit.digit-index c.loop-digit.number c.from-in-loop-digit.result c.is_ascii_digit.result c.loop-digit-test.true c.loop-digit.invariant.read
      c.is_ascii_digit.ensures.value c.is_ascii_digit.ensures.bound c.is_ascii_digit.ensures.cases c.if-not-is_ascii_digit.false c.from-in-loop-digit.ensures;
  short = c.loop-digit.invariant.short;
}

pub returns-then-not-is_ascii_digit-clause-value : goal.returns-then-not-is_ascii_digit-clause-value
returns-then-not-is_ascii_digit-clause-value c =
    digits_missing c.args.text.now (omega (arith, c.loop-digit-test.true)) c.if-text-gt-MAX_DIGITS.false
    (not_all c.args.text.now c.loop-digit.digit-index c.loop-digit-test.true (sym c.is_ascii_digit.ensures.value ∙ c.if-not-is_ascii_digit.true))

pub returns-clause-value : goal.returns-clause-value
returns-clause-value c =
    digits_found c.args.text.now c.loop-digit.number c.loop-digit.digit-index (eqb_some (length c.args.text.now) (sym c.is_empty.ensures ∙ c.if-is_empty.false)) c.if-text-gt-MAX_DIGITS.false
    (omega (arith, c.loop-digit-test.false, c.loop-digit.auto.digit-index-end)) c.loop-digit.invariant.read.value c.loop-digit.invariant.read.digits

pub returns-clause-small : goal.returns-clause-small
returns-clause-small c =
    let ends : c.loop-digit.digit-index ≡ length c.args.text.now = omega (arith, c.loop-digit-test.false, c.loop-digit.auto.digit-index-end) in
    subst (λ (n : ℕ). c.loop-digit.number < 10 ^ n) ends c.loop-digit.invariant.read.small

pub returns-clause-fits : goal.returns-clause-fits
returns-clause-fits c = let most = powers c.loop-digit.digit-index 38 (omega arith) in omega (arith, most, c.loop-digit.invariant.read.small)
