-- The laws as their functions state them.
use Rattle.std.proofs.Common.{◌≡◌, ℕ, suc, zero, ◌<◌, ℤ, pos, ◌+ℤ◌, List, ◌∷◌, map, refl, ◌∙◌, arith}
use Rattle.std.specs.Prelude.{neg_ℤ}
use Rattle.std.proofs.lemmas.Int.{ints}
use Rattle.tk_base.specs.Settings.{Setup}
use Rattle.tk_base.specs.Sum.{int_sum}
use Rattle.tk_base.proofs.SumLemmas.{int_sum-cons}
use Rattle.tk_journal.specs.Laws.{IsSetUp}
use Rattle.tk_journal.specs.Legal.{Opening, IsLegal}
use Rattle.tk_journal.specs.Readings.{monitors, factor, own}
use Rattle.tk_journal.specs.declared.noted.Noted.{Noted}
use Rattle.tk_journal.proofs.Orderly.{IsOrderly}
use Rattle.tk_journal.proofs.LegalLemmas.{legal_orderly}

opposite : (z : ℤ) → (neg_ℤ z +ℤ z) ≡ pos 0
opposite z = omega (arith, ints)

pub sum_zero : (s : Setup) (j : List Noted) (o : ℕ) → int_sum (own s j o ∷ map (λ mon. factor mon j o) (monitors s)) ≡ pos 0
unfolding own
sum_zero s j o =
    let rest = map (λ mon. factor mon j o) (monitors s) in
    int_sum-cons (neg_ℤ (int_sum rest)) rest ∙ opposite (int_sum rest)

pub one_less : (m : ℕ) → 0 < m → (k : ℕ) × (m ≡ suc k)
one_less zero some = absurd (omega (arith, some))
one_less (suc k) some = (k, refl)

pub orderly : (o : Opening) (j : List Noted) → IsSetUp o → IsLegal o j → IsOrderly o.settings j
orderly o j set legal = let m = one_less o.settings.monitors set.limits.some_monitor in legal_orderly o m.0 m.1 set.factors j legal
