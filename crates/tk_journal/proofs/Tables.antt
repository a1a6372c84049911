-- The table that a journal gives, as factors by object and node.
use Rattle.std.proofs.Common.{◌≡◌, ℕ, suc, zero, ◌+◌, ◌-◌, ◌≤◌, ◌<◌, ℤ, pos, List, [], ◌∷◌, length, map, get_or, refl, sym, ap, ◌∙◌, subst, arith, inl, inr}
use Rattle.std.proofs.lemmas.Bool.{cases_lt}
use Rattle.std.proofs.lemmas.Int.{ints}
use Rattle.std.proofs.lemmas.List.{get_or_past}
use Rattle.std.proofs.lemmas.List.FromFn.{get_or-map-range_with_len, length-map-range_with_len}
use Rattle.tk_base.specs.Settings.{Setup}
use Rattle.tk_base.specs.Objects.{objects}
use Rattle.tk_rows.specs.Factors.{IsFactor, AreFactors, IsBalanced, AreBalanced, factor_at, row_of}
use Rattle.tk_journal.specs.Laws.{IsMonitor}
use Rattle.tk_journal.specs.Readings.{monitors, factor, own, table_at}
use Rattle.tk_journal.specs.declared.noted.Noted.{Noted}
use Rattle.tk_journal.proofs.LawLemmas.{sum_zero}

-- a number is one of an object
pub record IsObject (s : Setup) (o : ℕ) : Type 0 where
  pub from_one : 0 < o
  pub within : o ≤ s.objects

abbrev pub row_at : Setup → List Noted → ℕ → List ℤ
row_at s j o = own s j o ∷ map (λ mon. factor mon j o) (monitors s)

pub rows_count : (s : Setup) (j : List Noted) → length (table_at s j).rows ≡ s.objects
unfolding table_at objects
rows_count s j = length-map-range_with_len (row_at s j) 1 s.objects

pub table_size : (s : Setup) (j : List Noted) → (table_at s j).monitors ≡ s.monitors
unfolding table_at
table_size s j = refl

pub row_is : (s : Setup) (j : List Noted) (o : ℕ) → IsObject s o → row_of (table_at s j) o ≡ row_at s j o
unfolding table_at objects
row_is s j o r = get_or-map-range_with_len (row_at s j) 1 s.objects (o - 1) o [] (let a = r.from_one in let b = r.within in omega (arith, a, b)) (let a = r.from_one in omega (arith, a))

pub own_is : (s : Setup) (j : List Noted) (o : ℕ) → IsObject s o → factor_at (table_at s j) 0 o ≡ own s j o
own_is s j o r = ap (λ (row : List ℤ). get_or row 0 (pos 0)) (row_is s j o r)

later_of : (s : Setup) (j : List Noted) (o mon : ℕ) → IsMonitor s mon → get_or (row_at s j o) mon (pos 0) ≡ factor mon j o
later_of s j o zero r = absurd (let a = r.from_one in omega (arith, a))
later_of s j o (suc k) r = get_or-map-range_with_len (λ mon. factor mon j o) 1 s.monitors k (suc k) (pos 0) (let a = r.within in omega (arith, a)) (omega arith)

pub factor_is : (s : Setup) (j : List Noted) (o mon : ℕ) → IsObject s o → IsMonitor s mon → factor_at (table_at s j) mon o ≡ factor mon j o
factor_is s j o mon r m = ap (λ (row : List ℤ). get_or row mon (pos 0)) (row_is s j o r) ∙ later_of s j o mon m

-- ---- sizes

-- all factors are within their limit
pub record AreSized (s : Setup) (j : List Noted) : Type 0 where
  pub own : (o : ℕ) → IsObject s o → IsFactor (own s j o)
  pub each : (o mon : ℕ) → IsObject s o → IsMonitor s mon → IsFactor (factor mon j o)

zero_size : IsFactor (pos 0)
zero_size = omega (arith, ints)

row_small : (s : Setup) (j : List Noted) (o : ℕ) → IsObject s o → AreSized s j → AreFactors (row_at s j o)
row_small s j o r z zero = z.own o r
row_small s j o r z (suc k) = elim (cases_lt k s.monitors) [
  | inl within ↦ subst IsFactor (sym (later_of s j o (suc k) (record { from_one = omega arith; within = omega (arith, within) }))) (z.each o (suc k) r (record { from_one = omega arith; within = omega (arith, within) }))
  | inr past ↦ subst IsFactor (sym (get_or_past (map (λ mon. factor mon j o) (monitors s)) k (pos 0) (let l = length-map-range_with_len (λ mon. factor mon j o) 1 s.monitors in omega (arith, past, l)))) zero_size
]

row_balanced : (s : Setup) (j : List Noted) (o : ℕ) → IsObject s o → AreSized s j → IsBalanced s.monitors (row_at s j o)
row_balanced s j o r z = record {
  nodes = (let l = length-map-range_with_len (λ mon. factor mon j o) 1 s.monitors in omega (arith, l));
  sum = sum_zero s j o;
  small = row_small s j o r z;
}

pub table_balanced : (s : Setup) (j : List Noted) → AreSized s j → AreBalanced (table_at s j)
table_balanced s j z i within =
    let o : IsObject s (i + 1) = record { from_one = omega arith; within = (let l = rows_count s j in omega (arith, within, l)) } in
    let place : i + 1 - 1 ≡ i = omega arith in
    subst (λ (m : ℕ). IsBalanced m (get_or (table_at s j).rows i [])) (sym (table_size s j))
    (subst (λ (row : List ℤ). IsBalanced s.monitors row) (sym (row_is s j (i + 1) o) ∙ ap (λ (q : ℕ). get_or (table_at s j).rows q []) place) (row_balanced s j (i + 1) o z))
