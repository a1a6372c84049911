-- What a function gives over the numbers of a range, where it changes at one of them.
use Rattle.std.proofs.Common.{◌≡◌, ℕ, suc, zero, ◌<◌, ◌≤◌, ◌+◌, ◌-◌, List, [], ◌∷◌, map, get_or, set, refl, ap, arith, inl, inr}
use Rattle.std.specs.List.{range_with_len, enumerate_from}
use Rattle.std.proofs.lemmas.Bool.{cases_lt}

pub mapped_same : {X : Type 0} (f g : ℕ → X) (a n : ℕ) → ((q : ℕ) → a ≤ q → q < a + n → g q ≡ f q) → map g (range_with_len a n) ≡ map f (range_with_len a n)
mapped_same f g a zero same = refl
mapped_same f g a (suc n) same =
    let first : g a ≡ f a = same a (omega arith) (omega arith) in
    let rest : map g (range_with_len (a + 1) n) ≡ map f (range_with_len (a + 1) n) = mapped_same f g (a + 1) n (λ q low high. same q (omega arith) (omega arith)) in
    cc

-- one value changes
pub mapped_one : {X : Type 0} (f g : ℕ → X) (a n o : ℕ) → a ≤ o → o < a + n → ((q : ℕ) → (q ≡ o → ⊥) → g q ≡ f q) → map g (range_with_len a n) ≡ set (map f (range_with_len a n)) (o - a) (g o)
mapped_one f g a zero o low high others = absurd (omega arith)
mapped_one f g a (suc n) o low high others =
    elim (cases_lt a o) [
      | inl later ↦
          let falls : o - a ≡ suc (o - (a + 1)) = omega arith in
          let first : g a ≡ f a = others a (λ is. omega arith) in
          let rest : map g (range_with_len (a + 1) n) ≡ set (map f (range_with_len (a + 1) n)) (o - (a + 1)) (g o) = mapped_one f g (a + 1) n o (omega arith) (omega arith) others in
          rw falls (cc)
      | inr here ↦
          let none : o - a ≡ 0 = omega arith in
          let is : a ≡ o = omega arith in
          let first : g a ≡ g o = ap g is in
          let rest : map g (range_with_len (a + 1) n) ≡ map f (range_with_len (a + 1) n) = mapped_same f g (a + 1) n (λ q above below. others q (λ same. omega arith)) in
          rw none (cc)
    ]

-- the same for a list with the number of each of its elements
pub placed_same : (f g : ℕ → ℕ) (a : ℕ) (xs : List ℕ) → ((q : ℕ) → a ≤ q → g q ≡ f q) → map (λ (p : ℕ × ℕ). p.1 + g p.0) (enumerate_from a xs) ≡ map (λ (p : ℕ × ℕ). p.1 + f p.0) (enumerate_from a xs)
placed_same f g a [] same = refl
placed_same f g a (x ∷ xs) same =
    let first : g a ≡ f a = same a (omega arith) in
    let rest : map (λ (p : ℕ × ℕ). p.1 + g p.0) (enumerate_from (a + 1) xs) ≡ map (λ (p : ℕ × ℕ). p.1 + f p.0) (enumerate_from (a + 1) xs) = placed_same f g (a + 1) xs (λ q low. same q (omega arith)) in
    cc

pub placed_one : (f g : ℕ → ℕ) (a : ℕ) (xs : List ℕ) (o : ℕ) → a ≤ o → ((q : ℕ) → (q ≡ o → ⊥) → g q ≡ f q) → g o ≡ suc (f o) → map (λ (p : ℕ × ℕ). p.1 + g p.0) (enumerate_from a xs) ≡ set (map (λ (p : ℕ × ℕ). p.1 + f p.0) (enumerate_from a xs)) (o - a) (suc (get_or (map (λ (p : ℕ × ℕ). p.1 + f p.0) (enumerate_from a xs)) (o - a) 0))
placed_one f g a [] o low others up = refl
placed_one f g a (x ∷ xs) o low others up =
    elim (cases_lt a o) [
      | inl later ↦
          let falls : o - a ≡ suc (o - (a + 1)) = omega arith in
          let first : g a ≡ f a = others a (λ is. omega arith) in
          let rest = placed_one f g (a + 1) xs o (omega arith) others up in
          rw falls (rw first (ap (λ (ys : List ℕ). (x + f a) ∷ ys) rest))
      | inr here ↦
          let none : o - a ≡ 0 = omega arith in
          let is : a ≡ o = omega arith in
          let first : x + g a ≡ suc (x + f a) = omega (arith, ap g is, ap f is) in
          let rest : map (λ (p : ℕ × ℕ). p.1 + g p.0) (enumerate_from (a + 1) xs) ≡ map (λ (p : ℕ × ℕ). p.1 + f p.0) (enumerate_from (a + 1) xs) = placed_same f g (a + 1) xs (λ q above. others q (λ same. omega arith)) in
          rw none (cc)
    ]
