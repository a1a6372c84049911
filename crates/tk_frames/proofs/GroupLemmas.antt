-- Groups of seven bits: the step from a number to what is above its lowest group.
use Rattle.std.proofs.Common.{◌≡◌, ℕ, zero, suc, ◌+◌, ◌/◌, ◌%◌, ◌^◌, ◌<◌, ◌≤◌, List, [], ◌∷◌, length, refl, sym, ap, ◌∙◌, subst, arith, inl, inr}
use Rattle.std.proofs.lemmas.Bool.{cases_lt, le-ltb, lt-ltb}
use Rattle.std.proofs.Math.Nat.{div-lt_iff_lt-mul, pow-suc}
use Rattle.tk_frames.specs.Spelling.{groups_within, groups}

within_small : (more n : ℕ) → n < 128 → groups_within more n ≡ n ∷ []
unfolding groups_within
within_small zero n small = refl
within_small (suc more) n small = rw (lt-ltb n 128 small) refl

-- how many may follow does not matter where it is enough
within_enough : (a b n : ℕ) → n ≤ a → n ≤ b → groups_within a n ≡ groups_within b n
unfolding groups_within
within_enough zero b n low high = within_small zero n (omega arith) ∙ sym (within_small b n (omega arith))
within_enough (suc a) zero n low high = within_small (suc a) n (omega arith) ∙ sym (within_small zero n (omega arith))
within_enough (suc a) (suc b) n low high = elim (cases_lt n 128) [
  | inl lt ↦ within_small (suc a) n lt ∙ sym (within_small (suc b) n lt)
  | inr ge ↦
      let less : n / 128 < n = omega arith in
      rw (le-ltb n 128 ge) (ap (λ (bytes : List ℕ). (128 + n % 128) ∷ bytes) (within_enough a b (n / 128) (omega arith) (omega arith)))
]

-- a number below 128 is one group
pub groups_small : (n : ℕ) → n < 128 → groups n ≡ n ∷ []
groups_small n small = within_small n n small

-- another one has its low seven bits, and then the groups of the rest
pub groups_more : (n : ℕ) → 128 ≤ n → groups n ≡ (128 + n % 128) ∷ groups (n / 128)
unfolding groups_within
groups_more zero ge = absurd (omega arith)
groups_more (suc n) ge =
    let less : suc n / 128 < suc n = omega arith in
    rw (le-ltb (suc n) 128 ge) (ap (λ (bytes : List ℕ). (128 + suc n % 128) ∷ bytes) (within_enough n (suc n / 128) (suc n / 128) (omega arith) (omega arith)))

-- how many groups a number has at most
pub length-groups : (k n : ℕ) → n < 128 ^ suc k → length (groups n) ≤ suc k
length-groups zero n small = let e = groups_small n (omega arith) in rw e (omega arith)
length-groups (suc k) n small = elim (cases_lt n 128) [
  | inl lt ↦ rw (groups_small n lt) (omega arith)
  | inr ge ↦
      let high : n / 128 < 128 ^ suc k = (div-lt_iff_lt-mul {k = 128} {x = n} {y = 128 ^ suc k} (omega arith)).1 (subst (λ (m : ℕ). n < m) (pow-suc 128 (suc k)) small) in
      let rest = length-groups k (n / 128) high in
      rw (groups_more n ge) (omega arith)
]

-- a number has a group
pub some_group : (n : ℕ) → 0 < length (groups n)
some_group n = elim (cases_lt n 128) [
  | inl lt ↦ rw (groups_small n lt) (omega arith)
  | inr ge ↦ rw (groups_more n ge) (omega arith)
]
