-- The first tick that ends at a place.
use Rattle.std.proofs.Common.{◌≡◌, ◌≢◌, ℕ, suc, zero, ◌+◌, ◌<◌, ◌≤◌, true, false, cond, List, ◌∷◌, length, get_or, Some, None, refl, sym, ap, ◌∙◌, arith, inl, inr}
use Rattle.std.specs.Prelude.{◌==◌, nat_lt}
use Rattle.std.specs.List.{position_or_len}
use Rattle.std.specs.List.Sorted.{IsNonDecreasing, IsPartitionedBy, IsPartitionPoint}
use Rattle.std.proofs.lemmas.Bool.{cases_lt, eq-eqb, lt-ltb, le-ltb, ltb-true, ltb-false, ne_eqb}
use Rattle.std.proofs.lemmas.List.Sums.{position_or_len_is}
use Rattle.tk_window.specs.Window.{tick_ending}

-- ends in order are parted by each place
pub parted : (ends : List ℕ) (place : ℕ) → IsNonDecreasing ends → IsPartitionedBy (λ e. nat_lt e place) ends
parted ends place ordered i j d low within below = let e = ordered i j d low within in let under = ltb-true (get_or ends j d) place below in lt-ltb (get_or ends i d) place (omega (arith, e, under))

found_at : (n m : ℕ) → n < m → cond (nat_lt n m) (Some n) None ≡ Some n
found_at n m low = ap (λ b. cond b (Some n) None) (lt-ltb n m low)

none_at : (n m : ℕ) → m ≤ n → cond (nat_lt n m) (Some n) None ≡ None
none_at n m low = ap (λ b. cond b (Some n) None) (le-ltb n m low)

-- an end that is the place, behind lower ones
pub tick_found : (ends : List ℕ) (place i : ℕ) → place ≢ 0 → IsPartitionPoint (λ e. nat_lt e place ≡ true) (λ e. nat_lt e place ≡ false) ends i → i < length ends → get_or ends i 0 ≡ place → Some (i + 1) ≡ tick_ending ends place
tick_found ends place i some parts within here =
    let next : suc i ≡ i + 1 = omega arith in
    let at : position_or_len (λ e. e == place) (0 ∷ ends) ≡ suc i = position_or_len_is (λ e. e == place) (0 ∷ ends) (suc i) 0 (omega arith) before (λ inside. ap (λ e. e == place) here ∙ same place) in
    ap (λ n. Some n) (sym next)
    ∙ sym (found_at (suc i) (length (0 ∷ ends)) (omega arith))
    ∙ sym (ap (λ n. cond (nat_lt n (length (0 ∷ ends))) (Some n) None) at)
  where
    same : (n : ℕ) → (n == n) ≡ true
    same n = eq-eqb n n refl

    before : (k : ℕ) → k < suc i → (get_or (0 ∷ ends) k 0 == place) ≡ false
    before zero low = ne_eqb 0 place (λ is. some (sym is))
    before (suc k) low = let under = ltb-true (get_or ends k 0) place (parts.0 k 0 (omega arith) (omega arith)) in ne_eqb (get_or ends k 0) place (λ is. absurd (omega (arith, under, is)))

-- where the first end that is not lower is another, there is none
pub tick_missing : (ends : List ℕ) (place i : ℕ) → place ≢ 0 → IsNonDecreasing ends → IsPartitionPoint (λ e. nat_lt e place ≡ true) (λ e. nat_lt e place ≡ false) ends i → (i < length ends → get_or ends i 0 ≢ place) → None ≡ tick_ending ends place
tick_missing ends place i some ordered parts other =
    let at : position_or_len (λ e. e == place) (0 ∷ ends) ≡ length (0 ∷ ends) = position_or_len_is (λ e. e == place) (0 ∷ ends) (length (0 ∷ ends)) 0 (omega arith) never (λ inside. absurd (omega arith)) in
    sym (none_at (length (0 ∷ ends)) (length (0 ∷ ends)) (omega arith))
    ∙ sym (ap (λ n. cond (nat_lt n (length (0 ∷ ends))) (Some n) None) at)
  where
    apart : (k : ℕ) → k < length ends → get_or ends k 0 ≡ place → ⊥
    apart k within is = elim (cases_lt k i) [
      | inl low ↦ let under = ltb-true (get_or ends k 0) place (parts.0 k 0 (omega arith) low) in absurd (omega (arith, under, is))
      | inr high ↦ let over = ltb-false (get_or ends i 0) place (parts.1 i 0 (omega arith) (omega arith)) in
          let order = ordered i k 0 high within in
          let same : get_or ends i 0 ≡ place = omega (arith, over, order, is) in
          absurd (other (omega arith) same)
    ]

    never : (k : ℕ) → k < length (0 ∷ ends) → (get_or (0 ∷ ends) k 0 == place) ≡ false
    never zero low = ne_eqb 0 place (λ is. some (sym is))
    never (suc k) low = ne_eqb (get_or ends k 0) place (apart k (omega arith))
