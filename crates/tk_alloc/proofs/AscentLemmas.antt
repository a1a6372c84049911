-- What is kept of an ascending list, and ranges.
use Rattle.std.proofs.Common.{ℕ, suc, zero, ◌+◌, ◌<◌, ◌≤◌, ℤ, List, [], ◌∷◌, length, get_or, Bool, cond, sym, subst, arith, inl, inr}
use Rattle.std.specs.List.{filter, range_with_len}
use Rattle.std.proofs.lemmas.Bool.{cases_Bool}
use Rattle.tk_base.specs.Ascending.{IsAscending}
use Rattle.tk_base.specs.Pairs.{objects_of}

-- each number is above the one before it, the first above b
abbrev pub Rise : ℕ → List ℕ → Type 0
Rise b [] = Unit {0}
Rise b (x ∷ xs) = (b < x) × Rise x xs

pub rise_from : (b : ℕ) (xs : List ℕ) → ((k : ℕ) → k < length xs → get_or (b ∷ xs) k 0 < get_or xs k 0) → Rise b xs
rise_from b [] up = tt
rise_from b (x ∷ xs) up = (up 0 (omega arith), rise_from x xs (λ k h. up (suc k) (omega arith)))

pub from_rise : (b : ℕ) (xs : List ℕ) → Rise b xs → (k : ℕ) → k < length xs → get_or (b ∷ xs) k 0 < get_or xs k 0
from_rise b [] r k h = absurd (omega arith)
from_rise b (x ∷ xs) r zero h = r.0
from_rise b (x ∷ xs) r (suc k) h = from_rise x xs r.1 k (omega arith)

rise_lower : (a b : ℕ) (xs : List ℕ) → a ≤ b → Rise b xs → Rise a xs
rise_lower a b [] h r = tt
rise_lower a b (x ∷ xs) h r = (omega (arith, r.0), r.1)

rise_filter : (keep : ℕ × ℤ → Bool) (b : ℕ) (ps : List (ℕ × ℤ)) → Rise b (objects_of ps) → Rise b (objects_of (filter keep ps))
rise_filter keep b [] r = tt
rise_filter keep b (p ∷ ps) r = elim (cases_Bool (keep p)) [
  | inl kept ↦ subst (λ c. Rise b (objects_of (cond c (p ∷ filter keep ps) (filter keep ps)))) (sym kept) (r.0, rise_filter keep p.0 ps r.1)
  | inr left ↦ subst (λ c. Rise b (objects_of (cond c (p ∷ filter keep ps) (filter keep ps)))) (sym left) (rise_lower b p.0 (objects_of (filter keep ps)) (omega (arith, r.0)) (rise_filter keep p.0 ps r.1))
]

-- a filter keeps the order
pub ascending_filter : (keep : ℕ × ℤ → Bool) (ps : List (ℕ × ℤ)) → IsAscending (objects_of ps) → IsAscending (objects_of (filter keep ps))
ascending_filter keep ps up = from_rise 0 (objects_of (filter keep ps)) (rise_filter keep 0 ps (rise_from 0 (objects_of ps) up))

rise_range : (a b n : ℕ) → b < a → Rise b (range_with_len a n)
rise_range a b zero h = tt
rise_range a b (suc n) h = (h, rise_range (a + 1) a n (omega arith))

-- a range from 1 ascends
pub ascending_range : (n : ℕ) → IsAscending (range_with_len 1 n)
ascending_range n = from_rise 0 (range_with_len 1 n) (rise_range 1 0 n (omega arith))
