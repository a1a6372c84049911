-- Where no monitor has more energy than before, and one has less, all together have less.
use Rattle.std.proofs.Common.{ℕ, suc, zero, ◌+◌, ◌<◌, ◌≤◌, map, sym, subst, arith, inl, inr}
use Rattle.std.specs.List.{range_with_len, sum}
use Rattle.std.proofs.lemmas.Bool.{cases_eq}
use Rattle.std.proofs.lemmas.List.Sums.{sum_by-cons}
use Rattle.tk_drain.specs.Energy.{Falls, Local, Shared, energies, energy}

sum_stays : (f g : ℕ → ℕ) (a k : ℕ) → ((j : ℕ) → a ≤ j → j < a + k → g j ≤ f j) → sum (map g (range_with_len a k)) ≤ sum (map f (range_with_len a k))
sum_stays f g a zero each = omega arith
sum_stays f g a (suc k) each =
    let here = each a (omega arith) (omega arith) in
    let rest = sum_stays f g (a + 1) k (λ j low high. each j (omega (arith, low)) (omega (arith, high))) in
    let of_f = sum_by-cons (λ x. x) (f a) (map f (range_with_len (a + 1) k)) in
    let of_g = sum_by-cons (λ x. x) (g a) (map g (range_with_len (a + 1) k)) in
    omega (arith, here, rest, of_f, of_g)

sum_falls : (f g : ℕ → ℕ) (a k at : ℕ) → a ≤ at → at < a + k → ((j : ℕ) → a ≤ j → j < a + k → g j ≤ f j) → g at < f at → sum (map g (range_with_len a k)) < sum (map f (range_with_len a k))
sum_falls f g a zero at low high each less = absurd (omega (arith, low, high))
sum_falls f g a (suc k) at low high each less =
    let of_f = sum_by-cons (λ x. x) (f a) (map f (range_with_len (a + 1) k)) in
    let of_g = sum_by-cons (λ x. x) (g a) (map g (range_with_len (a + 1) k)) in
    let step : (j : ℕ) → a + 1 ≤ j → j < a + 1 + k → g j ≤ f j = λ j above below. each j (omega (arith, above)) (omega (arith, below)) in
    elim (cases_eq a at) [
      | inl e ↦
          let rest = sum_stays f g (a + 1) k step in
          let here : g a < f a = subst (λ q. g q < f q) (sym e) less in
          omega (arith, rest, here, of_f, of_g)
      | inr ne ↦
          let rest = sum_falls f g (a + 1) k at (omega (arith, low, ne)) (omega (arith, high)) step less in
          let here = each a (omega arith) (omega arith) in
          omega (arith, rest, here, of_f, of_g)
    ]

pub energy_falls : (m at cost : ℕ) (s s' : Shared) (local local' : ℕ → Local) → Falls m at cost s s' local local' → energies m s' local' < energies m s local
energy_falls m at cost s s' local local' h =
    sum_falls (λ j. energy s (local j)) (λ j. energy s' (local' j)) 1 m at h.from_one (let w = h.within in omega (arith, w))
    (λ j low high. let o = h.others j low (omega (arith, high)) in let c = h.shared in omega (arith, o, c))
    (let o = h.here in let c = h.shared in omega (arith, o, c))
