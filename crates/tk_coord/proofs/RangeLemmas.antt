-- Lists over the numbers of a range.
use Rattle.std.proofs.Common.{◌≡◌, ℕ, suc, zero, ◌+◌, ◌≤◌, ◌<◌, ◌&&◌, Bool, false, List, [], ◌∷◌, map, refl, ap, ◌∙◌, arith, inl, inr}
use Rattle.std.specs.List.{list_all, range_with_len}
use Rattle.std.proofs.lemmas.Bool.{cases_eq}
use Rattle.std.proofs.Math.Bool.{and-false}

-- ---- tests

-- a test that one of a range fails
pub one_fails : (p : ℕ → Bool) (a k q : ℕ) → a ≤ q → q < a + k → p q ≡ false → list_all p (range_with_len a k) ≡ false
one_fails p a zero q low high is = absurd (omega (arith, low, high))
one_fails p a (suc k) q low high is =
    elim (cases_eq a q) [
      | inl e ↦ ap (λ b. b && list_all p (range_with_len (a + 1) k)) (ap p e ∙ is)
      | inr ne ↦ ap (λ b. p a && b) (one_fails p (a + 1) k q (omega (arith, low, ne)) (omega (arith, high)) is) ∙ and-false (p a)
    ]

-- ---- maps

-- a map of a map
pub map_twice : {X Y : Type 0} (g : X → Y) (f : ℕ → X) (ns : List ℕ) → map (λ n. g (f n)) ns ≡ map g (map f ns)
map_twice g f [] = refl
map_twice g f (n ∷ ns) = ap (λ rest. g (f n) ∷ rest) (map_twice g f ns)
