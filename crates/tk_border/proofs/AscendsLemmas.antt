-- Ascending numbers pass the test that compares each with the next.
use Rattle.std.specs.Prelude.{nat_lt}
use Rattle.std.specs.List.{list_all, zip}
use Rattle.std.proofs.Common.{◌≡◌, ℕ, true, ◌&&◌, List, [], ◌∷◌, refl, ap₂}
use Rattle.std.proofs.lemmas.Bool.{lt-ltb}
use Rattle.tk_base.specs.Ascending.{IsAscending, ascends}
use Rattle.tk_border.proofs.RisingLemmas.{Rises, rises}

-- numbers that rise pass the test of each with the next
pub rises_pass : (b : ℕ) (xs : List ℕ) → Rises b xs → list_all (λ (p : ℕ × ℕ). nat_lt p.0 p.1) (zip (b ∷ xs) xs) ≡ true
rises_pass b [] up = refl
rises_pass b (x ∷ xs) up = ap₂ ◌&&◌ (lt-ltb b x up.0) (rises_pass x xs up.1)

-- ascending numbers pass the test
pub ascending_passes : (xs : List ℕ) → IsAscending xs → ascends xs ≡ true
ascending_passes xs up = rises_pass 0 xs (rises xs up)
