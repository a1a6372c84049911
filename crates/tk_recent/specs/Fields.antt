-- What holds of the fields of what is kept, and what one step of taking sums back adds. No public clause cites this file.
use Rattle.std.specs.Prelude.{ℕ, ◌^◌, ◌<◌, ◌≤◌, ℤ, neg_ℤ, unsigned_abs, if◌then◌else◌, List, [], ◌∷◌, length, All}
use Rattle.tk_compact.specs.Compacted.{changes_something}
use Rattle.tk_window.specs.Ticks.{AreOver}

-- no more ticks than the window has, of objects of the catalogue; sums whose opposites fit; and no more was told than leaves
pub record AreKept (width : ℕ) (ended : List (List (ℕ × ℤ))) (sums : List ℤ) (leaves : List (ℕ × ℤ)) (told : ℕ) : Type 0 where
  pub few : length ended ≤ width
  pub over : All (AreOver (length sums)) ended
  pub objects : length sums ≤ 65536
  pub sizes : All (λ v. unsigned_abs v < 2 ^ 127) sums
  pub leaving : AreOver (length sums) leaves
  pub within : told ≤ length leaves

-- what takes the sum of an object back, where it is not zero
abbrev pub undone : ℕ → ℤ → List (ℕ × ℤ)
undone o sum = if changes_something (o, neg_ℤ sum) then (o, neg_ℤ sum) ∷ [] else []
