-- How counts of faults rise, and what a file gives that was opened.
use Rattle.std.specs.Prelude.{ℕ, ◌≡◌, ◌+◌, ◌-◌, ◌^◌, ◌<◌, min, List, Option, IfSome, Result, Ok, Err}

-- a count after one more, which stands still at the greatest u64
abbrev pub one_more : ℕ → ℕ
one_more count = min (count + 1) (2 ^ 64 - 1)

-- a count rose, unless it stood at the greatest u64
abbrev pub HasRisen : ℕ → ℕ → Type 0
HasRisen old new = old < 2 ^ 64 - 1 → old < new

-- some bytes are all that a file holds which was opened, where that is told; of one that was not there are none
abbrev pub Gives : {F E : Type 0} → (F → Option (List ℕ)) → Result F E → List ℕ → Type 0
Gives remaining (Ok file) bytes = IfSome (remaining file) (λ told. bytes ≡ told)
Gives remaining (Err error) bytes = ⊥
