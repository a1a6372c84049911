-- What a put does to the bytes that a sink was given.
use Rattle.std.specs.Prelude.{◌≡◌, ℕ, List, ◌++◌, Option, option_map, Result, Ok, Err}
use Rattle.tk_input.specs.Files.{one_more}
use Rattle.tk_input.specs.declared.sink.PutFailed.{PutFailed}

-- what was written, where it is told, has grown by these bytes
abbrev pub Grows : Option (List ℕ) → Option (List ℕ) → List ℕ → Type 0
Grows old new bytes = new ≡ option_map (λ written. written ++ bytes) old

-- it has grown by some front of these bytes
abbrev pub GrowsByFront : Option (List ℕ) → Option (List ℕ) → List ℕ → Type 0
GrowsByFront old new bytes = (front : List ℕ) × (back : List ℕ) × (bytes ≡ front ++ back) × Grows old new front

-- how many puts failed, after one more
abbrev pub put_faults : {A : Type 0} → Result A PutFailed → ℕ → ℕ
put_faults (Ok done) faults = faults
put_faults (Err failed) faults = one_more faults
