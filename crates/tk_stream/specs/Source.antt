-- What a read does to the bytes of a stream, and how its failures are counted.
use Rattle.std.specs.Prelude.{◌≡◌, ℕ, List, [], ◌++◌, take, Result, Ok, Err}
use Rattle.tk_input.specs.Files.{one_more}
use Rattle.tk_stream.specs.declared.source.ReadFailed.{ReadFailed}

-- what was read is the front of what was to come, and none at the end alone; a read that failed took nothing
abbrev pub Gives : Result ℕ ReadFailed → List ℕ → List ℕ → List ℕ → Type 0
Gives (Ok n) room old new = (old ≡ take n room ++ new) × (n ≡ 0 → old ≡ [])
Gives (Err failed) room old new = new ≡ old

-- how many reads failed, after one more
abbrev pub read_faults : {A : Type 0} → Result A ReadFailed → ℕ → ℕ
read_faults (Ok done) faults = faults
read_faults (Err failed) faults = one_more faults
