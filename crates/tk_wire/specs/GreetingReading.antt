-- The numbers at the places of a greeting, as the code reads them. No public clause cites it.
use Rattle.std.specs.Prelude.{◌≡◌, ℕ, zero, suc, ◌+◌, ◌-◌, ◌*◌, ◌<◌, ◌≤◌, List, [], ◌∷◌, drop, length, replicate, slice_index, take}
use Rattle.byteorder.specs.Endian.{big_number}
use Rattle.tk_wire.specs.Greeting.{greeting_mark}
use Rattle.tk_wire.specs.declared.beginning.Beginning.{Beginning}

-- the count and the place in the first 12 bytes
abbrev pub beginning_at : List ℕ → Beginning
beginning_at bytes = record { count = big_number 8 bytes; start = big_number 4 (drop 8 bytes) }

-- so many beginnings, 12 bytes each
unfoldable pub beginnings_at : ℕ → List ℕ → List Beginning
beginnings_at zero bytes = []
beginnings_at (suc n) bytes = beginning_at bytes ∷ beginnings_at n (drop 12 bytes)

-- the bytes have the form of a greeting of so many streams
pub record HasForm (bytes : List ℕ) (n : ℕ) : Type 0 where
  pub size : length bytes ≡ 113
  pub mark : take 4 bytes ≡ greeting_mark
  pub monitor : (0 < big_number 4 (drop 12 bytes)) × (big_number 4 (drop 12 bytes) ≤ 64)
  pub told : slice_index bytes 16 ≡ n
  pub streams : (0 < n) × (n ≤ 8)
  pub padding : drop (17 + 12 * n) bytes ≡ replicate (96 - 12 * n) 0
