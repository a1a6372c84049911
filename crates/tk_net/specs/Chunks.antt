-- What goes over a cable: chunks of bytes, each behind its length and its check sum.
use Rattle.std.specs.Prelude.{◌<◌, ◌≤◌, ℕ, ◌+◌, ◌*◌, ◌%◌, ◌^◌, ◌==◌, List, [], ◌∷◌, ◌++◌, bit_xor, drop, fold, if◌then◌else◌, length, nat_lt, slice_range}
use Rattle.byteorder.specs.Endian.{big_bytes, big_number}
use Rattle.tk_net.specs.declared.chunk.Front.{Front}
use Rattle.tk_net.specs.declared.chunk.Front.TheVariants as front

-- the check sum of some bytes with one more, as a 32-bit FNV-1a goes on
abbrev pub sum_with : ℕ → ℕ → ℕ
sum_with sum byte = (bit_xor sum byte * 16777619) % 2 ^ 32

-- the 32-bit FNV-1a of some bytes
abbrev pub sum_of : List ℕ → ℕ
sum_of bytes = fold sum_with 2166136261 bytes

-- bytes in a chunk: how many they are, their check sum, and they
unfoldable pub chunk_of : List ℕ → List ℕ
chunk_of bytes = big_bytes 2 (length bytes) ++ (big_bytes 4 (sum_of bytes) ++ bytes)

-- a chunk that holds nothing
abbrev pub pulse : List ℕ
pulse = 0 ∷ 0 ∷ []

-- the bytes in the chunk at the front, where it says that they are n
abbrev pub held_in : ℕ → List ℕ → List ℕ
held_in n bytes = slice_range bytes 6 (6 + n)

-- a chunk at the front that says that it holds n bytes
abbrev pub chunk_front : ℕ → List ℕ → Front
chunk_front n bytes =
    if nat_lt (length bytes) (6 + n) then front.Part (6 + n)
    else (if sum_of (held_in n bytes) == big_number 4 (drop 2 bytes) then front.Chunk n else front.Bad)

-- what stands at the front of bytes
abbrev pub front_of : List ℕ → Front
front_of bytes =
    if nat_lt (length bytes) 2 then front.Part 2
    else (if big_number 2 bytes == 0 then front.Pulse else chunk_front (big_number 2 bytes) bytes)

-- what stands there is there as a whole, and else more is missing
abbrev pub IsThere : Front → List ℕ → Type 0
IsThere (front.Part size) bytes = length bytes < size
IsThere front.Pulse bytes = 2 ≤ length bytes
IsThere (front.Chunk n) bytes = (0 < n) × (6 + n ≤ length bytes)
IsThere front.Bad bytes = 6 < length bytes
