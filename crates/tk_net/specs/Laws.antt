-- What holds of chunks.
use Rattle.std.specs.Prelude.{◌≡◌, ◌<◌, ℕ, ◌+◌, ◌^◌, List, ◌++◌, drop, length}
use Rattle.tk_net.specs.Chunks.{chunk_of, front_of, held_in}
use Rattle.tk_net.specs.declared.chunk.Front.TheVariants as front

-- what stands at the front where a chunk of these bytes was written before others: that chunk, which holds them
pub record IsReadBack (bytes rest : List ℕ) : Type 0 where
  pub front : front_of (chunk_of bytes ++ rest) ≡ front.Chunk (length bytes)
  pub held : held_in (length bytes) (chunk_of bytes ++ rest) ≡ bytes
  pub rest_is : drop (6 + length bytes) (chunk_of bytes ++ rest) ≡ rest

-- a chunk is read as it was written, whatever comes behind it
abbrev pub ChunksAreReadBack : Type 0
ChunksAreReadBack = (bytes rest : List ℕ) → 0 < length bytes → length bytes < 2 ^ 16 → IsReadBack bytes rest
