-- A chunk byte by byte, and what stands at the front of some bytes.
use Rattle.std.proofs.Common.{◌≡◌, [], ◌∷◌, refl}
use Rattle.tk_net.specs.Chunks.{chunk_of, front_of, sum_of}
use Rattle.tk_net.specs.declared.chunk.Front.TheVariants as front

-- that of no bytes is where a sum begins
pub sum_of_none : sum_of [] ≡ 0x811c9dc5
sum_of_none = refl

-- "foobar"
pub sum_of_foobar : sum_of (102 ∷ 111 ∷ 111 ∷ 98 ∷ 97 ∷ 114 ∷ []) ≡ 0xbf9cf968
sum_of_foobar = refl

-- Stop alone in a chunk
pub stop : chunk_of (0 ∷ 0 ∷ 0 ∷ 1 ∷ 7 ∷ []) ≡ 0 ∷ 5 ∷ 0xef ∷ 0x0e ∷ 0x5a ∷ 0x5f ∷ 0 ∷ 0 ∷ 0 ∷ 1 ∷ 7 ∷ []
unfolding chunk_of
stop = refl

-- it is read as five bytes, and with another check sum as none
pub stop_is_read : front_of (0 ∷ 5 ∷ 0xef ∷ 0x0e ∷ 0x5a ∷ 0x5f ∷ 0 ∷ 0 ∷ 0 ∷ 1 ∷ 7 ∷ 0 ∷ 0 ∷ []) ≡ front.Chunk 5
stop_is_read = refl

pub another_sum : front_of (0 ∷ 5 ∷ 0 ∷ 0 ∷ 0 ∷ 0 ∷ 0 ∷ 0 ∷ 0 ∷ 1 ∷ 7 ∷ []) ≡ front.Bad
another_sum = refl

-- a pulse, and parts of a chunk
pub a_pulse : front_of (0 ∷ 0 ∷ 0 ∷ []) ≡ front.Pulse
a_pulse = refl

pub one_byte : front_of (0 ∷ []) ≡ front.Part 2
one_byte = refl

pub a_part : front_of (0 ∷ 5 ∷ 0xef ∷ []) ≡ front.Part 11
a_part = refl
