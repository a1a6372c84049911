-- The bytes of a greeting: monitor 2 of run a9b3079e17e9d80d, whose one stream gave 1,000 records and starts at place 37.
use Rattle.std.proofs.Common.{◌≡◌, List, ℕ, [], ◌∷◌, ◌++◌, replicate, refl}
use Rattle.tk_wire.specs.Greeting.{beginnings_bytes, greeting_mark, number_bytes}

zeros : ℕ → List ℕ
zeros n = replicate n 0

head : greeting_mark ++ (number_bytes 8 0xa9b3079e17e9d80d ++ number_bytes 4 2) ≡ 0x54 ∷ 0x4b ∷ 0x43 ∷ 0x31 ∷ 0xa9 ∷ 0xb3 ∷ 0x07 ∷ 0x9e ∷ 0x17 ∷ 0xe9 ∷ 0xd8 ∷ 0x0d ∷ 0 ∷ 0 ∷ 0 ∷ 2 ∷ []
unfolding number_bytes
head = refl

beginning : beginnings_bytes (record { count = 1000; start = 37 } ∷ []) ≡ 0 ∷ 0 ∷ 0 ∷ 0 ∷ 0 ∷ 0 ∷ 0x03 ∷ 0xe8 ∷ 0 ∷ 0 ∷ 0 ∷ 0x25 ∷ zeros 84
unfolding number_bytes zeros
beginning = refl
