-- A chunk that was written, and what is read of it.
use Rattle.std.proofs.Common.{◌≡◌, ◌≤◌, ◌<◌, ℕ, ◌+◌, ◌-◌, ◌^◌, ◌++◌, ◌==◌, [], ◌∷◌, Bool, true, false, List, length, take, drop, nat_lt, fold, if◌then◌else◌, ap, sym, ◌∙◌, refl, arith}
use Rattle.std.proofs.Math.Nat.{mod-lt}
use Rattle.std.proofs.lemmas.Bool.Decides.{nat_tests}
use Rattle.std.proofs.lemmas.List.{append_assoc, drop-drop, drop_at, length-append, take_at}
use Rattle.byteorder.specs.Endian.{big_bytes, big_number}
use Rattle.byteorder.specs.Numbers.{big_number-reads_back, length-bytes_high_first}
use Rattle.tk_net.specs.Chunks.{chunk_front, chunk_of, front_of, held_in, sum_of, sum_with}
use Rattle.tk_net.specs.Laws.{ChunksAreReadBack}
use Rattle.tk_net.specs.declared.chunk.Front.TheVariants as front

-- a check sum is a number of 32 bits
sum_within : (sum : ℕ) (bytes : List ℕ) → sum < 2 ^ 32 → fold sum_with sum bytes < 2 ^ 32
sum_within sum [] small = small
sum_within sum (b ∷ bytes) small = sum_within (sum_with sum b) bytes (mod-lt _ (omega arith))

-- the tests that are made, one by one
front_is : (n : ℕ) (w : List ℕ) → 0 < n → 6 + n ≤ length w → big_number 2 w ≡ n → sum_of (held_in n w) ≡ big_number 4 (drop 2 w) → front_of w ≡ front.Chunk n
front_is n w some whole told sum =
    let long : nat_lt (length w) 2 ≡ false = grind (arith, nat_tests) in
    let full : (n == 0) ≡ false = grind (arith, nat_tests) in
    let all : nat_lt (length w) (6 + n) ≡ false = grind (arith, nat_tests) in
    let same : (sum_of (held_in n w) == big_number 4 (drop 2 w)) ≡ true = grind (arith, nat_tests) in
    ap (λ (b : Bool). if b then front.Part 2 else (if big_number 2 w == 0 then front.Pulse else chunk_front (big_number 2 w) w)) long
    ∙ ap (λ (k : ℕ). if k == 0 then front.Pulse else chunk_front k w) told
    ∙ ap (λ (b : Bool). if b then front.Pulse else chunk_front n w) full
    ∙ ap (λ (b : Bool). if b then front.Part (6 + n) else (if sum_of (held_in n w) == big_number 4 (drop 2 w) then front.Chunk n else front.Bad)) all
    ∙ ap (λ (b : Bool). if b then front.Chunk n else front.Bad) same

-- a chunk and what comes behind it, part by part
parts : (bytes rest : List ℕ) → chunk_of bytes ++ rest ≡ big_bytes 2 (length bytes) ++ (big_bytes 4 (sum_of bytes) ++ (bytes ++ rest))
unfolding chunk_of
parts bytes rest =
    append_assoc (big_bytes 2 (length bytes)) (big_bytes 4 (sum_of bytes) ++ bytes) rest
    ∙ ap (λ (l : List ℕ). big_bytes 2 (length bytes) ++ l) (append_assoc (big_bytes 4 (sum_of bytes)) bytes rest)

pub read_back : ChunksAreReadBack
read_back bytes rest some few =
    let n = length bytes in
    let s = sum_of bytes in
    let w : List ℕ = chunk_of bytes ++ rest in
    let two : length (big_bytes 2 n) ≡ 2 = length-bytes_high_first 2 n in
    let four : length (big_bytes 4 s) ≡ 4 = length-bytes_high_first 4 s in
    let joined : w ≡ big_bytes 2 n ++ (big_bytes 4 s ++ (bytes ++ rest)) = parts bytes rest in
    let told : big_number 2 w ≡ n = ap (big_number 2) joined ∙ big_number-reads_back 2 n (big_bytes 4 s ++ (bytes ++ rest)) (omega (arith, few)) in
    let sums : drop 2 w ≡ big_bytes 4 s ++ (bytes ++ rest) = ap (drop 2) joined ∙ drop_at (big_bytes 2 n) (big_bytes 4 s ++ (bytes ++ rest)) 2 two in
    let sum : big_number 4 (drop 2 w) ≡ s = ap (big_number 4) sums ∙ big_number-reads_back 4 s (bytes ++ rest) (sum_within 2166136261 bytes (omega arith)) in
    let holds : drop 6 w ≡ bytes ++ rest = sym (drop-drop 4 2 w) ∙ ap (drop 4) sums ∙ drop_at (big_bytes 4 s) (bytes ++ rest) 4 four in
    let size : 6 + n - 6 ≡ n = omega arith in
    let held : held_in n w ≡ bytes = ap (λ (k : ℕ). take k (drop 6 w)) size ∙ ap (take n) holds ∙ take_at bytes rest n refl in
    let long : length w ≡ 6 + (n + length rest) =
    ap length joined ∙ length-append (big_bytes 2 n) (big_bytes 4 s ++ (bytes ++ rest))
    ∙ ap (λ (k : ℕ). length (big_bytes 2 n) + k) (length-append (big_bytes 4 s) (bytes ++ rest))
    ∙ (let tail = length-append bytes rest in omega (arith, two, four, tail)) in
    record {
      front = front_is n w some (omega (arith, long)) told (ap sum_of held ∙ sym sum);
      held = held;
      rest_is = sym (drop-drop n 6 w) ∙ ap (drop n) holds ∙ drop_at bytes rest n refl;
    }
