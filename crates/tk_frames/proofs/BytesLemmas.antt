-- Lists of bytes, and the bytes of a number with the highest first.
use Rattle.std.proofs.Common.{◌≡◌, ℕ, zero, suc, ◌+◌, ◌*◌, ◌/◌, ◌%◌, ◌^◌, ◌<◌, ◌≤◌, List, [], ◌∷◌, ◌++◌, length, get_or, take, refl, sym, ap, ◌∙◌, arith}
use Rattle.std.specs.Int.{byte_at, bytes_high_first}
use Rattle.std.proofs.Math.Nat.{div-one, mul-add-div_right, mul_assoc, pow-succ', one-le-pow, mul-add-mod_self_right, mod-eq_of_lt}
use Rattle.std.proofs.lemmas.Nat.{div-mul-add}
use Rattle.byteorder.specs.Endian.{big_number, big_bytes, big_from}
use Rattle.byteorder.specs.Numbers.{big_from-cons, big_from-lt}

abbrev pub IsBytes : List ℕ → Type 0
IsBytes bytes = (i : ℕ) → get_or bytes i 0 < 256

-- what follows a text of bytes are bytes
pub rest_fits : (text rest : List ℕ) → IsBytes (text ++ rest) → IsBytes rest
rest_fits [] rest fits = fits
rest_fits (b ∷ text) rest fits = rest_fits text rest (λ i. fits (suc i))

byte_at-pow : (k x : ℕ) → byte_at k x ≡ x / 256 ^ k % 256
byte_at-pow zero x = ap (λ (y : ℕ). y % 256) (sym (div-one x))
byte_at-pow (suc k) x = refl

pub positive : (n : ℕ) → 0 < 256 ^ n
positive n = let h = one-le-pow n 256 (omega arith) in omega arith

-- the low bytes of a number are those of what is left of it above them
low_bytes : (n k r : ℕ) → bytes_high_first n (k * 256 ^ n + r) ≡ bytes_high_first n r
low_bytes zero k r = refl
low_bytes (suc n) k r =
    let split : k * 256 ^ suc n + r ≡ (k * 256) * 256 ^ n + r = ap (λ (p : ℕ). p + r) (ap (λ (p : ℕ). k * p) (pow-succ' 256 n) ∙ sym (mul_assoc k 256 (256 ^ n))) in
    let top : (k * 256 * 256 ^ n + r) / 256 ^ n % 256 ≡ r / 256 ^ n % 256 = ap (λ (q : ℕ). q % 256) (mul-add-div_right (positive n) (k * 256) r) ∙ mul-add-mod_self_right k 256 (r / 256 ^ n) in
    let first : byte_at n (k * 256 * 256 ^ n + r) ≡ byte_at n r = byte_at-pow n (k * 256 * 256 ^ n + r) ∙ top ∙ sym (byte_at-pow n r) in
    rw split (rw (first, low_bytes n (k * 256) r) refl)

-- a number that was read has the bytes from which it was read
pub bytes_of_number : (n : ℕ) (xs : List ℕ) → IsBytes xs → n ≤ length xs → big_bytes n (big_number n xs) ≡ take n xs
bytes_of_number zero xs fits long = refl
bytes_of_number (suc n) [] fits long = absurd (omega arith)
bytes_of_number (suc n) (a ∷ xs) fits long =
    let r = big_from 0 n xs in
    let small : r < 256 ^ n = big_from-lt 0 n xs (λ i. fits (suc i)) in
    let whole : big_from 0 (suc n) (a ∷ xs) ≡ a * 256 ^ n + r = ap (λ (p : ℕ). a * 256 ^ n + p) (big_from-cons 0 n a xs) in
    let first : byte_at n (a * 256 ^ n + r) ≡ a = byte_at-pow n (a * 256 ^ n + r) ∙ ap (λ (q : ℕ). q % 256) (div-mul-add a (256 ^ n) r small) ∙ mod-eq_of_lt (fits 0) in
    rw whole (rw (first, low_bytes n a r) (ap (λ (ys : List ℕ). a ∷ ys) (bytes_of_number n xs (λ i. fits (suc i)) (omega arith))))

-- what stands before some bytes are bytes
pub front_fits : (text rest : List ℕ) → IsBytes (text ++ rest) → IsBytes text
front_fits [] rest fits i = omega arith
front_fits (b ∷ text) rest fits zero = fits 0
front_fits (b ∷ text) rest fits (suc i) = front_fits text rest (λ j. fits (suc j)) i
