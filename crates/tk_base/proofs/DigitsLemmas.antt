-- The digits of a number, one after the other.
use Rattle.std.proofs.Common.{◌≡◌, ℕ, suc, zero, ◌+◌, ◌-◌, ◌*◌, ◌^◌, ◌<◌, ◌≤◌, Bool, true, false, List, [], ◌∷◌, ◌++◌, length, take, get_or, Some, None, refl, sym, ap, subst, ◌∙◌, arith}
use Rattle.std.specs.Prelude.{◌&&◌, ◌==◌, MatchBool, nat_le, if◌then◌else◌}
use Rattle.std.specs.Bool.{OnTrue}
use Rattle.std.specs.Char.{IsAsciiDigit, IsNotAsciiDigit, digit_value, is_ascii_digit}
use Rattle.std.specs.Str.{all_ascii_digits}
use Rattle.std.specs.Str.Parse.{digits_value}
use Rattle.std.proofs.Math.Nat.{pow-le-pow_right}
use Rattle.std.proofs.Math.Seq.{take-length}
use Rattle.std.proofs.lemmas.Bool.{lt-ltb, le-leb, and_right}
use Rattle.std.proofs.lemmas.Grind.{pow_more}
use Rattle.std.proofs.lemmas.Int.Digits.{digits_value_more}
use Rattle.std.proofs.lemmas.List.{take_more}
use Rattle.std.proofs.lemmas.Str.{digit_value_digit}
use Rattle.tk_base.specs.Digits.{digits_in}

-- digits with one more behind
all_push : (xs : List ℕ) (c : ℕ) → all_ascii_digits xs ≡ true → is_ascii_digit c ≡ true → all_ascii_digits (xs ++ c ∷ []) ≡ true
all_push [] c all one = ap (λ (b : Bool). b && true) one
all_push (x ∷ xs) c all one = by (is_ascii_digit x) refl all (λ rest. all_push xs c rest one) where
  by : (b : Bool) → is_ascii_digit x ≡ b → (b && all_ascii_digits xs) ≡ true → (all_ascii_digits xs ≡ true → all_ascii_digits (xs ++ c ∷ []) ≡ true) → (is_ascii_digit x && all_ascii_digits (xs ++ c ∷ [])) ≡ true
  by true is rest more = ap (λ (b : Bool). b && all_ascii_digits (xs ++ c ∷ [])) is ∙ more rest
  by false is rest more = absurd (cc)

-- one more digit
pub all_more : (xs : List ℕ) (i : ℕ) → i < length xs → all_ascii_digits (take i xs) ≡ true → is_ascii_digit (get_or xs i 0) ≡ true → all_ascii_digits (take (i + 1) xs) ≡ true
all_more xs i within all one = ap (λ (ys : List ℕ). all_ascii_digits ys) (take_more xs i 0 within) ∙ all_push (take i xs) (get_or xs i 0) all one

-- so many digits of a text were read
pub record DigitsRead (text : List ℕ) (i n : ℕ) : Type 0 where
  pub small : n < 10 ^ i
  pub value : n ≡ digits_value 10 (take i text)
  pub digits : all_ascii_digits (take i text) ≡ true

-- and one more
pub digits_read_more : (text : List ℕ) (i n d : ℕ) (is_digit : Bool) → i < length text → DigitsRead text i n
    → is_digit ≡ is_ascii_digit (get_or text i 0) → OnTrue is_digit (digit_value (get_or text i 0) < 10)
    → MatchBool is_digit (IsAsciiDigit (get_or text i 0)) (IsNotAsciiDigit (get_or text i 0)) → is_digit ≡ true
    → d ≡ get_or text i 0 - 48 → DigitsRead text (i + 1) (n * 10 + d)
digits_read_more text i n d is_digit within read tells bound cases true_here is =
    let below : digit_value (get_or text i 0) < 10 = subst (λ (b : Bool). OnTrue b (digit_value (get_or text i 0) < 10)) true_here bound in
    let value = digit_value_digit (get_or text i 0) (subst (λ (b : Bool). MatchBool b (IsAsciiDigit (get_or text i 0)) (IsNotAsciiDigit (get_or text i 0))) true_here cases) in
    record {
      small = let power : 10 ^ (i + 1) ≡ 10 ^ i * 10 = pow_more 10 i in omega (arith, power, read.small, is, below, value);
      value = omega (arith, read.value, digits_value_more 10 text i within, is, value);
      digits = all_more text i within read.digits (sym tells ∙ true_here);
    }

-- a power of ten is at most a later one
pub powers : (i j : ℕ) → i ≤ j → 10 ^ i ≤ 10 ^ j
powers i j short = let some : 0 < 10 = omega arith in pow-le-pow_right some short

-- one byte that is none
pub not_all : (xs : List ℕ) (i : ℕ) → i < length xs → is_ascii_digit (get_or xs i 0) ≡ false → all_ascii_digits xs ≡ false
not_all [] i within none = absurd (omega arith)
not_all (x ∷ xs) zero within none = ap (λ (b : Bool). b && all_ascii_digits xs) none
not_all (x ∷ xs) (suc i) within none = and_right (is_ascii_digit x) (all_ascii_digits xs) (not_all xs i (omega arith) none)

-- a text of digits alone
pub digits_found : (xs : List ℕ) (n i : ℕ) → 0 < length xs → length xs ≤ 38 → i ≡ length xs → n ≡ digits_value 10 (take i xs) → all_ascii_digits (take i xs) ≡ true → Some n ≡ digits_in xs
digits_found xs n i some short ends value all =
    let whole : take i xs ≡ xs = ap (λ (k : ℕ). take k xs) ends ∙ take-length xs in
    let found : n ≡ digits_value 10 xs = value ∙ ap (λ (ys : List ℕ). digits_value 10 ys) whole in
    let each : all_ascii_digits xs ≡ true = ap (λ (ys : List ℕ). all_ascii_digits ys) (sym whole) ∙ all in
    ap (λ (m : ℕ). Some m) found
    ∙ sym (ap (λ (b : Bool). if b && nat_le (length xs) 38 && all_ascii_digits xs then Some (digits_value 10 xs) else None) (lt-ltb 0 (length xs) some)
    ∙ ap (λ (b : Bool). if b && all_ascii_digits xs then Some (digits_value 10 xs) else None) (le-leb (length xs) 38 short)
    ∙ ap (λ (b : Bool). if b then Some (digits_value 10 xs) else None) each)

-- a text with another byte
pub digits_missing : (xs : List ℕ) → 0 < length xs → length xs ≤ 38 → all_ascii_digits xs ≡ false → None ≡ digits_in xs
digits_missing xs some short none =
    sym (ap (λ (b : Bool). if b && nat_le (length xs) 38 && all_ascii_digits xs then Some (digits_value 10 xs) else None) (lt-ltb 0 (length xs) some)
    ∙ ap (λ (b : Bool). if b && all_ascii_digits xs then Some (digits_value 10 xs) else None) (le-leb (length xs) 38 short)
    ∙ ap (λ (b : Bool). if b then Some (digits_value 10 xs) else None) none)

-- a number that is not 0 is above it
pub eqb_some : (n : ℕ) → (n == 0) ≡ false → 0 < n
eqb_some zero is = absurd (cc)
eqb_some (suc n) is = omega arith
