-- Bytes at the front that are no frame.
use Rattle.std.proofs.Common.{◌≡◌, ◌≤◌, ◌+◌, ◌-◌, ◌*◌, ◌^◌, slice_index, ℕ, zero, suc, List, [], ◌∷◌, ◌++◌, length, take, drop, ap, sym, ◌∙◌, subst, arith, append_assoc, refl}
use Rattle.std.specs.List.{slice_range}
use Rattle.std.proofs.lemmas.List.{get_or-take, length-append, length-take-le, take_at, drop_at}
use Rattle.byteorder.specs.Endian.{big_bytes, big_from, big_number}
use Rattle.byteorder.specs.Numbers.{big_number-reads_back, length-bytes_high_first}
use Rattle.tk_frames.specs.Answer.{HasBadLength, HasBadFields, HasBadKind, HasPayload}
use Rattle.tk_frames.specs.Frame.{kind_of}
use Rattle.tk_frames.specs.Spelling.{code_of}
use Rattle.tk_frames.specs.declared.kind.Kind.{Kind}
use Rattle.tk_end.specs.Inbox.{IsOddPayload}

-- the length of a payload, and where it stands
pub record IsBehindLength (text bytes : List ℕ) : Type 0 where
  pub told : big_number 4 bytes ≡ length text
  pub within : 4 + length text ≤ length bytes
  pub is : slice_range bytes 4 (4 + length text) ≡ text

pub behind_length : (text bytes : List ℕ) → HasPayload text bytes → IsBehindLength text bytes
behind_length text bytes has =
    let n : ℕ = length text in
    let four = length-bytes_high_first 4 n in
    let joined : bytes ≡ big_bytes 4 n ++ (text ++ has.rest) = has.parts ∙ append_assoc (big_bytes 4 n) text has.rest in
    let size = ap length joined ∙ length-append (big_bytes 4 n) (text ++ has.rest) in
    let rest = length-append text has.rest in
    let behind : drop 4 bytes ≡ text ++ has.rest = ap (drop 4) joined ∙ drop_at (big_bytes 4 n) (text ++ has.rest) 4 four in
    let count : 4 + n - 4 ≡ n = omega arith in
    record {
      told = ap (big_number 4) joined ∙ big_number-reads_back 4 n (text ++ has.rest) (omega (arith, has.size.1));
      within = omega arith;
      is = ap (λ k. take k (drop 4 bytes)) count ∙ ap (take n) behind ∙ take_at text has.rest n refl;
    }

abbrev head_of : List ℕ → ℕ
head_of [] = 0
head_of (x ∷ xs) = x

-- a payload of no kind, and one that is malformed
pub odd_kind : (version code : ℕ) (bytes odd : List ℕ) → HasBadKind code bytes → ((text : List ℕ) → HasPayload text bytes → odd ≡ text) → IsOddPayload version bytes odd
odd_kind version code bytes odd has is =
    let same = is (code ∷ has.behind) has.stands in
    record {
      stands = subst (λ xs. HasPayload xs bytes) (sym same) has.stands;
      no_frame = λ frame is_frame spelled. has.no_kind (kind_of frame) (ap head_of (sym same ∙ spelled));
    }

pub odd_fields : (version : ℕ) (kind : Kind) (bytes odd : List ℕ) → HasBadFields version kind bytes → ((text : List ℕ) → HasPayload text bytes → odd ≡ text) → IsOddPayload version bytes odd
odd_fields version kind bytes odd has is =
    let same = is (code_of kind ∷ has.behind) has.stands in
    record {
      stands = subst (λ xs. HasPayload xs bytes) (sym same) has.stands;
      no_frame = λ frame is_frame spelled. has.no_frame frame is_frame (sym same ∙ spelled);
    }

big_from_front : (n i k : ℕ) (xs : List ℕ) → i + n ≤ k → big_from i n (take k xs) ≡ big_from i n xs
big_from_front zero i k xs within = refl
big_from_front (suc n) i k xs within =
    let here : slice_index (take k xs) i ≡ slice_index xs i = get_or-take k xs i 0 (omega arith) in
    let behind : big_from (suc i) n (take k xs) ≡ big_from (suc i) n xs = big_from_front n (suc i) k xs (omega arith) in
    ap (λ b. b * 256 ^ n + big_from (suc i) n (take k xs)) here ∙ ap (λ m. slice_index xs i * 256 ^ n + m) behind

number_in_front : (n : ℕ) (xs : List ℕ) → big_number n (take n xs) ≡ big_number n xs
number_in_front n xs = big_from_front n 0 n xs (omega arith)

same_number : (n : ℕ) (xs ys : List ℕ) → ys ≡ take n xs → big_number n ys ≡ big_number n xs
same_number n xs ys is = ap (big_number n) is ∙ number_in_front n xs

-- a length that no payload has, in the four bytes that say it
pub odd_length : (size : ℕ) (bytes odd : List ℕ) → HasBadLength size bytes → odd ≡ take 4 bytes → HasBadLength size odd × (length odd ≡ 4) × (odd ≡ take 4 bytes)
odd_length size bytes odd has is =
    let four : length odd ≡ 4 = ap length is ∙ length-take-le 4 bytes has.whole in
    (record { whole = omega (arith, four); size_is = has.size_is ∙ sym (same_number 4 bytes odd is); no_length = has.no_length }, four, is)
