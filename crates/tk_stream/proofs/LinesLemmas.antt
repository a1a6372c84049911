-- The first line feed of bytes with more behind them, and what stands behind it.
use Rattle.std.proofs.Common.{◌≡◌, ℕ, suc, ◌+◌, ◌<◌, ◌≤◌, Bool, true, false, not, cond, List, [], ◌∷◌, ◌++◌, length, drop, Some, None, refl, sym, subst, ap, ◌∙◌, arith, length-append}
use Rattle.std.specs.Prelude.{◌==◌, nat_lt, position}
use Rattle.std.specs.List.{position_or_len}
use Rattle.std.proofs.lemmas.Bool.{ltb-false, ltb-true, lt-ltb}
use Rattle.tk_input.proofs.CountLemmas.{position_found}
use Rattle.tk_stream.specs.Lines.{behind_feed}

-- whether a byte is a line feed
abbrev pub is_feed : ℕ → Bool
is_feed b = b == 10

far_none : (b : Bool) (i n : ℕ) → nat_lt i n ≡ b → cond b (Some i) None ≡ None → n ≤ i
far_none true i n is none = absurd (cc)
far_none false i n is none = ltb-false i n is

-- where none is found the search passes the end
pub far_of : (p : ℕ → Bool) (xs : List ℕ) → position p xs ≡ None → length xs ≤ position_or_len p xs
far_of p xs none = far_none (nat_lt (position_or_len p xs) (length xs)) (position_or_len p xs) (length xs) refl none

-- a first place stays so with more behind it
place_front : (p : ℕ → Bool) (xs ys : List ℕ) → position_or_len p xs < length xs → position_or_len p (xs ++ ys) ≡ position_or_len p xs
place_front p [] ys within = absurd (omega arith)
place_front p (x ∷ xs) ys within = by (p x) within (place_front p xs ys) where
  by : (b : Bool) → cond (not b) (1 + position_or_len p xs) 0 < suc (length xs) → (position_or_len p xs < length xs → position_or_len p (xs ++ ys) ≡ position_or_len p xs) → cond (not b) (1 + position_or_len p (xs ++ ys)) 0 ≡ cond (not b) (1 + position_or_len p xs) 0
  by true within more = refl
  by false within more = ap (λ (n : ℕ). 1 + n) (more (omega arith))

-- where there is none the first place is that of what is behind
place_behind : (p : ℕ → Bool) (xs ys : List ℕ) → length xs ≤ position_or_len p xs → position_or_len p (xs ++ ys) ≡ length xs + position_or_len p ys
place_behind p [] ys far = omega arith
place_behind p (x ∷ xs) ys far = by (p x) far (place_behind p xs ys) where
  by : (b : Bool) → suc (length xs) ≤ cond (not b) (1 + position_or_len p xs) 0 → (length xs ≤ position_or_len p xs → position_or_len p (xs ++ ys) ≡ length xs + position_or_len p ys) → cond (not b) (1 + position_or_len p (xs ++ ys)) 0 ≡ suc (length xs) + position_or_len p ys
  by true far more = absurd (omega arith)
  by false far more = omega (arith, more (omega arith))

found_if : (b : Bool) (i n : ℕ) → b ≡ true → i ≡ n → cond b (Some i) None ≡ Some n
found_if true i n so is = ap (λ (k : ℕ). Some k) is
found_if false i n so is = absurd (cc)

none_if : (b : Bool) (i : ℕ) → b ≡ false → cond b (Some i) None ≡ None
none_if true i so = absurd (cc)
none_if false i so = refl

not_less : (b : Bool) (i n : ℕ) → nat_lt i n ≡ b → n ≤ i → b ≡ false
not_less true i n is far = absurd (omega (arith, ltb-true i n is))
not_less false i n is far = refl

-- a line feed that was found stays the first with more behind it
pub position_front : (p : ℕ → Bool) (xs ys : List ℕ) (i : ℕ) → position p xs ≡ Some i → position p (xs ++ ys) ≡ Some i
position_front p xs ys i is =
    let at = position_found p xs i is in
    let here : position_or_len p xs ≡ i = sym at.first in
    let within : position_or_len p xs < length xs = subst (λ (n : ℕ). n < length xs) at.first at.within in
    let same = place_front p xs ys within in
    found_if (nat_lt (position_or_len p (xs ++ ys)) (length (xs ++ ys))) (position_or_len p (xs ++ ys)) i (lt-ltb (position_or_len p (xs ++ ys)) (length (xs ++ ys)) (omega (arith, length-append xs ys))) (same ∙ here)

-- the first one is behind bytes that have none
pub position_behind : (p : ℕ → Bool) (xs ys : List ℕ) (i : ℕ) → position p xs ≡ None → position p ys ≡ Some i → position p (xs ++ ys) ≡ Some (length xs + i)
position_behind p xs ys i none is =
    let at = position_found p ys i is in
    let same = place_behind p xs ys (far_of p xs none) in
    let here : position_or_len p (xs ++ ys) ≡ length xs + i = same ∙ ap (λ (n : ℕ). length xs + n) (sym at.first) in
    found_if (nat_lt (position_or_len p (xs ++ ys)) (length (xs ++ ys))) (position_or_len p (xs ++ ys)) (length xs + i) (lt-ltb (position_or_len p (xs ++ ys)) (length (xs ++ ys)) (omega (arith, length-append xs ys, at.within, here))) here

-- there is none in either
pub position_neither : (p : ℕ → Bool) (xs ys : List ℕ) → position p xs ≡ None → position p ys ≡ None → position p (xs ++ ys) ≡ None
position_neither p xs ys none more =
    let same = place_behind p xs ys (far_of p xs none) in
    let far = far_of p ys more in
    none_if (nat_lt (position_or_len p (xs ++ ys)) (length (xs ++ ys))) (position_or_len p (xs ++ ys)) (not_less (nat_lt (position_or_len p (xs ++ ys)) (length (xs ++ ys))) (position_or_len p (xs ++ ys)) (length (xs ++ ys)) refl (omega (arith, length-append xs ys, same, far)))

-- what is behind the first line feed of bytes that have one, with more behind them
behind_front : (xs ys : List ℕ) → position_or_len is_feed xs < length xs → behind_feed (xs ++ ys) ≡ drop (suc (position_or_len is_feed xs)) xs ++ ys
behind_front [] ys within = absurd (omega arith)
behind_front (x ∷ xs) ys within = by (is_feed x) within (behind_front xs ys) where
  by : (b : Bool) → cond (not b) (1 + position_or_len is_feed xs) 0 < suc (length xs) → (position_or_len is_feed xs < length xs → behind_feed (xs ++ ys) ≡ drop (suc (position_or_len is_feed xs)) xs ++ ys) → cond b (xs ++ ys) (behind_feed (xs ++ ys)) ≡ drop (suc (cond (not b) (1 + position_or_len is_feed xs) 0)) (x ∷ xs) ++ ys
  by true within more = refl
  by false within more =
      let same : suc (position_or_len is_feed xs) ≡ 1 + position_or_len is_feed xs = omega arith in
      more (omega arith) ∙ ap (λ (n : ℕ). drop n xs ++ ys) same

-- what is behind the line feed that a search finds
pub behind_found : (xs ys : List ℕ) (i : ℕ) → position is_feed xs ≡ Some i → behind_feed (xs ++ ys) ≡ drop (i + 1) xs ++ ys
behind_found xs ys i is =
    let at = position_found is_feed xs i is in
    let within : position_or_len is_feed xs < length xs = subst (λ (n : ℕ). n < length xs) at.first at.within in
    let here : suc (position_or_len is_feed xs) ≡ i + 1 = omega (arith, at.first) in
    behind_front xs ys within ∙ ap (λ (n : ℕ). drop n xs ++ ys) here

behind_far : (xs ys : List ℕ) → length xs ≤ position_or_len is_feed xs → behind_feed (xs ++ ys) ≡ behind_feed ys
behind_far [] ys far = refl
behind_far (x ∷ xs) ys far = by (is_feed x) far (behind_far xs ys) where
  by : (b : Bool) → suc (length xs) ≤ cond (not b) (1 + position_or_len is_feed xs) 0 → (length xs ≤ position_or_len is_feed xs → behind_feed (xs ++ ys) ≡ behind_feed ys) → cond b (xs ++ ys) (behind_feed (xs ++ ys)) ≡ behind_feed ys
  by true far more = absurd (omega arith)
  by false far more = more (omega arith)

-- bytes without a line feed do not matter
pub behind_missing : (xs ys : List ℕ) → position is_feed xs ≡ None → behind_feed (xs ++ ys) ≡ behind_feed ys
behind_missing xs ys none = behind_far xs ys (far_of is_feed xs none)
