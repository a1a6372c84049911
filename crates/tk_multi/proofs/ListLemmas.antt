-- A list that is written place by place, and pairs of two lists.
use Rattle.std.proofs.Common.{◌≡◌, ℕ, suc, zero, ◌+◌, ◌<◌, ◌≤◌, Option, Some, None, List, [], ◌∷◌, ◌++◌, length, get_or, set, take, drop, add-one, ap, sym, ◌∙◌, arith, refl}
use Rattle.std.specs.Prelude.{filter_map, option_to_list}
use Rattle.std.specs.List.{cons_option, zip}

step_suc : {A : Type 0} (made old : List A) (i : ℕ) (x d : A) → length made ≡ length old → i < length old → x ≡ get_or made i d
    → set (take i made ++ drop i old) i x ≡ take (suc i) made ++ drop (suc i) old
step_suc [] [] i x d same within is = absurd (omega (arith, within))
step_suc [] (o ∷ old) i x d same within is = absurd (omega (arith, same))
step_suc (m ∷ made) [] i x d same within is = absurd (omega (arith, same))
step_suc (m ∷ made) (o ∷ old) zero x d same within is = ap (λ (y : _). y ∷ old) is
step_suc (m ∷ made) (o ∷ old) (suc i) x d same within is = ap (λ (l : List _). m ∷ l) (step_suc made old i x d (omega (arith, same)) (omega (arith, within)) is)

-- one more place of a list is written
pub written_more : {A : Type 0} (made old : List A) (i : ℕ) (x d : A) → length made ≡ length old → i < length old → x ≡ get_or made i d
    → set (take i made ++ drop i old) i x ≡ take (i + 1) made ++ drop (i + 1) old
written_more made old i x d same within is =
    step_suc made old i x d same within is ∙ ap (λ (k : ℕ). take k made ++ drop k old) (sym (add-one i))

-- what is not written yet stands there as before
at_suc : {A : Type 0} (made old : List A) (i : ℕ) (d : A) → length made ≡ length old → i < length old → get_or (take i made ++ drop i old) i d ≡ get_or old i d
at_suc [] [] i d same within = absurd (omega (arith, within))
at_suc [] (o ∷ old) i d same within = absurd (omega (arith, same))
at_suc (m ∷ made) [] i d same within = absurd (omega (arith, same))
at_suc (m ∷ made) (o ∷ old) zero d same within = refl
at_suc (m ∷ made) (o ∷ old) (suc i) d same within = at_suc made old i d (omega (arith, same)) (omega (arith, within))

pub unwritten : {A : Type 0} (made old : List A) (i : ℕ) (d : A) → length made ≡ length old → i < length old → get_or (take i made ++ drop i old) i d ≡ get_or old i d
unwritten made old i d same within = at_suc made old i d same within

-- once all places are written
pub written_all : {A : Type 0} (made old : List A) (i : ℕ) → length made ≡ length old → length old ≤ i → take i made ++ drop i old ≡ made
written_all [] [] zero same all = refl
written_all [] [] (suc i) same all = refl
written_all [] (o ∷ old) i same all = absurd (omega (arith, same))
written_all (m ∷ made) [] i same all = absurd (omega (arith, same))
written_all (m ∷ made) (o ∷ old) zero same all = absurd (omega (arith, all))
written_all (m ∷ made) (o ∷ old) (suc i) same all = ap (λ (l : List _). m ∷ l) (written_all made old i (omega (arith, same)) (omega (arith, all)))

-- pairs of two lists of one length
pub length_zip : {A B : Type 0} (xs : List A) (ys : List B) → length xs ≡ length ys → length (zip xs ys) ≡ length ys
length_zip [] [] same = refl
length_zip [] (y ∷ ys) same = absurd (omega (arith, same))
length_zip (x ∷ xs) [] same = refl
length_zip (x ∷ xs) (y ∷ ys) same = let rest = length_zip xs ys (omega (arith, same)) in ap (λ (n : ℕ). suc n) rest

pub get_or_zip : {A B : Type 0} (xs : List A) (ys : List B) (i : ℕ) (x : A) (y : B) (d : A × B) → i < length xs → length xs ≡ length ys
    → x ≡ get_or xs i x → y ≡ get_or ys i y → get_or (zip xs ys) i d ≡ (x, y)
get_or_zip [] ys i x y d within same a b = absurd (omega (arith, within))
get_or_zip (z ∷ xs) [] i x y d within same a b = absurd (omega (arith, same))
get_or_zip (z ∷ xs) (w ∷ ys) zero x y d within same a b = ap (λ (p : _). (p, w)) (sym a) ∙ ap (λ (q : _). (x, q)) (sym b)
get_or_zip (z ∷ xs) (w ∷ ys) (suc i) x y d within same a b = get_or_zip xs ys i x y d (omega (arith, within)) (omega (arith, same)) a b

one_of : {B : Type 0} (o : Option B) → cons_option o [] ≡ option_to_list o
one_of None = refl
one_of (Some x) = refl

-- what is kept of one element
pub filter_map_one : {A B : Type 0} (f : A → Option B) (x : A) → filter_map f (x ∷ []) ≡ option_to_list (f x)
filter_map_one f x = one_of (f x)

-- a list of which each element was written anew
pub written_whole : {A : Type 0} (n : ℕ) (new old : List A) → n ≡ length old → length new ≡ length old → take n (new ++ drop (length new) old) ≡ new
written_whole zero [] [] count same = refl
written_whole (suc n) [] [] count same = absurd (omega (arith, count))
written_whole n [] (o ∷ old) count same = absurd (omega (arith, same))
written_whole n (x ∷ new) [] count same = absurd (omega (arith, same))
written_whole zero (x ∷ new) (o ∷ old) count same = absurd (omega (arith, count))
written_whole (suc n) (x ∷ new) (o ∷ old) count same = ap (λ (l : List _). x ∷ l) (written_whole n new old (omega (arith, count)) (omega (arith, same)))
