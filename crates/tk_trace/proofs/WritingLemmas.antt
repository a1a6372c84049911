-- Writing one after the other, as a loop does, and the forms that frames give to sets and places.
use Rattle.std.proofs.Common.{◌≡◌, ℕ, ◌+◌, ◌<◌, ◌≤◌, ◌^◌, ℤ, All, List, [], ◌∷◌, ◌++◌, length, get_or, take, Some, Result, Err, OnOk, refl, sym, ap, subst, ◌∙◌, append_assoc, append-nil}
use Rattle.std.specs.Prelude.{slice_get}
use Rattle.std.specs.Int.{w128, cast_unsigned}
use Rattle.std.specs.List.{AllZip, flat_map}
use Rattle.std.proofs.lemmas.List.{flat_map_more, get_or_default, take_all, take_more}
use Rattle.std.proofs.lemmas.List.Elements.{All-get_or, All-head, All-more, All-tail}
use Rattle.std.proofs.lemmas.Option.{get_or_from_slice_get}
use Rattle.tk_base.specs.Ascending.{IsAscending}
use Rattle.tk_frames.specs.Spelling.{Above, ArePlaces, EachInTurn, IsSet, counted as frame_counted, in_turn, no_object, number as frame_number, object as frame_object, object_itself, place, places, set, signed}
use Rattle.tk_frames.proofs.AscentLemmas.{objects_in_turn}
use Rattle.tk_frames.proofs.WritingLemmas.{facts_both}
use Rattle.tk_trace.specs.Spelling.{number}

-- one more was written
pub more : {X : Type 0} (spell : X → List ℕ) (xs : List X) (i : ℕ) (x : X) (old out new : List ℕ) → i < length xs → x ≡ get_or xs i x → out ≡ old ++ flat_map spell (take i xs) → new ≡ out ++ spell x → new ≡ old ++ flat_map spell (take (i + 1) xs)
more {X = X} spell xs i x old out new within is so_far wrote =
    let here : take (i + 1) xs ≡ take i xs ++ x ∷ [] = take_more xs i x within ∙ ap (λ (y : X). take i xs ++ y ∷ []) (sym is) in
    wrote ∙ ap (λ (o : List ℕ). o ++ spell x) so_far ∙ flat_map_more spell old (take i xs) x ∙ ap (λ (ys : List X). old ++ flat_map spell ys) (sym here)

-- and is within the rules
pub more_within : {X : Type 0} (P : X → Type 0) (xs : List X) (i : ℕ) (x : X) → i < length xs → x ≡ get_or xs i x → All P (take i xs) → P x → All P (take (i + 1) xs)
more_within P xs i x within is facts fact = All-more P xs i x within facts (subst P is fact)

-- none were written
pub none_out : {X : Type 0} (spell : X → List ℕ) (xs : List X) (old : List ℕ) → old ≡ old ++ flat_map spell (take 0 xs)
none_out spell xs old = sym (append-nil old)

-- all were written
pub all_out : {X : Type 0} (spell : X → List ℕ) (xs : List X) (i : ℕ) (old out : List ℕ) → length xs ≤ i → out ≡ old ++ flat_map spell (take i xs) → out ≡ old ++ flat_map spell xs
all_out spell xs i old out past so_far = so_far ∙ ap (λ (ys : List _). old ++ flat_map spell ys) (take_all i xs past)

-- and are within the rules
pub all_within : {X : Type 0} (P : X → Type 0) (xs : List X) (i : ℕ) → length xs ≤ i → All P (take i xs) → All P xs
all_within P xs i past facts = subst (All P) (take_all i xs past) facts

-- what stands at a place is within the rules of all
pub one_within : {X : Type 0} (P : X → Type 0) (xs : List X) (i : ℕ) (x : X) → i < length xs → x ≡ get_or xs i x → All P xs → P x
one_within P xs i x within is facts = subst P (sym is) (All-get_or P xs i x within facts)

-- an error says nothing of what was written
pub not_ok : {T E : Type 0} (result : Result T E) (e : E) (P : Type 0) → result ≡ Err e → OnOk result P
not_ok result e P failed = rw failed tt

-- what stands at a place, whatever stands outside
pub at_place : {X : Type 0} (xs : List X) (i : ℕ) (d x : X) → i < length xs → x ≡ get_or xs i d → x ≡ get_or xs i x
at_place xs i d x within is = is ∙ get_or_default xs i d x within

-- one text was written behind another
pub out_2 : (old a new x y : List ℕ) → a ≡ old ++ x → new ≡ a ++ y → new ≡ old ++ (x ++ y)
out_2 old a new x y first then = then ∙ ap (λ (o : List ℕ). o ++ y) first ∙ append_assoc old x y

pub out_3 : (old a b new x y z : List ℕ) → a ≡ old ++ x → b ≡ a ++ y → new ≡ b ++ z → new ≡ old ++ (x ++ (y ++ z))
out_3 old a b new x y z first then last = out_2 old a new x (y ++ z) first (out_2 a b new y z then last)

-- two lists with one more each
pub zip_push : {A B : Type 0} (R : A → B → Type 0) (xs : List A) (ys : List B) (x : A) (y : B) → AllZip R xs ys → R x y → AllZip R (xs ++ x ∷ []) (ys ++ y ∷ [])
zip_push R [] [] x y facts fact = (fact, tt)
zip_push R [] (b ∷ ys) x y facts fact = absurd facts
zip_push R (a ∷ xs) [] x y facts fact = absurd facts
zip_push R (a ∷ xs) (b ∷ ys) x y facts fact = (facts.0, zip_push R xs ys x y facts.1 fact)

-- what stands at a place
pub got_at : {X : Type 0} (xs : List X) (i k : ℕ) (x : X) → k ≡ i → slice_get xs k ≡ Some x → x ≡ get_or xs i x
got_at xs i k x same is = sym (get_or_from_slice_get xs i x x (ap (slice_get xs) (sym same) ∙ is))

pub number_at_place : (xs : List ℕ) (i n : ℕ) → i < length xs → n ≡ get_or xs i 0 → n ≡ get_or xs i n
number_at_place xs i n within is = is ∙ get_or_default xs i 0 n within

-- ---- the forms of frames

pub signed_is : (z : ℤ) → number 16 (cast_unsigned w128 z) ≡ signed 1 z
unfolding number signed frame_number
signed_is z = refl

set_items : (before : ℕ) (xs : List ℕ) → flat_map (number 4) xs ≡ in_turn object_itself (frame_object 1) before xs
unfolding number in_turn frame_object frame_number
set_items before [] = refl
set_items before (x ∷ xs) = ap (λ (t : List ℕ). frame_object 1 before x ++ t) (set_items x xs)

places_items : (before : ℕ) (xs : List ℕ) → flat_map (number 4) xs ≡ in_turn no_object (place 1) before xs
unfolding number in_turn frame_number
places_items before [] = refl
places_items before (x ∷ xs) = ap (λ (t : List ℕ). place 1 before x ++ t) (places_items 0 xs)

pub set_is : (xs : List ℕ) → number 4 (length xs) ++ flat_map (number 4) xs ≡ set 1 xs
unfolding number frame_counted frame_number
set_is xs = ap (λ (t : List ℕ). frame_number 1 4 (length xs) ++ t) (set_items 0 xs)

pub places_are : (xs : List ℕ) → number 4 (length xs) ++ flat_map (number 4) xs ≡ places 1 xs
unfolding number frame_counted frame_number
places_are xs = ap (λ (t : List ℕ). frame_number 1 4 (length xs) ++ t) (places_items 0 xs)

each_small : (object_of : ℕ → ℕ) (before : ℕ) (xs : List ℕ) → All (λ o. o < 2 ^ 32) xs → EachInTurn object_of (λ b o. o < 2 ^ 32) before xs
each_small object_of before [] small = tt
each_small object_of before (x ∷ xs) small = (All-head (λ o. o < 2 ^ 32) x xs small, each_small object_of (object_of x) xs (All-tail (λ o. o < 2 ^ 32) x xs small))

pub is_set : (xs : List ℕ) → length xs < 2 ^ 32 → IsAscending xs → All (λ o. o < 2 ^ 32) xs → IsSet xs
is_set xs few up small = (few, facts_both object_itself (λ b x. b < x) (λ b x. x < 2 ^ 32) Above (λ b x l s. (l, s)) 0 xs (objects_in_turn xs up) (each_small object_itself 0 xs small))

pub are_places : (xs : List ℕ) → length xs < 2 ^ 32 → All (λ p. p < 2 ^ 32) xs → ArePlaces xs
are_places xs few small = (few, each_small no_object 0 xs small)

-- a count, and then the items
pub counted_out : (n len : ℕ) (items whole old out new : List ℕ) → n ≡ len → number 4 len ++ items ≡ whole → out ≡ old ++ number 4 n → new ≡ out ++ items → new ≡ old ++ whole
counted_out n len items whole old out new count is first then =
    then ∙ ap (λ (o : List ℕ). o ++ items) (first ∙ ap (λ (k : ℕ). old ++ number 4 k) count) ∙ append_assoc old (number 4 len) items ∙ ap (λ (t : List ℕ). old ++ t) is
