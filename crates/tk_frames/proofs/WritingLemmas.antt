-- Writing items one after the other, as a loop does.
use Rattle.std.proofs.Common.{◌≡◌, ℕ, suc, ◌+◌, ◌<◌, ◌≤◌, ◌/◌, ◌%◌, List, [], ◌∷◌, ◌++◌, length, get_or, drop, Some, refl, sym, ap, subst, ◌∙◌, append_assoc, add-one, arith, inl, inr}
use Rattle.std.specs.Prelude.{slice_get}
use Rattle.std.proofs.lemmas.Bool.{cases_lt}
use Rattle.std.proofs.lemmas.List.{append-nil, drop_all}
use Rattle.std.proofs.lemmas.Option.{get_or_from_slice_get, slice_get-get_or, same_Some}
use Rattle.std.proofs.Math.Seq.{drop-cons}
use Rattle.tk_frames.specs.Spelling.{groups, number, in_turn, EachInTurn}
use Rattle.tk_frames.proofs.GroupLemmas.{groups_more}

-- one group more
pub group_written : (out : List ℕ) (rest : List ℕ) (n : ℕ) → 128 ≤ n → rest ≡ out ++ (128 + n % 128) ∷ [] → rest ++ groups (n / 128) ≡ out ++ groups n
group_written out rest n ge is = ap (λ (xs : List ℕ). xs ++ groups (n / 128)) is ∙ append_assoc out ((128 + n % 128) ∷ []) (groups (n / 128)) ∙ ap (λ (xs : List ℕ). out ++ xs) (sym (groups_more n ge))

-- the item at a place, and those behind it
drop_here : {X : Type 0} (xs : List X) (i : ℕ) (x : X) → i < length xs → slice_get xs i ≡ Some x → drop i xs ≡ x ∷ drop (i + 1) xs
drop_here xs i x within is = drop-cons xs i x within ∙ rw (get_or_from_slice_get xs i x x is, ← add-one) refl

-- one item more
pub item_written : {X : Type 0} (object_of : X → ℕ) (spell : ℕ → X → List ℕ) (before : ℕ) (xs : List X) (i : ℕ) (x : X) (out more total : List ℕ) → i < length xs → slice_get xs i ≡ Some x
    → more ≡ out ++ spell before x → out ++ in_turn object_of spell before (drop i xs) ≡ total → more ++ in_turn object_of spell (object_of x) (drop (i + 1) xs) ≡ total
unfolding in_turn
item_written object_of spell before xs i x out more total within is wrote so_far =
    let here = drop_here xs i x within is in
    let turn : in_turn object_of spell before (drop i xs) ≡ spell before x ++ in_turn object_of spell (object_of x) (drop (i + 1) xs) = ap (in_turn object_of spell before) here in
    ap (λ (ys : List ℕ). ys ++ in_turn object_of spell (object_of x) (drop (i + 1) xs)) wrote
    ∙ append_assoc out (spell before x) (in_turn object_of spell (object_of x) (drop (i + 1) xs))
    ∙ ap (λ (ys : List ℕ). out ++ ys) (sym turn) ∙ so_far

-- and the facts of those that are left
pub facts_left : {X : Type 0} (object_of : X → ℕ) (Fact : ℕ → X → Type 0) (before : ℕ) (xs : List X) (i : ℕ) (x : X) → i < length xs → slice_get xs i ≡ Some x
    → EachInTurn object_of Fact before (drop i xs) → Fact before x × EachInTurn object_of Fact (object_of x) (drop (i + 1) xs)
facts_left object_of Fact before xs i x within is facts = subst (EachInTurn object_of Fact before) (drop_here xs i x within is) facts

-- a fact of each item before a place
abbrev pub EachBelow : {X : Type 0} → ℕ → (X → Type 0) → List X → Type 0
EachBelow {X = X} i Fact xs = (k : ℕ) (x : X) → k < i → slice_get xs k ≡ Some x → Fact x

-- the same with the item at that place
pub below_more : {X : Type 0} (Fact : X → Type 0) (xs : List X) (i : ℕ) (x : X) → EachBelow i Fact xs → slice_get xs i ≡ Some x → Fact x → EachBelow (i + 1) Fact xs
below_more Fact xs i x facts is fact k y below there = elim (cases_lt k i) [
  | inl lt ↦ facts k y lt there
  | inr ge ↦
      let here : i ≡ k = omega arith in
      let same : x ≡ y = same_Some x y (sym is ∙ ap (slice_get xs) here ∙ there) in
      subst Fact same fact
]

-- a fact of each item, whatever stood before it
pub below_all : {X : Type 0} (object_of : X → ℕ) (Fact : X → Type 0) (before : ℕ) (xs : List X) → EachBelow (length xs) Fact xs → EachInTurn object_of (λ b x. Fact x) before xs
below_all object_of Fact before [] facts = tt
below_all object_of Fact before (x ∷ xs) facts = (facts 0 x (omega arith) refl, below_all object_of Fact (object_of x) xs (λ k y below there. facts (suc k) y (omega arith) there))

-- two facts of each item make a third
pub facts_both : {X : Type 0} (object_of : X → ℕ) (F G H : ℕ → X → Type 0) → ((b : ℕ) (x : X) → F b x → G b x → H b x) → (before : ℕ) (xs : List X) → EachInTurn object_of F before xs → EachInTurn object_of G before xs → EachInTurn object_of H before xs
facts_both object_of F G H join before [] left right = tt
facts_both object_of F G H join before (x ∷ xs) left right = (join before x left.0 right.0, facts_both object_of F G H join (object_of x) xs left.1 right.1)

-- the item of a list of numbers at a place
pub number_there : (xs : List ℕ) (i n : ℕ) → i < length xs → n ≡ get_or xs i 0 → slice_get xs i ≡ Some n
number_there xs i n within is = slice_get-get_or xs i 0 within ∙ ap (λ (m : ℕ). Some m) (sym is)

-- nothing is left at the end
pub all_written : {X : Type 0} (object_of : X → ℕ) (spell : ℕ → X → List ℕ) (before : ℕ) (xs : List X) (i : ℕ) (out total : List ℕ) → length xs ≤ i → out ++ in_turn object_of spell before (drop i xs) ≡ total → out ≡ total
unfolding in_turn
all_written object_of spell before xs i out total end so_far =
    let nothing : drop i xs ≡ [] = drop_all i xs end in
    sym (append-nil out) ∙ ap (λ ys. out ++ in_turn object_of spell before ys) (sym nothing) ∙ so_far

-- a count, before any item
pub count_written : (version len : ℕ) {X : Type 0} (xs : List X) (old new text : List ℕ) → len ≡ length xs → new ≡ old ++ number version 4 len → new ++ text ≡ old ++ (number version 4 (length xs) ++ text)
count_written version len xs old new text is wrote = ap (λ (ys : List ℕ). ys ++ text) (wrote ∙ ap (λ (n : ℕ). old ++ number version 4 n) is) ∙ append_assoc old (number version 4 (length xs)) text
