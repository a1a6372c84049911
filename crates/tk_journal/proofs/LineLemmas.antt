-- What one more name, place or monitor adds to the text of a line.
use Rattle.std.proofs.Common.{◌≡◌, ℕ, suc, ◌+◌, ◌-◌, ◌<◌, Bool, true, cond, Some, List, [], ◌∷◌, ◌++◌, length, take, get_or, sym, ap, ◌∙◌, arith, append_assoc, append-nil, length-take, rules}
use Rattle.std.specs.Prelude.{codes, decimal, flat_map, nat_lt, slice_get}
use Rattle.std.specs.List.{join_by, range_with_len}
use Rattle.std.proofs.lemmas.List.Concat.{flat_map-append}
use Rattle.std.proofs.lemmas.List.{take_more}
use Rattle.std.proofs.lemmas.Option.{get_or_from_slice_get}
use Rattle.tk_border.proofs.RisingLemmas.{range-append}
use Rattle.tk_journal.specs.Line.{monitor_text, name_text, names_text, places_text}

-- a text grows by what is put behind it
pub grown : (before old new shown text more : List ℕ) → old ≡ before ++ shown → new ≡ old ++ text → shown ++ text ≡ more → new ≡ before ++ more
grown before old new shown text more was put is =
    put ∙ ap (λ (l : List ℕ). l ++ text) was ∙ append_assoc before shown text ∙ ap (λ (l : List ℕ). before ++ l) is

-- what one element more adds
pub flat_map-push : {X : Type 0} (f : X → List ℕ) (xs : List X) (y : X) → flat_map f (xs ++ y ∷ []) ≡ flat_map f xs ++ f y
flat_map-push f xs y = flat_map-append f xs (y ∷ []) ∙ ap (λ (l : List ℕ). flat_map f xs ++ l) (append-nil (f y))

-- the same where a text stands between two
pub join_by-push : {X : Type 0} (f : X → List ℕ) (sep : List ℕ) (xs : List X) (y : X) → join_by f sep (xs ++ y ∷ []) ≡ join_by f sep xs ++ (cond (nat_lt 0 (length xs)) sep [] ++ f y)
join_by-push f sep [] y = append-nil (f y)
join_by-push f sep (x ∷ xs) y =
    let more : nat_lt 0 (suc (length xs)) ≡ true = search rules in
    ap (λ (l : List ℕ). f x ++ l) (flat_map-push (λ z. sep ++ f z) xs y)
    ∙ sym (append_assoc (f x) (flat_map (λ z. sep ++ f z) xs) (sep ++ f y))
    ∙ ap (λ (b : Bool). (f x ++ flat_map (λ z. sep ++ f z) xs) ++ (cond b sep [] ++ f y)) (sym more)

pub names_more : (names : List (List ℕ)) (members : List ℕ) (i o : ℕ) (name : List ℕ) → i < length members → o ≡ get_or members i 0 → slice_get names (o - 1) ≡ Some name
    → names_text names (take i members) ++ (codes " " ++ name) ≡ names_text names (take (i + 1) members)
names_more names members i o name within at named =
    ap (λ (n : List ℕ). names_text names (take i members) ++ (codes " " ++ n)) (sym (get_or_from_slice_get names (o - 1) name [] named))
    ∙ ap (λ (m : ℕ). names_text names (take i members) ++ name_text names m) at
    ∙ sym (flat_map-push (name_text names) (take i members) (get_or members i 0))
    ∙ ap (names_text names) (sym (take_more members i 0 within))

pub places_more : (places : List ℕ) (i place : ℕ) → i < length places → place ≡ get_or places i 0
    → places_text (take i places) ++ (cond (nat_lt 0 i) (codes ",") [] ++ decimal place) ≡ places_text (take (i + 1) places)
places_more places i place within at =
    let long : length (take i places) ≡ i = grind (arith, length-take) in
    ap (λ (p : ℕ). places_text (take i places) ++ (cond (nat_lt 0 i) (codes ",") [] ++ decimal p)) at
    ∙ ap (λ (n : ℕ). places_text (take i places) ++ (cond (nat_lt 0 n) (codes ",") [] ++ decimal (get_or places i 0))) (sym long)
    ∙ sym (join_by-push decimal (codes ",") (take i places) (get_or places i 0))
    ∙ ap places_text (sym (take_more places i 0 within))

pub monitors_more : (cut : List (List ℕ)) (i : ℕ) (places : List ℕ) → slice_get cut i ≡ Some places
    → flat_map (monitor_text cut) (range_with_len 1 i) ++ (codes " " ++ decimal (i + 1) ++ codes ":" ++ places_text places) ≡ flat_map (monitor_text cut) (range_with_len 1 (i + 1))
monitors_more cut i places here =
    let next : i + 1 ≡ 1 + i = omega arith in
    let place : i ≡ 1 + i - 1 = omega arith in
    ap (λ (p : List ℕ). flat_map (monitor_text cut) (range_with_len 1 i) ++ (codes " " ++ decimal (i + 1) ++ codes ":" ++ places_text p)) (sym (get_or_from_slice_get cut i places [] here))
    ∙ ap (λ (m : ℕ). flat_map (monitor_text cut) (range_with_len 1 i) ++ (codes " " ++ decimal m ++ codes ":" ++ places_text (get_or cut i []))) next
    ∙ ap (λ (j : ℕ). flat_map (monitor_text cut) (range_with_len 1 i) ++ (codes " " ++ decimal (1 + i) ++ codes ":" ++ places_text (get_or cut j []))) place
    ∙ sym (flat_map-push (monitor_text cut) (range_with_len 1 i) (1 + i))
    ∙ ap (flat_map (monitor_text cut)) (sym (range-append 1 i 1))
