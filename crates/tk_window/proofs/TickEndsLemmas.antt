-- All of some values, and the rows of logs.
use Rattle.std.proofs.Common.{◌≡◌, ℕ, ◌+◌, ◌<◌, ◌≤◌, min, List, [], ◌∷◌, ◌++◌, length, map, take, drop, get_or, Option, Some, None, option_map, refl, sym, ap, ◌∙◌, arith}
use Rattle.std.specs.Prelude.{Vec}
use Rattle.std.specs.List.{range_with_len, zip}
use Rattle.std.proofs.lemmas.List.{drop_more, get_or-map, length-map, map-append, take-append-drop, take_all, take_more}
use Rattle.std.proofs.lemmas.Slice.Zip.{get_or-zip, length-zip}
use Rattle.std.proofs.lemmas.List.FromFn.{map-range_with_len_more}
use Rattle.tk_window.specs.Expanded.{ends_shown, rows_shown}
use Rattle.tk_window.specs.TickEnds.{all_of, ticks_in}
use Rattle.tk_window.specs.Window.{tick_ending}
use Rattle.tk_window.specs.declared.expanded.Expanded.{Expanded}

-- one value more
all_of-push : {A : Type 0} (found : List (Option A)) (xs : List A) (x : A) → all_of found ≡ Some xs → all_of (found ++ Some x ∷ []) ≡ Some (xs ++ x ∷ [])
all_of-push [] xs x is = let none : [] ≡ xs = cc in ap (λ (ys : List _). Some (ys ++ x ∷ [])) none
all_of-push (None ∷ found) xs x is = absurd (cc)
all_of-push {A} (Some y ∷ found) xs x is = go (all_of found) xs (λ ys same. all_of-push found ys x same) is
  where
    go : (rest : Option (List A)) (xs : List A) → ((ys : List A) → rest ≡ Some ys → all_of (found ++ Some x ∷ []) ≡ Some (ys ++ x ∷ [])) → option_map (λ ys. y ∷ ys) rest ≡ Some xs → option_map (λ ys. y ∷ ys) (all_of (found ++ Some x ∷ [])) ≡ Some (xs ++ x ∷ [])
    go None xs later is = absurd (cc)
    go (Some ys) xs later is =
        let whole : y ∷ ys ≡ xs = cc in
        ap (λ (o : Option (List A)). option_map (λ zs. y ∷ zs) o) (later ys refl) ∙ ap (λ (zs : List A). Some (zs ++ x ∷ [])) whole

-- where one is not there, not all are
all_of-none : {A : Type 0} (found rest : List (Option A)) → all_of (found ++ None ∷ rest) ≡ None
all_of-none [] rest = refl
all_of-none (None ∷ found) rest = refl
all_of-none {A} (Some x ∷ found) rest = ap (λ (o : Option (List A)). option_map (λ xs. x ∷ xs) o) (all_of-none found rest)

-- the values of a list's first entries, and of one more
pub found_next : {Z A : Type 0} (g : Z → Option A) (zs : List Z) (i : ℕ) (d : Z) (list : List A) (x : A) → i < length zs → all_of (map g (take i zs)) ≡ Some list → g (get_or zs i d) ≡ Some x → all_of (map g (take (i + 1) zs)) ≡ Some (list ++ x ∷ [])
found_next {Z} {A} g zs i d list x within before here =
    ap (λ (ys : List Z). all_of (map g ys)) (take_more zs i d within)
    ∙ ap (λ (os : List (Option A)). all_of os) (map-append g (take i zs) (get_or zs i d ∷ []))
    ∙ ap (λ (o : Option A). all_of (map g (take i zs) ++ o ∷ [])) here
    ∙ all_of-push (map g (take i zs)) list x before

-- one that is not there
pub found_none : {Z A : Type 0} (g : Z → Option A) (zs : List Z) (i : ℕ) (d : Z) → i < length zs → g (get_or zs i d) ≡ None → all_of (map g zs) ≡ None
found_none {Z} {A} g zs i d within here =
    sym (ap (λ (ys : List Z). all_of (map g ys)) (take-append-drop i zs))
    ∙ ap (λ (ys : List Z). all_of (map g (take i zs ++ ys))) (drop_more zs i d within)
    ∙ ap (λ (os : List (Option A)). all_of os) (map-append g (take i zs) (get_or zs i d ∷ drop (i + 1) zs))
    ∙ ap (λ (o : Option A). all_of (map g (take i zs) ++ o ∷ map g (drop (i + 1) zs))) here
    ∙ all_of-none (map g (take i zs)) (map g (drop (i + 1) zs))

-- all of them
pub found_all : {Z A : Type 0} (g : Z → Option A) (zs : List Z) (i : ℕ) (list : List A) → length zs ≤ i → all_of (map g (take i zs)) ≡ Some list → all_of (map g zs) ≡ Some list
found_all {Z} g zs i list past before = sym (ap (λ (ys : List Z). all_of (map g ys)) (take_all i zs past)) ∙ before

-- one more row
pub rows_more : {A : Type 0} (f : ℕ → List (List ℕ)) (rows : List (Vec Expanded A)) (row : Vec Expanded A) (n : ℕ) → rows_shown rows ≡ map f (range_with_len 1 n) → ends_shown row.items ≡ f (n + 1) → rows_shown (rows ++ row ∷ []) ≡ map f (range_with_len 1 (n + 1))
rows_more {A} f rows row n before here =
    map-append (λ (r : Vec Expanded A). ends_shown r.items) rows (row ∷ [])
    ∙ ap (λ (ls : List (List (List ℕ))). ls ++ ends_shown row.items ∷ []) before
    ∙ ap (λ (es : List (List ℕ)). map f (range_with_len 1 n) ++ es ∷ []) here
    ∙ sym (map-range_with_len_more f 1 n (n + 1) (omega arith))

-- the tick that ends at a place of a feeder
pub tick_here : (row : List Expanded) (places : List ℕ) (i place : ℕ) (e : Expanded) (tick : Option ℕ) → i < length row → i < length places → e ≡ get_or row i e → place ≡ get_or places i 0 → tick ≡ tick_ending e.ends.items place
    → tick_ending (get_or (zip (ends_shown row) places) i ([], 0)).0 (get_or (zip (ends_shown row) places) i ([], 0)).1 ≡ tick
tick_here row places i place e tick inside within here at is =
    ap (λ (p : List ℕ × ℕ). tick_ending p.0 p.1) (get_or-zip (ends_shown row) places i ([], 0) (omega (arith, length-map row (λ (x : Expanded). x.ends.items))) within)
    ∙ ap (λ (es : List ℕ). tick_ending es (get_or places i 0)) (get_or-map (λ (x : Expanded). x.ends.items) row i e [] inside ∙ ap (λ (x : Expanded). x.ends.items) (sym here))
    ∙ ap (tick_ending e.ends.items) (sym at)
    ∙ sym is

-- the ticks that end at the places of a monitor
pub ticks_here : {A : Type 0} (rows : List (Vec Expanded A)) (cut : List (List ℕ)) (i : ℕ) (places : List ℕ) (row : Vec Expanded A) (shown : List (List ℕ)) (ticks : Option (List ℕ)) → i < length rows → i < length cut → row ≡ get_or rows i row → places ≡ get_or cut i []
    → shown ≡ ends_shown row.items → ticks ≡ ticks_in shown places
    → ticks_in (get_or (zip (rows_shown rows) cut) i ([], [])).0 (get_or (zip (rows_shown rows) cut) i ([], [])).1 ≡ ticks
ticks_here {A} rows cut i places row shown ticks inside within here at same is =
    ap (λ (p : List (List ℕ) × List ℕ). ticks_in p.0 p.1) (get_or-zip (rows_shown rows) cut i ([], []) (omega (arith, length-map rows (λ (r : Vec Expanded A). ends_shown r.items))) within)
    ∙ ap (λ (es : List (List ℕ)). ticks_in es (get_or cut i [])) (get_or-map (λ (r : Vec Expanded A). ends_shown r.items) rows i row [] inside ∙ ap (λ (r : Vec Expanded A). ends_shown r.items) (sym here) ∙ sym same)
    ∙ ap (ticks_in shown) (sym at)
    ∙ sym is

-- how many pairs there are
pub length-pairs : (row : List Expanded) (places : List ℕ) → length (zip (ends_shown row) places) ≡ min (length row) (length places)
length-pairs row places = length-zip (ends_shown row) places ∙ ap (λ n. min n (length places)) (length-map row (λ (x : Expanded). x.ends.items))

pub length-rows : {A : Type 0} (rows : List (Vec Expanded A)) (cut : List (List ℕ)) → length (zip (rows_shown rows) cut) ≡ min (length rows) (length cut)
length-rows {A} rows cut = length-zip (rows_shown rows) cut ∙ ap (λ n. min n (length cut)) (length-map rows (λ (r : Vec Expanded A). ends_shown r.items))
