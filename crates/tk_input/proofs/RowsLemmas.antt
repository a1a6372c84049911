-- Rows of parts as lists.
use Rattle.std.proofs.Common.{◌≡◌, ℕ, zero, suc, ◌+◌, ◌<◌, ℤ, Bool, false, not, cond, Option, Some, None, option_map, List, [], ◌∷◌, ◌++◌, length, map, get_or, Vec, refl, sym, ap, ◌∙◌, arith, add-one}
use Rattle.std.specs.Prelude.{nat_lt, position, ◌==◌, if◌then◌else◌}
use Rattle.std.specs.List.{position_or_len, range_with_len}
use Rattle.std.proofs.lemmas.List.{get_or-map, length-map, map-append}
use Rattle.tk_input.specs.Judged.{first_at, first_gap}
use Rattle.tk_input.specs.Rows.{logs_in}

pub length-logs_in : {A : Type 0} (rows : List (Vec (List (ℕ × ℤ)) A)) → length (logs_in rows) ≡ length rows
length-logs_in {A} rows = length-map rows (λ (row : Vec (List (ℕ × ℤ)) A). row.items)

pub get_or-logs_in : {A : Type 0} (rows : List (Vec (List (ℕ × ℤ)) A)) (i : ℕ) (d : Vec (List (ℕ × ℤ)) A) → i < length rows → get_or (logs_in rows) i [] ≡ (get_or rows i d).items
get_or-logs_in {A} rows i d within = get_or-map (λ (row : Vec (List (ℕ × ℤ)) A). row.items) rows i d [] within

position_or_len-map : {X Y : Type 0} (f : X → Y) (p : Y → Bool) (xs : List X) → position_or_len p (map f xs) ≡ position_or_len (λ x. p (f x)) xs
position_or_len-map f p [] = refl
position_or_len-map f p (x ∷ xs) = ap (λ (n : ℕ). cond (not (p (f x))) (1 + n) 0) (position_or_len-map f p xs)

-- a place among values is one among what they come from
pub position-map : {X Y : Type 0} (f : X → Y) (p : Y → Bool) (xs : List X) → position p (map f xs) ≡ position (λ x. p (f x)) xs
position-map f p xs =
    ap (λ (n : ℕ). cond (nat_lt n (length (map f xs))) (Some n) None) (position_or_len-map f p xs)
    ∙ ap (λ (n : ℕ). cond (nat_lt (position_or_len (λ x. p (f x)) xs) n) (Some (position_or_len (λ x. p (f x)) xs)) None) (length-map xs f)

-- the monitor of the first row that passes
pub first_row : {A : Type 0} (p : List (List (ℕ × ℤ)) → Bool) (rows : List (Vec (List (ℕ × ℤ)) A)) (place : Option ℕ) → place ≡ position (λ row. p row.items) rows → option_map (λ i. i + 1) place ≡ first_at p (logs_in rows)
first_row {A} p rows place is = ap (λ (o : Option ℕ). option_map (λ i. i + 1) o) (is ∙ sym (position-map (λ (row : Vec (List (ℕ × ℤ)) A). row.items) p rows))

pub gap_is : {A : Type 0} (rows : List (Vec (List (ℕ × ℤ)) A)) (place : Option ℕ) → (length rows == 0) ≡ false → place ≡ position (λ row. length row.items == 0) rows → option_map (λ i. i + 1) place ≡ first_gap (logs_in rows)
gap_is rows place some is =
    first_row (λ parts. length parts == 0) rows place is
    ∙ ap (λ (b : Bool). if b then Some 1 else first_at (λ parts. length parts == 0) (logs_in rows)) (sym (ap (λ (n : ℕ). n == 0) (length-logs_in rows) ∙ some))

map-range_more : {X : Type 0} (f : ℕ → X) (a n : ℕ) → map f (range_with_len a (suc n)) ≡ map f (range_with_len a n) ++ f (a + n) ∷ []
map-range_more f a zero = let same : a + 0 ≡ a = omega arith in ap (λ (m : ℕ). f m ∷ []) (sym same)
map-range_more f a (suc n) =
    let order : (a + 1) + n ≡ a + suc n = omega arith in
    ap (λ rest. f a ∷ rest) (map-range_more f (a + 1) n ∙ ap (λ (m : ℕ). map f (range_with_len (a + 1) n) ++ f m ∷ []) order)

-- one more row
pub rows_more : {A : Type 0} (f : ℕ → List (List (ℕ × ℤ))) (rows : List (Vec (List (ℕ × ℤ)) A)) (row : Vec (List (ℕ × ℤ)) A) (n : ℕ) → logs_in rows ≡ map f (range_with_len 1 n) → row.items ≡ f (n + 1) → logs_in (rows ++ row ∷ []) ≡ map f (range_with_len 1 (n + 1))
rows_more {A} f rows row n before here =
    let order : 1 + n ≡ n + 1 = omega arith in
    map-append (λ (r : Vec (List (ℕ × ℤ)) A). r.items) rows (row ∷ [])
    ∙ ap (λ (ls : List (List (List (ℕ × ℤ)))). ls ++ row.items ∷ []) before
    ∙ ap (λ (ps : List (List (ℕ × ℤ))). map f (range_with_len 1 n) ++ ps ∷ []) (here ∙ ap f (sym order))
    ∙ sym (map-range_more f 1 n)
    ∙ ap (λ (m : ℕ). map f (range_with_len 1 m)) (sym (add-one n))
