-- Sums of the changes of one object, and their sizes.
use Rattle.std.proofs.Common.{◌≡◌, ℕ, suc, zero, ◌+◌, ◌*◌, ◌<◌, ◌≤◌, ◌^◌, ℤ, pos, ◌+ℤ◌, unsigned_abs, List, [], ◌∷◌, ◌++◌, length, map, take, get_or, Bool, true, false, cond, refl, sym, ap, ◌∙◌, subst, arith, append-nil}
use Rattle.std.specs.Prelude.{◌==◌, filter, sum_by, zip}
use Rattle.std.proofs.lemmas.Int.{ints}
use Rattle.std.proofs.lemmas.List.{take_more, length-take, get_or-take}
use Rattle.std.proofs.lemmas.List.Elements.{filter_more}
use Rattle.std.proofs.lemmas.List.Sums.{fold_push, sum_by-cons, sum_by_more, sum_by_more_le, sum_by-take-le}
use Rattle.tk_base.specs.Sum.{int_sum}
use Rattle.std.proofs.lemmas.Slice.Zip.{get_or-zip, length-zip}
use Rattle.tk_base.proofs.SumLemmas.{int_sum-cons}
use Rattle.tk_input.specs.Logs.{sum_for, total, weight_for, weight_of, value_of}
use Rattle.tk_input.specs.Rows.{size_at}

pub int_sum-push : (xs : List ℤ) (x : ℤ) → int_sum (xs ++ x ∷ []) ≡ int_sum xs +ℤ x
int_sum-push xs x = fold_push ◌+ℤ◌ (pos 0) xs x

weight_step : (o : ℕ) (c : ℕ × ℤ) (cs : List (ℕ × ℤ)) (b : Bool) → (c.0 == o) ≡ b → weight_for o cs ≡ sum_by (size_at o) cs → weight_for o (c ∷ cs) ≡ size_at o c + sum_by (size_at o) cs
weight_step o c cs true e later =
    ap (λ b. sum_by (λ (d : ℕ × ℤ). unsigned_abs d.1) (cond b (c ∷ filter (λ d. d.0 == o) cs) (filter (λ d. d.0 == o) cs))) e
    ∙ sum_by-cons (λ (d : ℕ × ℤ). unsigned_abs d.1) c (filter (λ d. d.0 == o) cs)
    ∙ ap (λ n. unsigned_abs c.1 + n) later
    ∙ ap (λ b. cond b (unsigned_abs c.1) 0 + sum_by (size_at o) cs) (sym e)
weight_step o c cs false e later =
    ap (λ b. sum_by (λ (d : ℕ × ℤ). unsigned_abs d.1) (cond b (c ∷ filter (λ d. d.0 == o) cs) (filter (λ d. d.0 == o) cs))) e
    ∙ later
    ∙ omega arith
    ∙ ap (λ b. cond b (unsigned_abs c.1) 0 + sum_by (size_at o) cs) (sym e)

-- the weight of an object is a sum over all changes
pub weight_for-all : (o : ℕ) (cs : List (ℕ × ℤ)) → weight_for o cs ≡ sum_by (size_at o) cs
weight_for-all o [] = refl
weight_for-all o (c ∷ cs) = weight_step o c cs (c.0 == o) refl (weight_for-all o cs) ∙ sym (sum_by-cons (size_at o) c cs)

pub weight_for-take : (o n : ℕ) (cs : List (ℕ × ℤ)) → weight_for o (take n cs) ≤ weight_for o cs
weight_for-take o n cs = omega (arith, weight_for-all o (take n cs), weight_for-all o cs, sum_by-take-le (size_at o) cs n)

sum_step : (o : ℕ) (c : ℕ × ℤ) (cs : List (ℕ × ℤ)) (b : Bool) → (c.0 == o) ≡ b → sum_for o (c ∷ cs) ≡ cond b (c.1 +ℤ sum_for o cs) (sum_for o cs)
sum_step o c cs true e =
    ap (λ b. int_sum (map (λ (d : ℕ × ℤ). d.1) (cond b (c ∷ filter (λ d. d.0 == o) cs) (filter (λ d. d.0 == o) cs)))) e
    ∙ int_sum-cons c.1 (map (λ (d : ℕ × ℤ). d.1) (filter (λ d. d.0 == o) cs))
sum_step o c cs false e =
    ap (λ b. int_sum (map (λ (d : ℕ × ℤ). d.1) (cond b (c ∷ filter (λ d. d.0 == o) cs) (filter (λ d. d.0 == o) cs)))) e

size_step : (o : ℕ) (c : ℕ × ℤ) (cs : List (ℕ × ℤ)) (b : Bool) → (c.0 == o) ≡ b → unsigned_abs (sum_for o cs) ≤ weight_for o cs → unsigned_abs (sum_for o (c ∷ cs)) ≤ size_at o c + weight_for o cs
size_step o c cs true e later =
    let sums : sum_for o (c ∷ cs) ≡ c.1 +ℤ sum_for o cs = sum_step o c cs true e in
    let here : cond (c.0 == o) (unsigned_abs c.1) 0 ≡ unsigned_abs c.1 = ap (λ b. cond b (unsigned_abs c.1) 0) e in
    let s = sum_for o cs in
    omega (arith, ints, sums, here, later)
size_step o c cs false e later =
    let sums : sum_for o (c ∷ cs) ≡ sum_for o cs = sum_step o c cs false e in
    let same : unsigned_abs (sum_for o (c ∷ cs)) ≡ unsigned_abs (sum_for o cs) = ap (λ z. unsigned_abs z) sums in
    omega (arith, same, later)

-- a sum is no greater in size than the sizes
pub sum_for-size : (o : ℕ) (cs : List (ℕ × ℤ)) → unsigned_abs (sum_for o cs) ≤ weight_for o cs
sum_for-size o [] = omega arith
sum_for-size o (c ∷ cs) =
    let step = size_step o c cs (c.0 == o) refl (sum_for-size o cs) in
    omega (arith, step, weight_for-all o (c ∷ cs), weight_for-all o cs, sum_by-cons (size_at o) c cs)

-- by how much a change changes the object
abbrev pub by_at : ℕ → ℕ × ℤ → ℤ
by_at o c = cond (c.0 == o) c.1 (pos 0)

map-push : {X Y : Type 0} (f : X → Y) (xs : List X) (x : X) → map f (xs ++ x ∷ []) ≡ map f xs ++ f x ∷ []
map-push f [] x = refl
map-push f (y ∷ ys) x = ap (λ rest. f y ∷ rest) (map-push f ys x)

sum_push : (xs : List (ℕ × ℤ)) (c : ℕ × ℤ) (b : Bool) → int_sum (map (λ (d : ℕ × ℤ). d.1) (xs ++ cond b (c ∷ []) [])) ≡ int_sum (map (λ (d : ℕ × ℤ). d.1) xs) +ℤ cond b c.1 (pos 0)
sum_push xs c true = ap int_sum (map-push (λ (d : ℕ × ℤ). d.1) xs c) ∙ int_sum-push (map (λ (d : ℕ × ℤ). d.1) xs) c.1
sum_push xs c false =
    let same = ap (λ (ys : List (ℕ × ℤ)). int_sum (map (λ d. d.1) ys)) (append-nil xs) in
    let s = int_sum (map (λ (d : ℕ × ℤ). d.1) xs) in
    omega (arith, ints, same)

-- one more change
pub sum_for-more : (o : ℕ) (cs : List (ℕ × ℤ)) (i : ℕ) (d : ℕ × ℤ) → i < length cs → sum_for o (take (i + 1) cs) ≡ sum_for o (take i cs) +ℤ by_at o (get_or cs i d)
sum_for-more o cs i d within =
    ap (λ (xs : List (ℕ × ℤ)). int_sum (map (λ c. c.1) xs)) (filter_more (λ c. c.0 == o) cs i d within)
    ∙ sum_push (filter (λ c. c.0 == o) (take i cs)) (get_or cs i d) ((get_or cs i d).0 == o)

pub weight_for-more : (o : ℕ) (cs : List (ℕ × ℤ)) (i : ℕ) (d : ℕ × ℤ) → i < length cs → weight_for o (take (i + 1) cs) ≡ weight_for o (take i cs) + size_at o (get_or cs i d)
weight_for-more o cs i d within = omega (arith, weight_for-all o (take (i + 1) cs), weight_for-all o (take i cs), sum_by_more (size_at o) cs i d within)

value_step : (n m : ℕ) (s t : ℤ) → unsigned_abs s ≤ n → unsigned_abs t ≤ m → unsigned_abs (s +ℤ t) ≤ n + m
value_step n m s t a b = omega (arith, ints, a, b)

-- the value at a monitor is no greater in size than the weight there
pub value_of-size : (parts : List (List (ℕ × ℤ))) (places : List ℕ) (o : ℕ) → unsigned_abs (value_of parts places o) ≤ weight_of parts o
value_of-size [] places o = omega arith
value_of-size (part ∷ parts) [] o = omega arith
value_of-size (part ∷ parts) (place ∷ places) o =
    let s = sum_for o (take place part) in
    let sums = int_sum-cons s (map (λ p. sum_for o (take p.1 p.0)) (zip parts places)) in
    let here = sum_for-size o (take place part) in
    let fits = weight_for-take o place part in
    let later = value_of-size parts places o in
    let both = value_step (weight_for o part) (weight_of parts o) s (value_of parts places o) (omega arith) later in
    omega (arith, both, ap (λ z. unsigned_abs z) sums, sum_by-cons (weight_for o) part parts)

-- the fronts of two lists beside each other
pub zip-take : {A B : Type 0} (n : ℕ) (xs : List A) (ys : List B) → zip (take n xs) (take n ys) ≡ take n (zip xs ys)
zip-take zero xs ys = refl
zip-take (suc n) [] ys = refl
zip-take (suc n) (x ∷ xs) [] = refl
zip-take (suc n) (x ∷ xs) (y ∷ ys) = ap (λ rest. (x, y) ∷ rest) (zip-take n xs ys)

-- a sum over two lists beside each other, with one more pair
pub int_sum-zip_more : {A B : Type 0} (h : A × B → ℤ) (xs : List A) (ys : List B) (i : ℕ) (d : A) (e : B) → i < length xs → i < length ys → int_sum (map h (zip (take (i + 1) xs) (take (i + 1) ys))) ≡ int_sum (map h (zip (take i xs) (take i ys))) +ℤ h (get_or xs i d, get_or ys i e)
int_sum-zip_more {A} {B} h xs ys i d e left right =
    let within : i < length (zip xs ys) = omega (arith, length-zip xs ys) in
    ap (λ (ps : List (A × B)). int_sum (map h ps)) (zip-take (i + 1) xs ys ∙ take_more (zip xs ys) i (d, e) within)
    ∙ ap int_sum (map-push h (take i (zip xs ys)) (get_or (zip xs ys) i (d, e)))
    ∙ int_sum-push (map h (take i (zip xs ys))) (h (get_or (zip xs ys) i (d, e)))
    ∙ ap (λ (p : A × B). int_sum (map h (take i (zip xs ys))) +ℤ h p) (get_or-zip xs ys i (d, e) left right)
    ∙ ap (λ (ps : List (A × B)). int_sum (map h ps) +ℤ h (get_or xs i d, get_or ys i e)) (sym (zip-take i xs ys))

-- the value in a front of the parts
pub value_of-front : (parts : List (List (ℕ × ℤ))) (places : List ℕ) (o n : ℕ) → unsigned_abs (value_of (take n parts) (take n places) o) ≤ weight_of parts o
value_of-front parts places o n = omega (arith, value_of-size (take n parts) (take n places) o, sum_by-take-le (weight_for o) parts n)

-- no part weighs more than all of them
pub weight_of-part : (parts : List (List (ℕ × ℤ))) (o i : ℕ) → i < length parts → weight_for o (get_or parts i []) ≤ weight_of parts o
weight_of-part parts o i within = omega (arith, sum_by_more_le (weight_for o) parts i [] within)

-- a total is no greater in size than its values together
pub total-size : (logs : List (List (List (ℕ × ℤ)))) (cut : List (List ℕ)) (o : ℕ) → ((j : ℕ) → j < length logs → weight_of (get_or logs j []) o ≤ 2 ^ 100) → unsigned_abs (total logs o cut) ≤ length logs * 2 ^ 100
total-size [] cut o each = omega arith
total-size (parts ∷ logs) [] o each = omega arith
total-size (parts ∷ logs) (places ∷ cut) o each =
    let here = value_of-size parts places o in
    let limit = each 0 (omega arith) in
    let sums = int_sum-cons (value_of parts places o) (map (λ p. value_of p.0 p.1 o) (zip logs cut)) in
    let later = total-size logs cut o (λ j within. each (suc j) (omega arith)) in
    let both = value_step (2 ^ 100) (length logs * 2 ^ 100) (value_of parts places o) (total logs o cut) (omega arith) later in
    omega (arith, both, ap (λ z. unsigned_abs z) sums)

-- the same of a front of the logs
pub total-front : (logs : List (List (List (ℕ × ℤ)))) (cut : List (List ℕ)) (o n : ℕ) → length logs ≤ 64 → ((j : ℕ) → j < length logs → weight_of (get_or logs j []) o ≤ 2 ^ 100) → unsigned_abs (total (take n logs) o (take n cut)) ≤ 64 * 2 ^ 100
total-front logs cut o n few each =
    let size = total-size (take n logs) (take n cut) o (λ j within.
    let short : j < n = omega (arith, length-take n logs) in
    let inside : j < length logs = omega (arith, length-take n logs) in
    subst (λ (parts : List (List (ℕ × ℤ))). weight_of parts o ≤ 2 ^ 100) (sym (get_or-take n logs j [] short)) (each j inside)) in
    omega (arith, size, length-take n logs)
