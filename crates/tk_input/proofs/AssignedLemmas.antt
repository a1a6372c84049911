-- The parts of each monitor, as the list from which logs are made.
use Rattle.std.specs.Prelude.{filter, ◌==◌, fold}
use Rattle.std.specs.List.{range_with_len}
use Rattle.std.proofs.Common.{◌≡◌, ℕ, ℤ, List, [], ◌∷◌, refl, ap, ne_eqb, ◌+◌, ◌++◌, map, ◌∙◌, ◌<◌, arith, length, sym, append_assoc, ◌≤◌, max, All}
use Rattle.std.proofs.lemmas.Bool.{eq-eqb}
use Rattle.std.proofs.lemmas.List.{map-append, append-nil}
use Rattle.std.proofs.lemmas.List.Elements.{filter-append, All-head, All-tail}
use Rattle.std.proofs.lemmas.List.Sums.{fold-append}
use Rattle.tk_base.specs.declared.ids.Mon.{Mon}
use Rattle.tk_input.specs.Judged.{feeders_of, under, Assigned, assigned_from, last_monitor, logs_by_monitor}

-- the parts of the monitor under whose number they are listed
pub feeders_at : (mon at : ℕ) (parts : List (List (ℕ × ℤ))) → mon ≡ at → feeders_of (under mon parts) at ≡ parts
feeders_at mon at [] same = refl
feeders_at mon at (part ∷ parts) same = rw (eq-eqb mon at same) (ap (λ (ps : List (List (ℕ × ℤ))). part ∷ ps) (feeders_at mon at parts same))

-- another monitor has none of them
pub feeders_off : (mon at : ℕ) (parts : List (List (ℕ × ℤ))) → (mon ≡ at → ⊥) → feeders_of (under mon parts) at ≡ []
feeders_off mon at [] other = refl
feeders_off mon at (part ∷ parts) other = rw (ne_eqb mon at other) (feeders_off mon at parts other)

-- of two lists, the parts of a monitor in both
pub feeders_both : (xs ys : Assigned) (at : ℕ) → feeders_of (xs ++ ys) at ≡ feeders_of xs at ++ feeders_of ys at
feeders_both xs ys at = ap (map (λ (p : Mon × List (ℕ × ℤ)). p.1)) (filter-append (λ (p : Mon × List (ℕ × ℤ)). p.0.0 == at) xs ys) ∙ map-append (λ (p : Mon × List (ℕ × ℤ)). p.1) (filter (λ (p : Mon × List (ℕ × ℤ)). p.0.0 == at) xs) (filter (λ (p : Mon × List (ℕ × ℤ)). p.0.0 == at) ys)

-- a monitor below the first has no part
pub feeders_low : (first at : ℕ) (logs : List (List (List (ℕ × ℤ)))) → at < first → feeders_of (assigned_from first logs) at ≡ []
feeders_low first at [] below = refl
feeders_low first at (parts ∷ logs) below =
    feeders_both (under first parts) (assigned_from (first + 1) logs) at
    ∙ ap (λ (ps : List (List (ℕ × ℤ))). ps ++ feeders_of (assigned_from (first + 1) logs) at) (feeders_off first at parts (λ e. omega (arith, e, below)))
    ∙ feeders_low (first + 1) at logs (omega (arith, below))

-- the parts of one monitor more
pub assigned_push : (first : ℕ) (logs : List (List (List (ℕ × ℤ)))) (parts : List (List (ℕ × ℤ))) → assigned_from first (logs ++ parts ∷ []) ≡ assigned_from first logs ++ under (first + length logs) parts
assigned_push first [] parts = rw (append-nil (under first parts)) (ap (λ (n : ℕ). under n parts) (omega arith))
assigned_push first (row ∷ logs) parts =
    ap (λ (xs : Assigned). under first row ++ xs) (assigned_push (first + 1) logs parts)
    ∙ sym (append_assoc (under first row) (assigned_from (first + 1) logs) (under (first + 1 + length logs) parts))
    ∙ ap (λ (n : ℕ). (under first row ++ assigned_from (first + 1) logs) ++ under n parts) (omega arith)

-- the rows, from the first monitor on
rows_from : (first : ℕ) (logs : List (List (List (ℕ × ℤ)))) (before : Assigned) → ((at : ℕ) → first ≤ at → feeders_of before at ≡ []) → map (feeders_of (before ++ assigned_from first logs)) (range_with_len first (length logs)) ≡ logs
rows_from first [] before none = refl
rows_from first (parts ∷ logs) before none =
    let tail = assigned_from (first + 1) logs in
    let here : feeders_of (before ++ (under first parts ++ tail)) first ≡ parts =
    feeders_both before (under first parts ++ tail) first
    ∙ ap (λ (ps : List (List (ℕ × ℤ))). ps ++ feeders_of (under first parts ++ tail) first) (none first (omega arith))
    ∙ feeders_both (under first parts) tail first
    ∙ ap (λ (ps : List (List (ℕ × ℤ))). ps ++ feeders_of tail first) (feeders_at first first parts refl)
    ∙ ap (λ (ps : List (List (ℕ × ℤ))). parts ++ ps) (feeders_low (first + 1) first logs (omega arith))
    ∙ append-nil parts in
    let passed : (at : ℕ) → first + 1 ≤ at → feeders_of (before ++ under first parts) at ≡ [] = λ at above.
    feeders_both before (under first parts) at
    ∙ ap (λ (ps : List (List (ℕ × ℤ))). ps ++ feeders_of (under first parts) at) (none at (omega (arith, above)))
    ∙ feeders_off first at parts (λ e. omega (arith, e, above)) in
    let later : map (feeders_of (before ++ (under first parts ++ tail))) (range_with_len (first + 1) (length logs)) ≡ logs =
    ap (λ (all : Assigned). map (feeders_of all) (range_with_len (first + 1) (length logs))) (sym (append_assoc before (under first parts) tail))
    ∙ rows_from (first + 1) logs (before ++ under first parts) passed in
    rw (here, later) refl

-- the last monitor of parts that are all under one
last_of : (from mon : ℕ) (parts : List (List (ℕ × ℤ))) → 1 ≤ length parts → from ≤ mon → fold (λ last p. max last p.0.0) from (under mon parts) ≡ mon
last_of from mon [] some low = absurd (omega (arith, some))
last_of from mon (part ∷ []) some low = omega arith
last_of from mon (part ∷ (next ∷ parts)) some low = last_of (max from mon) mon (next ∷ parts) (omega arith) (omega (arith, low))

-- the last monitor of all
last_in : (from first : ℕ) (logs : List (List (List (ℕ × ℤ)))) → All (λ parts. 1 ≤ length parts) logs → from + 1 ≡ first → fold (λ last p. max last p.0.0) from (assigned_from first logs) + 1 ≡ first + length logs
last_in from first [] some next = omega (arith, next)
last_in from first (parts ∷ logs) some next =
    let step : ℕ → Mon × List (ℕ × ℤ) → ℕ = λ last p. max last p.0.0 in
    let tail = assigned_from (first + 1) logs in
    let here : fold step from (under first parts) ≡ first = last_of from first parts (All-head (λ parts. 1 ≤ length parts) parts logs some) (omega (arith, next)) in
    let whole : fold step from (under first parts ++ tail) ≡ fold step first tail = fold-append step from (under first parts) tail ∙ ap (λ (l : ℕ). fold step l tail) here in
    omega (arith, whole, last_in first (first + 1) logs (All-tail (λ parts. 1 ≤ length parts) parts logs some) refl)

-- parts that are listed row by row make logs of these rows
pub logs_again : (logs : List (List (List (ℕ × ℤ)))) → All (λ parts. 1 ≤ length parts) logs → logs_by_monitor (assigned_from 1 logs) ≡ logs
logs_again logs some =
    let last : last_monitor (assigned_from 1 logs) ≡ length logs = omega (arith, last_in 0 1 logs some refl) in
    ap (λ (n : ℕ). map (feeders_of (assigned_from 1 logs)) (range_with_len 1 n)) last ∙ rows_from 1 logs [] (λ at above. refl)
