-- Counts over a list, its fronts, and what is sorted.
use Rattle.std.proofs.Common.{◌≡◌, ℕ, suc, zero, ◌+◌, ◌-◌, ◌<◌, ◌≤◌, List, [], ◌∷◌, length, map, take, drop, get_or, Bool, true, false, cond, not, nat_lt, refl, sym, ap, ◌∙◌, subst, arith, eq-eqb, ne_eqb, inl, inr}
use Rattle.std.specs.Prelude.{◌==◌}
use Rattle.std.specs.Cmp.{IsStrictWeakOrder}
use Rattle.std.specs.List.{count_by}
use Rattle.std.specs.List.Sorted.{IsSortedBy}
use Rattle.std.proofs.lemmas.Bool.{cases_eq, cases_Bool, true≢false, true_from_ne_false, le-ltb, lt-ltb}
use Rattle.std.proofs.lemmas.List.{length-take-le, get_or-take, get_or-drop, length-drop, get_or_default}
use Rattle.std.proofs.lemmas.List.Sums.{sum_by-cons, sum_by-take-drop, count_by-le-length, get_or-le-sum_by}
use Rattle.std.proofs.lemmas.List.Sorted.{sorted_far}
use Rattle.tk_rows.proofs.WritingLemmas.{AreApart}

pub count_front : {X : Type 0} (p : X → Bool) (xs : List X) (n : ℕ) → n ≤ length xs → ((j : ℕ) (d : X) → j < n → p (get_or xs j d) ≡ true) → count_by p (take n xs) ≡ n
count_front p xs zero h all = refl
count_front p [] (suc n) h all = absurd (omega arith)
count_front p (x ∷ xs) (suc n) h all =
    let one : cond (p x) 1 0 ≡ suc 0 = ap (λ b. cond b 1 0) (all 0 x (omega arith)) in
    let rest = count_front p xs n (omega arith) (λ j d below. all (suc j) d (omega arith)) in
    sum_by-cons (λ y. cond (p y) 1 0) x (take n xs) ∙ omega (arith, one, rest)

count_none : {X : Type 0} (p : X → Bool) (xs : List X) → ((j : ℕ) (d : X) → j < length xs → p (get_or xs j d) ≡ false) → count_by p xs ≡ 0
count_none p [] none = refl
count_none p (x ∷ xs) none =
    let one : cond (p x) (suc 0) 0 ≡ 0 = ap (λ b. cond b (suc 0) 0) (none 0 x (omega arith)) in
    let rest = count_none p xs (λ j d below. none (suc j) d (omega arith)) in
    sum_by-cons (λ y. cond (p y) 1 0) x xs ∙ omega (arith, one, rest)

pub count_rest : {X : Type 0} (p : X → Bool) (xs : List X) (n : ℕ) → ((j : ℕ) (d : X) → n ≤ j → j < length xs → p (get_or xs j d) ≡ false) → count_by p (drop n xs) ≡ 0
count_rest p xs zero none = count_none p xs (λ j d below. none j d (omega arith) below)
count_rest p [] (suc n) none = refl
count_rest p (x ∷ xs) (suc n) none = count_rest p xs n (λ j d above below. none (suc j) d (omega arith) (omega arith))

pub count_by-map : {X Y : Type 0} (p : Y → Bool) (f : X → Y) (xs : List X) → count_by p (map f xs) ≡ count_by (λ x. p (f x)) xs
count_by-map p f [] = refl
count_by-map p f (x ∷ xs) =
    sum_by-cons (λ y. cond (p y) 1 0) (f x) (map f xs) ∙ ap (λ (n : ℕ). cond (p (f x)) 1 0 + n) (count_by-map p f xs) ∙ sym (sum_by-cons (λ y. cond (p (f y)) 1 0) x xs)

-- what stands later in a sorted list does not come before
pub not_before : {X : Type 0} (lt : X → X → Bool) → IsStrictWeakOrder lt → (s : List X) (i j : ℕ) (last d : X) → IsSortedBy lt s → last ≡ get_or s i last → i ≤ j → j < length s → lt (get_or s j d) last ≡ false
not_before lt o s i j last d up is before within =
    let here : get_or s i d ≡ last = get_or_default s i d last (omega arith) ∙ sym is in
    subst (λ y. lt (get_or s j d) y ≡ false) here (sorted_far lt o s up i j d before within)

pub not_after : {X : Type 0} (lt : X → X → Bool) → IsStrictWeakOrder lt → (s : List X) (i j : ℕ) (last d : X) → IsSortedBy lt s → last ≡ get_or s i last → j ≤ i → i < length s → lt last (get_or s j d) ≡ false
not_after lt o s i j last d up is before within =
    let here : get_or s i d ≡ last = get_or_default s i d last within ∙ sym is in
    subst (λ y. lt y (get_or s j d) ≡ false) here (sorted_far lt o s up j i d before within)

-- at most i elements come before one that is not past the element at i
few_before : {X : Type 0} (lt : X → X → Bool) → IsStrictWeakOrder lt → (s : List X) (i : ℕ) (last x : X) → IsSortedBy lt s → i < length s → last ≡ get_or s i last → lt last x ≡ false → count_by (λ q. lt q x) s ≤ i
few_before lt o s i last x up within is early =
    let rest = count_rest (λ q. lt q x) s i (λ j d above below. o.chain (get_or s j d) last x (not_before lt o s i j last d up is above below) early) in
    let front = count_by-le-length (λ q. lt q x) (take i s) in
    omega (arith, rest, front, length-take-le i s (omega arith), sum_by-take-drop (λ q. cond (lt q x) 1 0) s i)

-- more than i come before one that is past it
many_before : {X : Type 0} (lt : X → X → Bool) → IsStrictWeakOrder lt → (s : List X) (i : ℕ) (last x : X) → IsSortedBy lt s → i < length s → last ≡ get_or s i last → lt last x ≡ true → i + 1 ≤ count_by (λ q. lt q x) s
many_before lt o s i last x up within is late =
    let front = count_front (λ q. lt q x) s (i + 1) (omega arith) (λ j d below.
    true_from_ne_false (lt (get_or s j d) x) (λ e. true≢false (sym late ∙ o.chain last (get_or s j d) x (not_after lt o s i j last d up is (omega arith) within) e))) in
    omega (arith, front, sum_by-take-drop (λ q. cond (lt q x) 1 0) s (i + 1))

-- so fewer than i + 1 come before an element exactly where it is not past the element at i
pub before_count : {X : Type 0} (lt : X → X → Bool) → IsStrictWeakOrder lt → (s : List X) (i : ℕ) (last x : X) → IsSortedBy lt s → i < length s → last ≡ get_or s i last → nat_lt (count_by (λ q. lt q x) s) (i + 1) ≡ not (lt last x)
before_count lt o s i last x up within is = elim (cases_Bool (lt last x)) [
  | inl late ↦ le-ltb (count_by (λ q. lt q x) s) (i + 1) (many_before lt o s i last x up within is late) ∙ sym (ap not late)
  | inr early ↦ lt-ltb (count_by (λ q. lt q x) s) (i + 1) (omega (arith, few_before lt o s i last x up within is early)) ∙ sym (ap not early)
]

-- where an ascending or otherwise distinct list has a number, it has it once
pub count_once : (xs : List ℕ) (o : ℕ) → AreApart xs → count_by (λ x. x == o) xs ≤ 1
count_once [] o apart = omega arith
count_once (x ∷ xs) o apart = elim (cases_eq x o) [
  | inl same ↦
      let rest : count_by (λ y. y == o) xs ≡ 0 = count_none (λ y. y == o) xs (λ j d below. ne_eqb (get_or xs j d) o (λ e. apart.0 (j, below, get_or_default xs j x d below ∙ e ∙ sym same))) in
      let one : cond (x == o) (suc 0) 0 ≡ 1 = ap (λ b. cond b (suc 0) 0) (eq-eqb x o same) in
      omega (arith, rest, one, sum_by-cons (λ y. cond (y == o) 1 0) x xs)
  | inr other ↦
      let one : cond (x == o) (suc 0) 0 ≡ 0 = ap (λ b. cond b (suc 0) 0) (ne_eqb x o other) in
      omega (arith, count_once xs o apart.1, one, sum_by-cons (λ y. cond (y == o) 1 0) x xs)
]

-- a number at two places is counted twice
pub count_twice : (xs : List ℕ) (o i j : ℕ) → i < j → j < length xs → get_or xs i 0 ≡ o → get_or xs j 0 ≡ o → 2 ≤ count_by (λ x. x == o) xs
count_twice xs o i j before within first second =
    let f : ℕ → ℕ = λ x. cond (x == o) 1 0 in
    let one : f (get_or (take (i + 1) xs) i 0) ≡ 1 = ap (λ b. cond b (suc 0) 0) (eq-eqb (get_or (take (i + 1) xs) i 0) o (get_or-take (i + 1) xs i 0 (omega arith) ∙ first)) in
    let same : i + 1 + (j - (i + 1)) ≡ j = omega arith in
    let two : f (get_or (drop (i + 1) xs) (j - (i + 1)) 0) ≡ 1 =
    ap (λ b. cond b (suc 0) 0) (eq-eqb (get_or (drop (i + 1) xs) (j - (i + 1)) 0) o (get_or-drop (i + 1) xs (j - (i + 1)) 0 ∙ ap (λ (m : ℕ). get_or xs m 0) same ∙ second)) in
    let left = get_or-le-sum_by f (take (i + 1) xs) i 0 (omega (arith, length-take-le (i + 1) xs (omega arith))) in
    let right = get_or-le-sum_by f (drop (i + 1) xs) (j - (i + 1)) 0 (omega (arith, length-drop (i + 1) xs)) in
    omega (arith, one, two, left, right, sum_by-take-drop f xs (i + 1))
