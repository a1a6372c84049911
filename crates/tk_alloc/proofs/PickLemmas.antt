-- The objects that go first, by a sorted list of candidates.
use Rattle.std.proofs.Common.{◌≡◌, ◌≢◌, ℕ, suc, zero, ◌+◌, ◌<◌, ◌≤◌, ℤ, ◌≤ℤ◌, ◌<ℤ◌, List, [], ◌∷◌, ◌++◌, length, map, take, get_or, Contains, Bool, true, false, cond, not, nat_lt, refl, sym, ap, ◌∙◌, subst, arith, inl, inr}
use Rattle.std.specs.Prelude.{◌==◌}
use Rattle.std.specs.Cmp.{IsTotalOrder, IsStrictWeakOrder, bool_cmp_total}
use Rattle.std.specs.declared.cmp.Ordering.{Ordering}
use Rattle.std.specs.declared.cmp.Ordering.TheVariants.{Less, Equal, Greater}
use Rattle.std.specs.Ordering.{int_cmp, nat_cmp, bool_cmp, ordering_then, ordering_reverse, is_lt, MatchOrdering}
use Rattle.std.specs.List.{count_by, filter}
use Rattle.std.specs.List.Sorted.{IsPermutation, IsSortedBy}
use Rattle.std.proofs.lemmas.Cmp.{int_cmp_total, nat_cmp_total, on_total, then_total, back_total, ranked}
use Rattle.std.proofs.lemmas.Bool.{cases_Bool, true≢false, true_from_ne_false}
use Rattle.std.proofs.lemmas.List.{length-map, get_or-map, get_or_default, map-append, append-nil}
use Rattle.std.proofs.lemmas.List.Sums.{length-filter, sum_by-take-drop, sum_by-le-sum_by}
use Rattle.std.proofs.lemmas.Int.{ints, by_lt_z}
use Rattle.std.proofs.lemmas.Bool.Decides.{nat_tests}
use Rattle.std.proofs.lemmas.List.Elements.{filter_agree, filter_more}
use Rattle.std.proofs.lemmas.List.Sorted.{ranks_by, sum_by-IsPermutation, IsPermutation-map}
use Rattle.tk_base.specs.Ascending.{IsAscending}
use Rattle.tk_base.specs.Objects.{is_in}
use Rattle.tk_base.specs.Pairs.{objects_of}
use Rattle.tk_rows.proofs.WritingLemmas.{ascending_are_apart}
use Rattle.tk_alloc.specs.declared.candidate.Candidate.{Candidate}
use Rattle.tk_alloc.specs.Candidates.{candidate, candidate_cmp, comes_first}
use Rattle.tk_alloc.specs.Pick.{goes_before, is_among_first, picked}
use Rattle.tk_alloc.proofs.Counts.{count_front, count_rest, count_by-map, before_count, not_after, not_before, count_once, count_twice}

pub candidates_total : IsTotalOrder candidate_cmp
candidates_total =
    then_total (on_total (λ (c : Candidate). c.total.0) (back_total int_cmp_total))
    (then_total (on_total (λ (c : Candidate). c.newcomer) bool_cmp_total) (on_total (λ (c : Candidate). c.obj) nat_cmp_total))

pub candidates_rank : IsStrictWeakOrder comes_first
candidates_rank = ranks_by candidates_total (λ (c : Candidate). c)

-- the candidates of a list of totals, sorted
pub record IsRanked (present : List ℕ) (totals : List (ℕ × ℤ)) (s : List Candidate) : Type 0 where
  pub all : IsPermutation (map (candidate present) totals) s
  pub order : IsSortedBy comes_first s

count_in_ranked : (present : List ℕ) (totals : List (ℕ × ℤ)) (s : List Candidate) (p : Candidate → Bool) → IsRanked present totals s → count_by p s ≡ count_by (λ q. p (candidate present q)) totals
count_in_ranked present totals s p r =
    sum_by-IsPermutation (λ c. cond (p c) 1 0) (map (candidate present) totals) s r.all ∙ count_by-map p (candidate present) totals

-- an object is among the first exactly where its candidate is not past the last of them
pub among_first_is : (present : List ℕ) (totals : List (ℕ × ℤ)) (s : List Candidate) (i : ℕ) (last : Candidate) (p : ℕ × ℤ) → IsRanked present totals s → i < length s → last ≡ get_or s i last
    → is_among_first totals present (i + 1) p ≡ not (comes_first last (candidate present p))
among_first_is present totals s i last p r within is =
    ap (λ (n : ℕ). nat_lt n (i + 1)) (sym (count_in_ranked present totals s (λ c. comes_first c (candidate present p)) r))
    ∙ before_count comes_first candidates_rank s i last (candidate present p) r.order within is

pub picked_is : (present : List ℕ) (totals : List (ℕ × ℤ)) (s : List Candidate) (i : ℕ) (last : Candidate) → IsRanked present totals s → i < length s → last ≡ get_or s i last
    → picked totals present (i + 1) ≡ objects_of (filter (λ p. not (comes_first last (candidate present p))) totals)
unfolding picked
picked_is present totals s i last r within is =
    ap objects_of (filter_agree (is_among_first totals present (i + 1)) (λ p. not (comes_first last (candidate present p))) (λ p. among_first_is present totals s i last p r within is) totals)

then_equal : (a b : Ordering) → ordering_then a b ≡ Equal → (a ≡ Equal) × (b ≡ Equal)
then_equal Less b e = absurd (cc)
then_equal Equal b e = (refl, e)
then_equal Greater b e = absurd (cc)

equal_numbers : (x y : ℕ) → nat_cmp x y ≡ Equal → x ≡ y
equal_numbers x y e = subst (λ r. MatchOrdering r (x < y) (x ≡ y) (y < x)) e (ranked x y (nat_cmp x y) refl)

-- candidates that tie are of one object
ties_are_one : (a b : Candidate) → candidate_cmp a b ≡ Equal → a.obj ≡ b.obj
ties_are_one a b e = equal_numbers a.obj b.obj (then_equal (bool_cmp a.newcomer b.newcomer) (nat_cmp a.obj b.obj) (then_equal (int_cmp b.total.0 a.total.0) (ordering_then (bool_cmp a.newcomer b.newcomer) (nat_cmp a.obj b.obj)) e).1).1

reversed_before : (x y : Ordering) → y ≡ ordering_reverse x → (x ≡ Equal → ⊥) → is_lt y ≡ false → is_lt x ≡ true
reversed_before Less y e differ later = refl
reversed_before Equal y e differ later = absurd (differ refl)
reversed_before Greater y e differ later = absurd (true≢false (sym (ap is_lt e) ∙ later))

-- of two candidates with other objects, one that does not come first comes later
apart_before : (a b : Candidate) → a.obj ≢ b.obj → comes_first b a ≡ false → comes_first a b ≡ true
apart_before a b other later = reversed_before (candidate_cmp a b) (candidate_cmp b a) (candidates_total.antisymm b a) (λ e. other (ties_are_one a b e)) later

objects_ranked : (present : List ℕ) (totals : List (ℕ × ℤ)) → map (λ (c : Candidate). c.obj) (map (candidate present) totals) ≡ objects_of totals
objects_ranked present [] = refl
objects_ranked present (p ∷ totals) = ap (λ (xs : List ℕ). p.0 ∷ xs) (objects_ranked present totals)

-- no object has two candidates
ranked_apart : (present : List ℕ) (totals : List (ℕ × ℤ)) (s : List Candidate) (i j : ℕ) (d : Candidate) → IsRanked present totals s → IsAscending (objects_of totals) → i < j → j < length s
    → (get_or s i d).obj ≢ (get_or s j d).obj
ranked_apart present totals s i j d r up before within e =
    let f : Candidate → ℕ = λ c. c.obj in
    let o = (get_or s i d).obj in
    let moved : IsPermutation (objects_of totals) (map f s) = subst (λ xs. IsPermutation xs (map f s)) (objects_ranked present totals) (IsPermutation-map f (map (candidate present) totals) s r.all) in
    let once = count_once (objects_of totals) o (ascending_are_apart (objects_of totals) up) in
    let first : get_or (map f s) i 0 ≡ o = get_or-map f s i d 0 (omega arith) in
    let second : get_or (map f s) j 0 ≡ o = get_or-map f s j d 0 within ∙ sym e in
    let twice = count_twice (map f s) o i j before (omega (arith, length-map s f)) first second in
    absurd (omega (arith, once, twice, sum_by-IsPermutation (λ x. cond (x == o) 1 0) (objects_of totals) (map f s) moved))

-- the objects that go first are k
pub length-picked_ranked : (present : List ℕ) (totals : List (ℕ × ℤ)) (s : List Candidate) (i : ℕ) (last : Candidate) → IsRanked present totals s → IsAscending (objects_of totals) → i < length s → last ≡ get_or s i last
    → length (picked totals present (i + 1)) ≡ i + 1
length-picked_ranked present totals s i last r up within is =
    let keep : Candidate → Bool = λ c. not (comes_first last c) in
    let front = count_front keep s (i + 1) (omega arith) (λ j d below. ap not (not_after comes_first candidates_rank s i j last d r.order is (omega arith) within)) in
    let rest = count_rest keep s (i + 1) (λ j d above below.
    let here : get_or s i d ≡ last = get_or_default s i d last within ∙ sym is in
    let other : last.obj ≢ (get_or s j d).obj = λ e. ranked_apart present totals s i j d r up (omega arith) below (ap (λ (c : Candidate). c.obj) here ∙ e) in
    ap not (apart_before last (get_or s j d) other (not_before comes_first candidates_rank s i j last d r.order is (omega arith) below))) in
    ap length (picked_is present totals s i last r within is)
    ∙ length-map (filter (λ p. keep (candidate present p)) totals) (λ (p : ℕ × ℤ). p.0)
    ∙ length-filter (λ p. keep (candidate present p)) totals
    ∙ sym (count_in_ranked present totals s keep r)
    ∙ omega (arith, front, rest, sum_by-take-drop (λ c. cond (keep c) 1 0) s (i + 1))

-- one more object is kept, or left
pub kept_more : (keep : ℕ × ℤ → Bool) (totals : List (ℕ × ℤ)) (i : ℕ) (p : ℕ × ℤ) (xs : List ℕ) → i < length totals → p ≡ get_or totals i p → keep p ≡ true → xs ≡ objects_of (filter keep (take i totals))
    → xs ++ p.0 ∷ [] ≡ objects_of (filter keep (take (i + 1) totals))
kept_more keep totals i p xs within is kept before =
    let more : filter keep (take (i + 1) totals) ≡ filter keep (take i totals) ++ p ∷ [] =
    filter_more keep totals i p within ∙ ap (λ (q : ℕ × ℤ). filter keep (take i totals) ++ cond (keep q) (q ∷ []) []) (sym is) ∙ ap (λ b. filter keep (take i totals) ++ cond b (p ∷ []) []) kept in
    ap (λ (ys : List ℕ). ys ++ p.0 ∷ []) before ∙ sym (map-append (λ (q : ℕ × ℤ). q.0) (filter keep (take i totals)) (p ∷ [])) ∙ sym (ap objects_of more)

pub left_more : (keep : ℕ × ℤ → Bool) (totals : List (ℕ × ℤ)) (i : ℕ) (p : ℕ × ℤ) (xs : List ℕ) → i < length totals → p ≡ get_or totals i p → keep p ≡ false → xs ≡ objects_of (filter keep (take i totals))
    → xs ≡ objects_of (filter keep (take (i + 1) totals))
left_more keep totals i p xs within is left before =
    let more : filter keep (take (i + 1) totals) ≡ filter keep (take i totals) ++ [] =
    filter_more keep totals i p within ∙ ap (λ (q : ℕ × ℤ). filter keep (take i totals) ++ cond (keep q) (q ∷ []) []) (sym is) ∙ ap (λ b. filter keep (take i totals) ++ cond b (p ∷ []) []) left in
    before ∙ sym (ap objects_of (more ∙ append-nil (filter keep (take i totals))))

-- ---- the greatest totals

later : (o : ℕ) (objects : List ℕ) (t : ℕ) → Contains objects t → Contains (o ∷ objects) t
later o objects t (k, within, is) = (suc k, omega arith, is)

kept_step : (g : ℕ → ℤ) (keep : ℕ × ℤ → Bool) (o : ℕ) (objects : List ℕ) (t : ℕ) (b : Bool) → keep (o, g o) ≡ b
    → Contains (objects_of (cond b ((o, g o) ∷ filter keep (map (λ q. (q, g q)) objects)) (filter keep (map (λ q. (q, g q)) objects)))) t
    → (Contains (objects_of (filter keep (map (λ q. (q, g q)) objects))) t → (keep (t, g t) ≡ true) × Contains objects t) → (keep (t, g t) ≡ true) × Contains (o ∷ objects) t
kept_step g keep o objects t true e (zero, within, is) rest = (sym (ap (λ (q : ℕ). keep (q, g q)) is) ∙ e, (zero, omega arith, is))
kept_step g keep o objects t true e (suc k, within, is) rest = let told = rest (k, omega arith, is) in (told.0, later o objects t told.1)
kept_step g keep o objects t false e found rest = let told = rest found in (told.0, later o objects t told.1)

int_less : (x y : ℤ) → x <ℤ y → int_cmp x y ≡ Less
int_less x y h = grind (arith, ints)

bits_order : (a b : Bool) → (a ≡ true → b ≡ true) → cond a 1 0 ≤ cond b 1 0
bits_order true true h = omega arith
bits_order true false h = absurd (true≢false (sym (h refl)))
bits_order false true h = omega arith
bits_order false false h = omega arith

still_below : (a b k : ℕ) → a ≤ b → nat_lt b k ≡ true → nat_lt a k ≡ true
still_below a b k h e = grind (arith, nat_tests)

-- what a filter of numbers put under objects keeps
kept_is : (g : ℕ → ℤ) (keep : ℕ × ℤ → Bool) (objects : List ℕ) (t : ℕ) → Contains (objects_of (filter keep (map (λ o. (o, g o)) objects))) t → (keep (t, g t) ≡ true) × Contains objects t
kept_is g keep [] t (k, within, is) = absurd (omega arith)
kept_is g keep (o ∷ objects) t found =
    let rest = filter keep (map (λ q. (q, g q)) objects) in
    let step : (b : Bool) → keep (o, g o) ≡ b → Contains (objects_of (cond b ((o, g o) ∷ rest) rest)) t → (keep (t, g t) ≡ true) × Contains (o ∷ objects) t = λ b e at. kept_step g keep o objects t b e at (kept_is g keep objects t) in
    step (keep (o, g o)) refl found

-- an object of those, if its pair is kept
is_kept : (g : ℕ → ℤ) (keep : ℕ × ℤ → Bool) (objects : List ℕ) (s : ℕ) → Contains objects s → keep (s, g s) ≡ true → Contains (objects_of (filter keep (map (λ o. (o, g o)) objects))) s
is_kept g keep [] s (k, within, is) kept = absurd (omega arith)
is_kept g keep (o ∷ objects) s (zero, within, is) kept =
    let here : keep (o, g o) ≡ true = ap (λ (q : ℕ). keep (q, g q)) is ∙ kept in
    subst (λ b. Contains (objects_of (cond b ((o, g o) ∷ filter keep (map (λ q. (q, g q)) objects)) (filter keep (map (λ q. (q, g q)) objects)))) s) (sym here) (zero, omega arith, is)
is_kept g keep (o ∷ objects) s (suc k, within, is) kept =
    let rest = is_kept g keep objects s (k, omega arith, is) kept in
    elim (cases_Bool (keep (o, g o))) [
      | inl here ↦ subst (λ b. Contains (objects_of (cond b ((o, g o) ∷ filter keep (map (λ q. (q, g q)) objects)) (filter keep (map (λ q. (q, g q)) objects)))) s) (sym here) (later o (objects_of (filter keep (map (λ q. (q, g q)) objects))) s rest)
      | inr gone ↦ subst (λ b. Contains (objects_of (cond b ((o, g o) ∷ filter keep (map (λ q. (q, g q)) objects)) (filter keep (map (λ q. (q, g q)) objects)))) s) (sym gone) rest
    ]

-- an object with a greater total goes before
greater_first : (present : List ℕ) (p q : ℕ × ℤ) → q.1 <ℤ p.1 → goes_before present p q ≡ true
greater_first present p q more =
    let less : int_cmp q.1 p.1 ≡ Less = int_less q.1 p.1 more in
    ap (λ (r : Ordering). is_lt (ordering_then r (ordering_then (bool_cmp (not (is_in present p.0)) (not (is_in present q.0))) (nat_cmp p.0 q.0)))) less

-- where one goes before another, what goes before it goes before that too
fewer_before : (present : List ℕ) (totals : List (ℕ × ℤ)) (p q : ℕ × ℤ) → goes_before present p q ≡ true → count_by (λ x. goes_before present x p) totals ≤ count_by (λ x. goes_before present x q) totals
fewer_before present totals p q first =
    sum_by-le-sum_by (λ x. cond (goes_before present x p) 1 0) (λ x. cond (goes_before present x q) 1 0) totals (λ x.
    bits_order (goes_before present x p) (goes_before present x q) (λ e.
    true_from_ne_false (goes_before present x q) (λ f.
    true≢false (sym e ∙ candidates_rank.chain (candidate present x) (candidate present q) (candidate present p) f (candidates_rank.one_way (candidate present p) (candidate present q) first)))))

-- no object that is left out has a greater total than one that is picked
pub picked_greatest : (g : ℕ → ℤ) (present objects : List ℕ) (k t s : ℕ) → Contains (picked (map (λ o. (o, g o)) objects) present k) t → Contains objects s → (Contains (picked (map (λ o. (o, g o)) objects) present k) s → ⊥) → g s ≤ℤ g t
unfolding picked
picked_greatest g present objects k t s in' of out =
    let totals = map (λ o. (o, g o)) objects in
    let keep = is_among_first totals present k in
    let kept = kept_is g keep objects t in' in
    by_lt_z (g t) (g s)
    (λ more. absurd (out (is_kept g keep objects s of (still_below (count_by (λ x. goes_before present x (s, g s)) totals) (count_by (λ x. goes_before present x (t, g t)) totals) k
    (fewer_before present totals (s, g s) (t, g t) (greater_first present (s, g s) (t, g t) more)) kept.0))))
    (λ fine. fine)

-- those that are picked are of the objects
pub picked_of : (g : ℕ → ℤ) (present objects : List ℕ) (k t : ℕ) → Contains (picked (map (λ o. (o, g o)) objects) present k) t → Contains objects t
unfolding picked
picked_of g present objects k t in' = (kept_is g (is_among_first (map (λ o. (o, g o)) objects) present k) objects t in').1
