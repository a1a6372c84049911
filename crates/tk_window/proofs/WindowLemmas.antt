-- At the end of each tick the expanded log sums to the window.
use Rattle.std.proofs.Common.{◌≡◌, ℕ, suc, zero, ◌+◌, ◌-◌, ◌<◌, ◌≤◌, ℤ, pos, ◌+ℤ◌, List, [], ◌∷◌, ◌++◌, length, map, take, drop, refl, sym, ap, subst, ◌∙◌, arith, inl, inr, append_assoc, length-append}
use Rattle.std.specs.Prelude.{neg_ℤ, flat_map, All}
use Rattle.std.specs.List.{range_with_len}
use Rattle.std.specs.List.Sorted.{IsNonDecreasing}
use Rattle.std.proofs.lemmas.Bool.{cases_lt}
use Rattle.std.proofs.lemmas.Int.{ints}
use Rattle.std.proofs.lemmas.List.{append-nil, get_or_past, map-id, take-append-drop, take-append-le, take-take, take_all}
use Rattle.std.proofs.lemmas.List.Concat.{flat_map-append}
use Rattle.std.proofs.lemmas.List.Elements.{All-append, All-map, All-nil}
use Rattle.std.proofs.lemmas.List.FromFn.{get_or-map-range_with_len, length-map-range_with_len, map-range_with_len_more}
use Rattle.tk_input.specs.Logs.{IsObject, sum_for}
use Rattle.tk_window.specs.Ticks.{AreOver}
use Rattle.tk_window.specs.Window.{SumsToWindow, changes_at, end_of, expansion, in_window, step_to, up_to, window_sum, withdrawn}
use Rattle.tk_window.proofs.SumLemmas.{sum_for-append, sum_for-withdrawn}

-- one more number of a range
pub range_more : (a n : ℕ) → range_with_len a (n + 1) ≡ range_with_len a n ++ (a + n) ∷ []
range_more a n =
    sym (map-id (range_with_len a (n + 1)))
    ∙ map-range_with_len_more (λ x. x) a n (a + n) refl
    ∙ ap (λ (xs : List ℕ). xs ++ (a + n) ∷ []) (map-id (range_with_len a n))

-- the steps to the next tick
pub up_to_more : (width : ℕ) (ticks : List (List (ℕ × ℤ))) (t : ℕ) → up_to width ticks (suc t) ≡ up_to width ticks t ++ step_to width ticks (suc t)
unfolding up_to
up_to_more width ticks t =
    let next : t + 1 ≡ suc t = omega arith in
    let number : 1 + t ≡ suc t = omega arith in
    ap (λ n. flat_map (step_to width ticks) (range_with_len 1 n)) (sym next)
    ∙ ap (λ (ts : List ℕ). flat_map (step_to width ticks) ts) (range_more 1 t)
    ∙ flat_map-append (step_to width ticks) (range_with_len 1 t) ((1 + t) ∷ [])
    ∙ ap (λ (cs : List (ℕ × ℤ)). flat_map (step_to width ticks) (range_with_len 1 t) ++ cs) (append-nil (step_to width ticks (1 + t)))
    ∙ ap (λ n. flat_map (step_to width ticks) (range_with_len 1 t) ++ step_to width ticks n) number

pub up_to_none : (width : ℕ) (ticks : List (List (ℕ × ℤ))) → up_to width ticks 0 ≡ []
unfolding up_to
up_to_none width ticks = refl

-- the same at t + 1
pub up_to_next : (width : ℕ) (ticks : List (List (ℕ × ℤ))) (t : ℕ) → up_to width ticks (t + 1) ≡ up_to width ticks t ++ step_to width ticks (t + 1)
up_to_next width ticks t =
    let next : suc t ≡ t + 1 = omega arith in
    subst (λ n. up_to width ticks n ≡ up_to width ticks t ++ step_to width ticks n) next (up_to_more width ticks t)

-- and how long they are
pub length-up_to_next : (width : ℕ) (ticks : List (List (ℕ × ℤ))) (t : ℕ) → length (up_to width ticks (t + 1)) ≡ length (up_to width ticks t) + length (step_to width ticks (t + 1))
length-up_to_next width ticks t = ap (λ (cs : List (ℕ × ℤ)). length cs) (up_to_next width ticks t) ∙ length-append (up_to width ticks t) (step_to width ticks (t + 1))

-- later ticks end at no lower places
pub up_to_longer : (width : ℕ) (ticks : List (List (ℕ × ℤ))) (t n : ℕ) → t ≤ n → length (up_to width ticks t) ≤ length (up_to width ticks n)
up_to_longer width ticks t zero low = let same : t ≡ 0 = omega arith in omega (arith, ap (λ n. length (up_to width ticks n)) same)
up_to_longer width ticks t (suc n) low = elim (cases_lt n t) [
  | inl past ↦ let same : t ≡ suc n = omega arith in omega (arith, ap (λ n. length (up_to width ticks n)) same)
  | inr within ↦ omega (arith, up_to_longer width ticks t n within, ap (λ (cs : List (ℕ × ℤ)). length cs) (up_to_more width ticks n), length-append (up_to width ticks n) (step_to width ticks (suc n)))
]

-- the expanded log up to the end of a tick
up_to_front : (width : ℕ) (ticks : List (List (ℕ × ℤ))) (t n : ℕ) → t ≤ n → take (length (up_to width ticks t)) (up_to width ticks n) ≡ up_to width ticks t
up_to_front width ticks t zero low =
    let same : t ≡ 0 = omega arith in
    subst (λ m. take (length (up_to width ticks m)) (up_to width ticks 0) ≡ up_to width ticks m) (sym same)
    (take_all (length (up_to width ticks 0)) (up_to width ticks 0) (omega arith))
up_to_front width ticks t (suc n) low = elim (cases_lt n t) [
  | inl past ↦ let same : t ≡ suc n = omega arith in
      subst (λ m. take (length (up_to width ticks m)) (up_to width ticks (suc n)) ≡ up_to width ticks m) (sym same)
      (take_all (length (up_to width ticks (suc n))) (up_to width ticks (suc n)) (omega arith))
  | inr within ↦ ap (λ (cs : List (ℕ × ℤ)). take (length (up_to width ticks t)) cs) (up_to_more width ticks n)
      ∙ take-append-le (length (up_to width ticks t)) (up_to width ticks n) (step_to width ticks (suc n)) (up_to_longer width ticks t n within)
      ∙ up_to_front width ticks t n within
]

-- ---- sums

-- the changes of the first ticks
abbrev front : List (List (ℕ × ℤ)) → ℕ → List (ℕ × ℤ)
front ticks t = flat_map (λ tick. tick) (take t ticks)

front_more : (ticks : List (List (ℕ × ℤ))) (t : ℕ) → front ticks (suc t) ≡ front ticks t ++ changes_at ticks (suc t)
front_more [] zero = refl
front_more [] (suc t) = refl
front_more (tick ∷ ticks) zero = append-nil tick
front_more (tick ∷ ticks) (suc t) = ap (λ (cs : List (ℕ × ℤ)). tick ++ cs) (front_more ticks t) ∙ sym (append_assoc tick (front ticks t) (changes_at ticks (suc t)))

-- the sum of the first ticks, of one tick, and of the expanded log up to the end of a tick
abbrev sum_to : List (List (ℕ × ℤ)) → ℕ → ℕ → ℤ
sum_to ticks o t = sum_for o (front ticks t)

abbrev sum_at : List (List (ℕ × ℤ)) → ℕ → ℕ → ℤ
sum_at ticks o t = sum_for o (changes_at ticks t)

abbrev moved : ℕ → List (List (ℕ × ℤ)) → ℕ → ℕ → ℤ
moved width ticks o t = sum_for o (up_to width ticks t)

sum_to_more : (ticks : List (List (ℕ × ℤ))) (o t : ℕ) → sum_to ticks o (suc t) ≡ sum_to ticks o t +ℤ sum_at ticks o (suc t)
sum_to_more ticks o t = ap (sum_for o) (front_more ticks t) ∙ sum_for-append o (front ticks t) (changes_at ticks (suc t))

-- what leaves the window is what stands behind it then
leaves : (width : ℕ) (ticks : List (List (ℕ × ℤ))) (o t : ℕ) → sum_to ticks o (suc t - width) ≡ sum_to ticks o (t - width) +ℤ sum_at ticks o (suc t - width)
leaves width ticks o t = elim (cases_lt t width) [
  | inl early ↦ let next : suc t - width ≡ 0 = omega arith in
      let here : t - width ≡ 0 = omega arith in
      ap (sum_to ticks o) next ∙ ap (λ n. sum_to ticks o n +ℤ sum_at ticks o 0) (sym here) ∙ ap (λ n. sum_to ticks o (t - width) +ℤ sum_at ticks o n) (sym next)
  | inr late ↦ let next : suc t - width ≡ suc (t - width) = omega arith in
      ap (sum_to ticks o) next ∙ sum_to_more ticks o (t - width) ∙ ap (λ n. sum_to ticks o (t - width) +ℤ sum_at ticks o n) (sym next)
]

moved_more : (width : ℕ) (ticks : List (List (ℕ × ℤ))) (o t : ℕ) → moved width ticks o (suc t) ≡ moved width ticks o t +ℤ (neg_ℤ (sum_at ticks o (suc t - width)) +ℤ sum_at ticks o (suc t))
moved_more width ticks o t =
    ap (sum_for o) (up_to_more width ticks t)
    ∙ sum_for-append o (up_to width ticks t) (step_to width ticks (suc t))
    ∙ ap (λ s. moved width ticks o t +ℤ s) (sum_for-append o (withdrawn (changes_at ticks (suc t - width))) (changes_at ticks (suc t)))
    ∙ ap (λ s. moved width ticks o t +ℤ (s +ℤ sum_at ticks o (suc t))) (sum_for-withdrawn o (changes_at ticks (suc t - width)))

balance : (m m2 p p2 q q2 leaving coming : ℤ) → m +ℤ q ≡ p → m2 ≡ m +ℤ (neg_ℤ leaving +ℤ coming) → p2 ≡ p +ℤ coming → q2 ≡ q +ℤ leaving → m2 +ℤ q2 ≡ p2
balance m m2 p p2 q q2 leaving coming is step front behind = omega (arith, ints, is, step, front, behind)

-- the expanded log and what stands behind the window sum to all ticks up to there
balanced : (width : ℕ) (ticks : List (List (ℕ × ℤ))) (o t : ℕ) → moved width ticks o t +ℤ sum_to ticks o (t - width) ≡ sum_to ticks o t
balanced width ticks o zero =
    let none : 0 - width ≡ 0 = omega arith in
    ap (λ (cs : List (ℕ × ℤ)). sum_for o cs +ℤ sum_to ticks o (0 - width)) (up_to_none width ticks)
    ∙ ap (λ n. pos 0 +ℤ sum_to ticks o n) none
balanced width ticks o (suc t) =
    balance (moved width ticks o t) (moved width ticks o (suc t)) (sum_to ticks o t) (sum_to ticks o (suc t)) (sum_to ticks o (t - width)) (sum_to ticks o (suc t - width))
    (sum_at ticks o (suc t - width)) (sum_at ticks o (suc t))
    (balanced width ticks o t) (moved_more width ticks o t) (sum_to_more ticks o t) (leaves width ticks o t)

-- so do the window and what stands behind it
window_balanced : (width : ℕ) (ticks : List (List (ℕ × ℤ))) (o t : ℕ) → sum_to ticks o (t - width) +ℤ window_sum width ticks t o ≡ sum_to ticks o t
window_balanced width ticks o t =
    let behind = t - width in
    let few : behind ≤ t = omega arith in
    sym (ap (λ (ts : List (List (ℕ × ℤ))). sum_for o (flat_map (λ tick. tick) ts) +ℤ window_sum width ticks t o) (take-take behind t ticks few))
    ∙ sym (sum_for-append o (flat_map (λ tick. tick) (take behind (take t ticks))) (in_window width ticks t))
    ∙ sym (ap (sum_for o) (flat_map-append (λ (tick : List (ℕ × ℤ)). tick) (take behind (take t ticks)) (drop behind (take t ticks))))
    ∙ ap (λ (ts : List (List (ℕ × ℤ))). sum_for o (flat_map (λ tick. tick) ts)) (take-append-drop behind (take t ticks))

same_part : (m q p w : ℤ) → m +ℤ q ≡ p → q +ℤ w ≡ p → m ≡ w
same_part m q p w one other = omega (arith, ints, one, other)

-- the expanded log sums to the window
pub moved_is_window : (width : ℕ) (ticks : List (List (ℕ × ℤ))) (o t : ℕ) → sum_for o (up_to width ticks t) ≡ window_sum width ticks t o
moved_is_window width ticks o t =
    same_part (moved width ticks o t) (sum_to ticks o (t - width)) (sum_to ticks o t) (window_sum width ticks t o) (balanced width ticks o t) (window_balanced width ticks o t)

-- ---- ends

-- the place after a tick
pub end_of_tick : (width : ℕ) (ticks : List (List (ℕ × ℤ))) (t : ℕ) → t ≤ length ticks → end_of (expansion width ticks).ends t ≡ length (up_to width ticks t)
end_of_tick width ticks zero within = sym (ap (λ (cs : List (ℕ × ℤ)). length cs) (up_to_none width ticks))
end_of_tick width ticks (suc t) within = get_or-map-range_with_len (λ t. length (up_to width ticks t)) 1 (length ticks) t (suc t) 0 (omega arith) (omega arith)

pub sums_to_window : (width : ℕ) (ticks : List (List (ℕ × ℤ))) → SumsToWindow width ticks (expansion width ticks).part (expansion width ticks).ends
sums_to_window width ticks t o within =
    ap (λ n. sum_for o (take n (up_to width ticks (length ticks)))) (end_of_tick width ticks t within)
    ∙ ap (sum_for o) (up_to_front width ticks t (length ticks) within)
    ∙ moved_is_window width ticks o t

pub ends_in_order : (width : ℕ) (ticks : List (List (ℕ × ℤ))) (n : ℕ) → IsNonDecreasing (map (λ t. length (up_to width ticks t)) (range_with_len 1 n))
ends_in_order width ticks n i j d low within =
    let f : ℕ → ℕ = λ t. length (up_to width ticks t) in
    let inside : j < n = omega (arith, length-map-range_with_len f 1 n) in
    omega (arith, get_or-map-range_with_len f 1 n i (1 + i) d (omega arith) refl, get_or-map-range_with_len f 1 n j (1 + j) d inside refl, up_to_longer width ticks (1 + i) (1 + j) (omega arith))

-- ---- objects

over_at : (n : ℕ) (ticks : List (List (ℕ × ℤ))) (t : ℕ) → All (AreOver n) ticks → AreOver n (changes_at ticks t)
over_at n ticks zero all = All-nil (λ (c : ℕ × ℤ). IsObject n c.0)
over_at n ticks (suc t) all = elim (cases_lt t (length ticks)) [
  | inl within ↦ all t [] within
  | inr past ↦ subst (AreOver n) (sym (get_or_past ticks t [] past)) (All-nil (λ (c : ℕ × ℤ). IsObject n c.0))
]

-- the expanded log is over the same objects
pub over_expanded : (n width : ℕ) (ticks : List (List (ℕ × ℤ))) (t : ℕ) → All (AreOver n) ticks → AreOver n (up_to width ticks t)
over_expanded n width ticks zero all = subst (AreOver n) (sym (up_to_none width ticks)) (All-nil (λ (c : ℕ × ℤ). IsObject n c.0))
over_expanded n width ticks (suc t) all =
    let P : ℕ × ℤ → Type 0 = λ c. IsObject n c.0 in
    subst (AreOver n) (sym (up_to_more width ticks t))
    (All-append P (up_to width ticks t) (step_to width ticks (suc t)) (over_expanded n width ticks t all)
    (All-append P (withdrawn (changes_at ticks (suc t - width))) (changes_at ticks (suc t))
    (All-map P (λ (c : ℕ × ℤ). (c.0, neg_ℤ c.1)) (changes_at ticks (suc t - width)) (over_at n ticks (suc t - width) all))
    (over_at n ticks (suc t) all)))

-- ---- one tick more

-- the steps of one more tick
pub moved_on : (width : ℕ) (ticks : List (List (ℕ × ℤ))) (t : ℕ) (old new : List (ℕ × ℤ)) → old ≡ up_to width ticks t → new ≡ old ++ step_to width ticks (t + 1) → new ≡ up_to width ticks (t + 1)
moved_on width ticks t old new is more = more ∙ ap (λ (cs : List (ℕ × ℤ)). cs ++ step_to width ticks (t + 1)) is ∙ sym (up_to_next width ticks t)

-- and its end
pub ends_on : (width : ℕ) (ticks : List (List (ℕ × ℤ))) (t n : ℕ) (old new : List ℕ) → old ≡ map (λ u. length (up_to width ticks u)) (range_with_len 1 t) → new ≡ old ++ n ∷ [] → n ≡ length (up_to width ticks (t + 1))
    → new ≡ map (λ u. length (up_to width ticks u)) (range_with_len 1 (t + 1))
ends_on width ticks t n old new is more place =
    more
    ∙ ap (λ (es : List ℕ). es ++ n ∷ []) is
    ∙ ap (λ m. map (λ u. length (up_to width ticks u)) (range_with_len 1 t) ++ m ∷ []) place
    ∙ sym (map-range_with_len_more (λ u. length (up_to width ticks u)) 1 t (t + 1) (omega arith))
