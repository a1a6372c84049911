-- The first object whose changes pass the limit, found among weights.
use Rattle.std.proofs.Common.{◌≡◌, ℕ, suc, zero, ◌+◌, ◌-◌, ◌<◌, ◌≤◌, ◌^◌, ℤ, Bool, true, false, cond, Option, Some, None, option_map, List, [], length, get_or, refl, sym, ap, ◌∙◌, subst, arith, inl, inr}
use Rattle.std.specs.Prelude.{find, is_some, nat_lt, option_and_then, position}
use Rattle.std.specs.List.{position_or_len, range_with_len}
use Rattle.std.proofs.lemmas.Bool.{cases_lt, ltb-true, ltb-false, lt-ltb, le-ltb}
use Rattle.std.proofs.lemmas.List.Sums.{fails_before_first, position_or_len_is}
use Rattle.tk_base.specs.Objects.{objects}
use Rattle.tk_input.specs.Judged.{great_in, great_object, too_great}
use Rattle.tk_input.specs.Logs.{LogSet, weight_of}
use Rattle.tk_input.specs.Rows.{capped}
use Rattle.tk_input.specs.declared.logs.LogsFault.TheVariants.{TooGreat}
use Rattle.tk_input.proofs.CountLemmas.{position_found, find-found, find_passes}

-- the first number of a range that passes
find-range_found : (p : ℕ → Bool) (a n i : ℕ) → i < n → ((k : ℕ) → k < i → p (a + k) ≡ false) → p (a + i) ≡ true → find p (range_with_len a n) ≡ Some (a + i)
find-range_found p a zero i within before here = absurd (omega arith)
find-range_found p a (suc n) zero within before here =
    let same : a + 0 ≡ a = omega arith in
    ap (λ b. cond b (Some a) (find p (range_with_len (a + 1) n))) (subst (λ (m : ℕ). p m ≡ true) same here) ∙ ap (λ (m : ℕ). Some m) (sym same)
find-range_found p a (suc n) (suc i) within before here =
    let same : a + 0 ≡ a = omega arith in
    let next : (a + 1) + i ≡ a + suc i = omega arith in
    ap (λ b. cond b (Some a) (find p (range_with_len (a + 1) n))) (subst (λ (m : ℕ). p m ≡ false) same (before 0 (omega arith)))
    ∙ find-range_found p (a + 1) n i (omega arith) (λ k h. let step : a + suc k ≡ (a + 1) + k = omega arith in subst (λ (m : ℕ). p m ≡ false) step (before (suc k) (omega arith))) (subst (λ (m : ℕ). p m ≡ true) (sym next) here)
    ∙ ap (λ (m : ℕ). Some m) next

-- no number of a range passes
pub find-range_none : (p : ℕ → Bool) (a n : ℕ) → ((k : ℕ) → k < n → p (a + k) ≡ false) → find p (range_with_len a n) ≡ None
find-range_none p a zero none = refl
find-range_none p a (suc n) none =
    let same : a + 0 ≡ a = omega arith in
    ap (λ b. cond b (Some a) (find p (range_with_len (a + 1) n))) (subst (λ (m : ℕ). p m ≡ false) same (none 0 (omega arith)))
    ∙ find-range_none p (a + 1) n (λ k h. let step : a + suc k ≡ (a + 1) + k = omega arith in subst (λ (m : ℕ). p m ≡ false) step (none (suc k) (omega arith)))

-- a weight that stands still passes the limit where the sum does
heavy : (w : ℕ) (b : Bool) → nat_lt (2 ^ 100) (capped w) ≡ b → nat_lt (2 ^ 100) w ≡ b
heavy w true h = let far : 2 ^ 100 < capped w = ltb-true (2 ^ 100) (capped w) h in lt-ltb (2 ^ 100) w (omega arith)
heavy w false h = let near : capped w ≤ 2 ^ 100 = ltb-false (2 ^ 100) (capped w) h in le-ltb (2 ^ 100) w (omega arith)

-- the weights are those of the objects from 1 on
abbrev pub AreWeights : List (List (ℕ × ℤ)) → List ℕ → Type 0
AreWeights parts weights = (k : ℕ) → k < length weights → get_or weights k 0 ≡ capped (weight_of parts (k + 1))

heavy_at : (parts : List (List (ℕ × ℤ))) (weights : List ℕ) (k : ℕ) (b : Bool) → AreWeights parts weights → k < length weights → nat_lt (2 ^ 100) (get_or weights k 0) ≡ b → nat_lt (2 ^ 100) (weight_of parts (1 + k)) ≡ b
heavy_at parts weights k b are within is =
    let order : k + 1 ≡ 1 + k = omega arith in
    subst (λ (o : ℕ). nat_lt (2 ^ 100) (weight_of parts o) ≡ b) order
    (heavy (weight_of parts (k + 1)) b (subst (λ (w : ℕ). nat_lt (2 ^ 100) w ≡ b) (are k within) is))

pub great_found : (parts : List (List (ℕ × ℤ))) (weights : List ℕ) (n i : ℕ) → length weights ≡ n → AreWeights parts weights → position (λ w. nat_lt (2 ^ 100) w) weights ≡ Some i → great_object n parts ≡ Some (i + 1)
unfolding objects
great_found parts weights n i size are at =
    let found = position_found (λ w. nat_lt (2 ^ 100) w) weights i at in
    let order : 1 + i ≡ i + 1 = omega arith in
    find-range_found (λ o. nat_lt (2 ^ 100) (weight_of parts o)) 1 n i (omega (arith, found.within))
    (λ k h. heavy_at parts weights k false are (omega (arith, found.within)) (fails_before_first (λ w. nat_lt (2 ^ 100) w) weights k 0 (omega (arith, found.first))))
    (heavy_at parts weights i true are found.within (find_passes (λ w. nat_lt (2 ^ 100) w) weights (get_or weights i 0) (find-found (λ w. nat_lt (2 ^ 100) w) weights i 0 found)))
    ∙ ap (λ (m : ℕ). Some m) order

refused : (b : Bool) (x : ℕ) → cond b (Some x) None ≡ None → b ≡ false
refused true x e = absurd (cc)
refused false x e = refl

pub great_missing : (parts : List (List (ℕ × ℤ))) (weights : List ℕ) (n : ℕ) → length weights ≡ n → AreWeights parts weights → position (λ w. nat_lt (2 ^ 100) w) weights ≡ None → great_object n parts ≡ None
unfolding objects
great_missing parts weights n size are at =
    let q : ℕ → Bool = λ w. nat_lt (2 ^ 100) w in
    let past : length weights ≤ position_or_len q weights = ltb-false (position_or_len q weights) (length weights) (refused (nat_lt (position_or_len q weights) (length weights)) (position_or_len q weights) at) in
    find-range_none (λ o. nat_lt (2 ^ 100) (weight_of parts o)) 1 n
    (λ k h. heavy_at parts weights k false are (omega (arith, size)) (fails_before_first q weights k 0 (omega (arith, past, size))))

-- the place of the first that passes
pub position_is : {X : Type 0} (p : X → Bool) (xs : List X) (i : ℕ) (d : X) → i < length xs → ((k : ℕ) → k < i → p (get_or xs k d) ≡ false) → p (get_or xs i d) ≡ true → position p xs ≡ Some i
position_is p xs i d within before here =
    let at : position_or_len p xs ≡ i = position_or_len_is p xs i d (omega arith) before (λ h. here) in
    ap (λ (n : ℕ). cond (nat_lt n (length xs)) (Some n) None) at ∙ ap (λ (b : Bool). cond b (Some i) None) (lt-ltb i (length xs) within)

pub position_none : {X : Type 0} (p : X → Bool) (xs : List X) (d : X) → ((k : ℕ) → k < length xs → p (get_or xs k d) ≡ false) → position p xs ≡ None
position_none p xs d none =
    let at : position_or_len p xs ≡ length xs = position_or_len_is p xs (length xs) d (omega arith) none (λ h. absurd (omega arith)) in
    ap (λ (n : ℕ). cond (nat_lt n (length xs)) (Some n) None) at ∙ ap (λ (b : Bool). cond b (Some (length xs)) None) (le-ltb (length xs) (length xs) (omega arith))

-- the fault of the first monitor that has one
pub great_in_found : (s : LogSet) (j o : ℕ) → j < length s.logs → ((k : ℕ) → k < j → great_object s.objects (get_or s.logs k []) ≡ None) → great_object s.objects (get_or s.logs j []) ≡ Some o → great_in s ≡ Some (TooGreat (record { 0 = j + 1 }) (record { 0 = o }))
great_in_found s j o within before here =
    let test : List (List (ℕ × ℤ)) → Bool = λ parts. is_some (great_object s.objects parts) in
    let at : position test s.logs ≡ Some j = position_is test s.logs j [] within (λ k h. ap (λ (p : Option ℕ). is_some p) (before k h)) (ap (λ (p : Option ℕ). is_some p) here) in
    let place : (j + 1) - 1 ≡ j = omega arith in
    ap (λ (p : Option ℕ). option_and_then (too_great s) (option_map (λ i. i + 1) p)) at
    ∙ ap (λ (i : ℕ). option_map (λ q. TooGreat (record { 0 = j + 1 }) (record { 0 = q })) (great_object s.objects (get_or s.logs i []))) place
    ∙ ap (λ (p : Option ℕ). option_map (λ q. TooGreat (record { 0 = j + 1 }) (record { 0 = q })) p) here

pub great_in_missing : (s : LogSet) → ((k : ℕ) → k < length s.logs → great_object s.objects (get_or s.logs k []) ≡ None) → great_in s ≡ None
great_in_missing s none =
    let test : List (List (ℕ × ℤ)) → Bool = λ parts. is_some (great_object s.objects parts) in
    ap (λ (p : Option ℕ). option_and_then (too_great s) (option_map (λ i. i + 1) p)) (position_none test s.logs [] (λ k h. ap (λ (p : Option ℕ). is_some p) (none k h)))

-- one more monitor without a fault
pub none_more : (s : LogSet) (j : ℕ) → ((k : ℕ) → k < j → great_object s.objects (get_or s.logs k []) ≡ None) → great_object s.objects (get_or s.logs j []) ≡ None → (k : ℕ) → k < j + 1 → great_object s.objects (get_or s.logs k []) ≡ None
none_more s j before here k h = elim (cases_lt k j) [
  | inl lt ↦ before k lt
  | inr ge ↦ let e : k ≡ j = omega arith in subst (λ (n : ℕ). great_object s.objects (get_or s.logs n []) ≡ None) (sym e) here
]
