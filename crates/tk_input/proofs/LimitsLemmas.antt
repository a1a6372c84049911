-- What stands where every test of the logs is passed, and what the parts tell of the logs that they make.
use Rattle.std.proofs.Common.{◌≡◌, ◌≢◌, ℕ, suc, zero, ◌+◌, ◌-◌, ◌*◌, ◌<◌, ◌≤◌, ◌^◌, max, ℤ, unsigned_abs, Bool, true, false, cond, Option, Some, None, option_map, List, [], ◌∷◌, length, get_or, All, refl, sym, ap, subst, arith, inl, inr, ltb, ne_eqb}
use Rattle.std.specs.Prelude.{find, filter, fold, is_some, nat_lt, option_and_then, position, sum_by, ◌==◌}
use Rattle.std.specs.List.{position_or_len, range_with_len}
use Rattle.std.proofs.lemmas.Bool.{cases_lt, ltb-false}
use Rattle.std.proofs.lemmas.List.Elements.{All-filter, All-map}
use Rattle.std.proofs.lemmas.List.FromFn.{get_or-map-range_with_len, length-map-range_with_len}
use Rattle.std.proofs.lemmas.List.Sums.{fails_before_first, sum_by-cons}
use Rattle.tk_base.specs.Objects.{objects}
use Rattle.tk_base.specs.declared.ids.Mon.{Mon}
use Rattle.tk_base.proofs.OptionLemmas.{unmapped, split_map}
use Rattle.tk_input.specs.Judged.{Assigned, feeders_of, first_at, first_gap, first_crowded, first_great, great_in, great_object, last_monitor, logs_by_monitor, too_great}
use Rattle.tk_input.specs.Logs.{AreGathered, AreParts, IsObject, LogSet, updates_of, weight_for, weight_of}
use Rattle.tk_input.specs.Rows.{size_at}
use Rattle.tk_input.specs.declared.logs.LogsFault.TheVariants.{TooGreat}
use Rattle.tk_input.proofs.CountLemmas.{position_found, find-found, find_passes, refused, not_some}
use Rattle.tk_input.proofs.SumLemmas.{weight_for-all}

-- where no place is found, nothing passes
pub position_fails : {X : Type 0} (p : X → Bool) (xs : List X) (k : ℕ) (d : X) → position p xs ≡ None → k < length xs → p (get_or xs k d) ≡ false
position_fails p xs k d none within =
    let past : length xs ≤ position_or_len p xs = ltb-false (position_or_len p xs) (length xs) (refused (ltb (position_or_len p xs) (length xs)) (position_or_len p xs) none) in
    fails_before_first p xs k d (omega arith)

find-range_fails : (p : ℕ → Bool) (a n k : ℕ) → find p (range_with_len a n) ≡ None → k < n → p (a + k) ≡ false
find-range_fails p a zero k none within = absurd (omega arith)
find-range_fails p a (suc n) k none within = step (p a) refl k none within (λ j. find-range_fails p (a + 1) n j)
  where
    step : (b : Bool) → p a ≡ b → (k : ℕ) → cond b (Some a) (find p (range_with_len (a + 1) n)) ≡ None → k < suc n → ((j : ℕ) → find p (range_with_len (a + 1) n) ≡ None → j < n → p ((a + 1) + j) ≡ false) → p (a + k) ≡ false
    step true is k e h later = absurd (cc)
    step false is zero e h later = let same : a + 0 ≡ a = omega arith in subst (λ (m : ℕ). p m ≡ false) (sym same) is
    step false is (suc k) e h later = let next : (a + 1) + k ≡ a + suc k = omega arith in subst (λ (m : ℕ). p m ≡ false) next (later k e (omega arith))

-- an object that no change names weighs nothing
absent_weighs_nothing : (n o : ℕ) (cs : List (ℕ × ℤ)) → All (λ c. IsObject n c.0) cs → (IsObject n o → ⊥) → sum_by (size_at o) cs ≡ 0
absent_weighs_nothing n o [] all apart = refl
absent_weighs_nothing n o (c ∷ cs) all apart =
    let other : c.0 ≢ o = λ e. apart (subst (λ (m : ℕ). IsObject n m) e (all 0 c (omega arith))) in
    let here : size_at o c ≡ 0 = ap (λ (b : Bool). cond b (unsigned_abs c.1) 0) (ne_eqb c.0 o other) in
    let later = absent_weighs_nothing n o cs (λ k d h. all (suc k) d (omega arith)) apart in
    omega (arith, sum_by-cons (size_at o) c cs, here, later)

absent_everywhere : (n o : ℕ) (parts : List (List (ℕ × ℤ))) → All (λ part. All (λ c. IsObject n c.0) part) parts → (IsObject n o → ⊥) → weight_of parts o ≡ 0
absent_everywhere n o [] all apart = refl
absent_everywhere n o (part ∷ parts) all apart =
    let here = absent_weighs_nothing n o part (all 0 part (omega arith)) apart in
    let later = absent_everywhere n o parts (λ k d h. all (suc k) d (omega arith)) apart in
    omega (arith, sum_by-cons (weight_for o) part parts, weight_for-all o part, here, later)

-- where no object is too great, each one's weight is within the limit
light : (n o : ℕ) (parts : List (List (ℕ × ℤ))) → All (λ part. All (λ c. IsObject n c.0) part) parts → great_object n parts ≡ None → weight_of parts o ≤ 2 ^ 100
unfolding objects
light n zero parts all none = omega (arith, absent_everywhere n 0 parts all (λ h. absurd (omega (arith, h))))
light n (suc o) parts all none = elim (cases_lt o n) [
  | inl lt ↦ let passed : nat_lt (2 ^ 100) (weight_of parts (1 + o)) ≡ false = find-range_fails (λ q. nat_lt (2 ^ 100) (weight_of parts q)) 1 n o none lt in
      let bound : weight_of parts (1 + o) ≤ 2 ^ 100 = ltb-false (2 ^ 100) (weight_of parts (1 + o)) passed in
      let same : 1 + o ≡ suc o = omega arith in
      subst (λ (q : ℕ). weight_of parts q ≤ 2 ^ 100) same bound
  | inr ge ↦ omega (arith, absent_everywhere n (suc o) parts all (λ h. absurd (omega (arith, h))))
]

passed_or_stopped : (s : LogSet) (mon : Option ℕ) → option_and_then (too_great s) mon ≡ None → ((i : ℕ) → mon ≡ Some i → too_great s i ≡ None → ⊥) → mon ≡ None
passed_or_stopped s None e stopped = refl
passed_or_stopped s (Some i) e stopped = absurd (stopped i refl e)

some_mapped : {X Y : Type 0} (f : X → Y) (o : Option X) → is_some o ≡ true → option_map f o ≡ None → ⊥
some_mapped f None is e = absurd (cc)
some_mapped f (Some x) is e = absurd (cc)

-- where no monitor has an object that is too great
none_great : (s : LogSet) → great_in s ≡ None → first_great s ≡ None
none_great s none = passed_or_stopped s (first_great s) none (λ i is stopped.
    let test : List (List (ℕ × ℤ)) → Bool = λ parts. is_some (great_object s.objects parts) in
    let (k, at, order) = split_map (position test s.logs) i is in
    let found = position_found test s.logs k at in
    let passes : is_some (great_object s.objects (get_or s.logs k [])) ≡ true = find_passes test s.logs (get_or s.logs k []) (find-found test s.logs k [] found) in
    let place : i - 1 ≡ k = omega (arith, order) in
    some_mapped (λ o. TooGreat (record { 0 = i }) (record { 0 = o })) (great_object s.objects (get_or s.logs (i - 1) []))
    (subst (λ (m : ℕ). is_some (great_object s.objects (get_or s.logs m [])) ≡ true) (sym place) passes) stopped)

some_of_gap : (logs : List (List (List (ℕ × ℤ)))) (b : Bool) → (length logs == 0) ≡ b → cond b (Some 1) (first_at (λ parts. length parts == 0) logs) ≡ None → (1 ≤ length logs) × (first_at (λ parts. length parts == 0) logs ≡ None)
some_of_gap logs true is e = absurd (cc)
some_of_gap logs false is e = (one_or_more (length logs) is, e)
  where
    one_or_more : (n : ℕ) → (n == 0) ≡ false → 1 ≤ n
    one_or_more zero h = absurd (cc)
    one_or_more (suc n) h = omega arith

-- the parts of one monitor where every test is passed
parts_within : (n : ℕ) (parts : List (List (ℕ × ℤ))) → (length parts == 0) ≡ false → nat_lt 8 (length parts) ≡ false → All (λ part. All (λ c. IsObject n c.0) part) parts → All (λ part. length part ≤ 1000000) parts → great_object n parts ≡ None → AreParts n parts
parts_within n parts some few all short none = record {
  some_feeder = one_or_more (length parts) some;
  feeders = ltb-false 8 (length parts) few;
  objects = all;
  lengths = short;
  weights = λ o. light n o parts all none;
}
  where
    one_or_more : (m : ℕ) → (m == 0) ≡ false → 1 ≤ m
    one_or_more zero h = absurd (cc)
    one_or_more (suc m) h = omega arith

-- logs that pass every test are within the limits
pub passed : (s : LogSet) → length s.logs ≤ 64 → All (λ parts. All (λ part. All (λ c. IsObject s.objects c.0) part) parts) s.logs → All (λ parts. All (λ part. length part ≤ 1000000) parts) s.logs
    → first_gap s.logs ≡ None → first_crowded s.logs ≡ None → sum_by updates_of s.logs ≤ 4000000 → great_in s ≡ None → AreGathered s
passed s few all short gap crowded updates great =
    let some = some_of_gap s.logs (length s.logs == 0) refl gap in
    let bare = unmapped (λ k. k + 1) (position (λ parts. length parts == 0) s.logs) some.1 in
    let wide = unmapped (λ k. k + 1) (position (λ parts. nat_lt 8 (length parts)) s.logs) crowded in
    let heavy = unmapped (λ k. k + 1) (position (λ parts. is_some (great_object s.objects parts)) s.logs) (none_great s great) in
    record {
      limits = record {
        some_monitor = some.0;
        monitors = few;
        each = λ k d h. parts_within s.objects (get_or s.logs k d) (position_fails (λ parts. length parts == 0) s.logs k d bare h) (position_fails (λ parts. nat_lt 8 (length parts)) s.logs k d wide h)
            (all k d h) (short k d h) (not_some (great_object s.objects (get_or s.logs k d)) (position_fails (λ parts. is_some (great_object s.objects parts)) s.logs k d heavy h));
      };
      updates = updates;
    }

-- what is true of each part is true of each part of a monitor
pub all_feeders : (P : List (ℕ × ℤ) → Type 0) (parts : Assigned) (mon : ℕ) → All (λ p. P p.1) parts → All P (feeders_of parts mon)
all_feeders P parts mon all = All-map P (λ (p : Mon × List (ℕ × ℤ)). p.1) (filter (λ p. p.0.0 == mon) parts) (All-filter (λ (p : Mon × List (ℕ × ℤ)). p.0.0 == mon) (λ p. P p.1) parts all)

-- and of each monitor's parts
pub all_logs : (P : List (ℕ × ℤ) → Type 0) (parts : Assigned) → All (λ p. P p.1) parts → All (λ ps. All P ps) (logs_by_monitor parts)
all_logs P parts all k d within =
    let inside : k < last_monitor parts = omega (arith, length-map-range_with_len (feeders_of parts) 1 (last_monitor parts)) in
    subst (λ (ps : List (List (ℕ × ℤ))). All P ps) (sym (get_or-map-range_with_len (feeders_of parts) 1 (last_monitor parts) k (1 + k) d inside refl)) (all_feeders P parts (1 + k) all)

last_from : (a : ℕ) (parts : Assigned) → a ≤ 64 → All (λ p. p.0.0 ≤ 64) parts → fold (λ last p. max last p.0.0) a parts ≤ 64
last_from a [] low all = low
last_from a (p ∷ parts) low all = last_from (max a p.0.0) parts (omega (arith, all 0 p (omega arith))) (λ k d h. all (suc k) d (omega arith))

-- there are no more monitors than the greatest
pub few_monitors : (parts : Assigned) → All (λ p. p.0.0 ≤ 64) parts → length (logs_by_monitor parts) ≤ 64
few_monitors parts all = omega (arith, length-map-range_with_len (feeders_of parts) 1 (last_monitor parts), last_from 0 parts (omega arith) all)

sum_of_short : (parts : List (List (ℕ × ℤ))) → All (λ part. length part ≤ 1000000) parts → updates_of parts ≤ length parts * 1000000
sum_of_short [] all = omega arith
sum_of_short (part ∷ parts) all =
    let here = all 0 part (omega arith) in
    let later = sum_of_short parts (λ k d h. all (suc k) d (omega arith)) in
    omega (arith, sum_by-cons (λ (p : List (ℕ × ℤ)). length p) part parts, here, later)

few_updates : (logs : List (List (List (ℕ × ℤ)))) → All (λ parts. length parts ≤ 8) logs → All (λ parts. All (λ part. length part ≤ 1000000) parts) logs → sum_by updates_of logs ≤ length logs * 8000000
few_updates [] few short = omega arith
few_updates (parts ∷ logs) few short =
    let here = sum_of_short parts (short 0 parts (omega arith)) in
    let width = few 0 parts (omega arith) in
    let later = few_updates logs (λ k d h. few (suc k) d (omega arith)) (λ k d h. short (suc k) d (omega arith)) in
    omega (arith, sum_by-cons updates_of parts logs, here, width, later)

-- the changes can be counted where no monitor is crowded
pub countable : (logs : List (List (List (ℕ × ℤ)))) → length logs ≤ 64 → first_crowded logs ≡ None → All (λ parts. All (λ part. length part ≤ 1000000) parts) logs → sum_by updates_of logs < 2 ^ 64
countable logs few crowded short =
    let wide = unmapped (λ k. k + 1) (position (λ parts. nat_lt 8 (length parts)) logs) crowded in
    omega (arith, few_updates logs (λ k d h. ltb-false 8 (length (get_or logs k d)) (position_fails (λ parts. nat_lt 8 (length parts)) logs k d wide h)) short)
