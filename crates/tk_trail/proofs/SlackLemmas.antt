-- While the changes since an Assign sum to at most the slack right after it, nothing is broken.
use Rattle.std.proofs.Common.{◌≡◌, ℕ, suc, zero, ◌≤◌, ◌+◌, ◌-◌, Bool, true, false, ◌==◌, cond, List, [], ◌∷◌, ◌++◌, length, map, take, drop, get_or, Contains, Option, Some, None, refl, sym, ap, ap₂, ◌∙◌, subst, arith, inl, inr}
use Rattle.std.specs.Prelude.{ℤ, pos, ◌+ℤ◌, ◌-ℤ◌, ◌≤ℤ◌, ◌<ℤ◌, ◌⊎◌, unsigned_abs, int_lt, fold, sum_by}
use Rattle.std.specs.Int.{int_min, int_max}
use Rattle.std.specs.List.{zip, enumerate_from}
use Rattle.std.proofs.lemmas.Bool.{cases_eq, cases_lt}
use Rattle.std.proofs.lemmas.Int.{ints, clamps, by_lt_z}
use Rattle.std.proofs.lemmas.Map.Views.{exact_unsigned_eq}
use Rattle.std.proofs.lemmas.List.Sums.{sum_by-cons, sum_by-append}
use Rattle.tk_input.specs.Logs.{sum_for, value_of, weight_for}
use Rattle.tk_border.specs.Levels.{level_at, lowered, raised, least_of, greatest_of, least_member, greatest_outside, outside}
use Rattle.tk_trail.specs.Setup.{MonitorSetup}
use Rattle.tk_frames.specs.Assigns.{row, members_of}
use Rattle.tk_trail.specs.Readings.{raised_of, is_raise_of, places_at, assigns_of, members_at, value_of_object, level_of, levels_of}
use Rattle.tk_trail.specs.Slack.{sizes, sizes_between, moved_between, slack_of, difference, IsWithinSlack}
use Rattle.tk_trail.specs.declared.entry.Entry.{Entry}
use Rattle.std.proofs.lemmas.List.{get_or_past}
use Rattle.tk_base.proofs.OptionLemmas.{some_is}
use Rattle.tk_base.proofs.ListLemmas.{contained_behind}
use Rattle.tk_base.proofs.SumLemmas.{int_sum-cons}
use Rattle.tk_input.proofs.SumLemmas.{sum_for-size}
use Rattle.tk_trail.proofs.LevelsLemmas.{length-levels_of, level_at-levels_of}
use Rattle.tk_trail.proofs.BrokenLemmas.{below_is, is_negative}
use Rattle.tk_trail.proofs.ValuesLemmas.{sum_for-cons, weight_for-cons}

-- the least and the greatest of a mapped list: reached, and a bound
pub record Reached (h : ℕ → ℤ) (os : List ℕ) (x : ℤ) : Type 0 where
  pub object : ℕ
  pub one : Contains os object
  pub level : h object ≡ x

later : (h : ℕ → ℤ) (o : ℕ) (os : List ℕ) (x : ℤ) → Reached h os x → Reached h (o ∷ os) x
later h o os x at = record { object = at.object; one = contained_behind o at.object os at.one; level = at.level }

first : (h : ℕ → ℤ) (o : ℕ) (os : List ℕ) (x : ℤ) → h o ≡ x → Reached h (o ∷ os) x
first h o os x is = record { object = o; one = (0, omega arith, refl); level = is }

chosen : (b : Bool) (a y g : ℤ) → Some (cond b a y) ≡ Some g → (a ≡ g) ⊎ (y ≡ g)
chosen true a y g is = inl (cc)
chosen false a y g is = inr (cc)

greatest_from : (h : ℕ → ℤ) (a : ℤ) (os : List ℕ) (g : ℤ) → fold raised (Some a) (map h os) ≡ Some g → (a ≡ g) ⊎ Reached h os g
greatest_from h a [] g is = inl (cc)
greatest_from h a (o ∷ os) g is =
    elim (greatest_from h (int_max a (h o)) os g is) [
      | inl same ↦ elim (chosen (int_lt (h o) a) a (h o) g (ap Some same)) [ inl old ↦ inl old | inr new ↦ inr (first h o os g new) ]
      | inr at ↦ inr (later h o os g at)
    ]

pub greatest_reached : (h : ℕ → ℤ) (os : List ℕ) (g : ℤ) → greatest_of (map h os) ≡ Some g → Reached h os g
unfolding greatest_of
greatest_reached h [] g is = absurd (cc)
greatest_reached h (o ∷ os) g is = elim (greatest_from h (h o) os g is) [ inl same ↦ first h o os g same | inr at ↦ later h o os g at ]

chosen_least : (a y g : ℤ) → Some (int_min a y) ≡ Some g → (a ≡ g) ⊎ (y ≡ g)
chosen_least a y g is = by_lt_z a y (λ below. inl (omega (arith, ints, clamps, some_is (int_min a y) g is))) (λ above. inr (omega (arith, ints, clamps, some_is (int_min a y) g is)))

least_from : (h : ℕ → ℤ) (a : ℤ) (os : List ℕ) (g : ℤ) → fold lowered (Some a) (map h os) ≡ Some g → (a ≡ g) ⊎ Reached h os g
least_from h a [] g is = inl (cc)
least_from h a (o ∷ os) g is =
    elim (least_from h (int_min a (h o)) os g is) [
      | inl same ↦ elim (chosen_least a (h o) g (ap Some same)) [ inl old ↦ inl old | inr new ↦ inr (first h o os g new) ]
      | inr at ↦ inr (later h o os g at)
    ]

pub least_reached : (h : ℕ → ℤ) (os : List ℕ) (g : ℤ) → least_of (map h os) ≡ Some g → Reached h os g
unfolding least_of
least_reached h [] g is = absurd (cc)
least_reached h (o ∷ os) g is = elim (least_from h (h o) os g is) [ inl same ↦ first h o os g same | inr at ↦ later h o os g at ]

-- bounds, where something is in the list
pub record Bound (R : ℤ → Type 0) (r : Option ℤ) : Type 0 where
  pub value : ℤ
  pub is : r ≡ Some value
  pub holds : R value

greatest_above : (a : ℤ) (xs : List ℤ) → Bound (λ g. a ≤ℤ g) (fold raised (Some a) xs)
greatest_above a [] = record { value = a; is = refl; holds = omega (arith, ints) }
greatest_above a (y ∷ ys) =
    let rest = greatest_above (int_max a y) ys in
    record { value = rest.value; is = rest.is; holds = omega (arith, ints, clamps, rest.holds) }

least_below : (a : ℤ) (xs : List ℤ) → Bound (λ g. g ≤ℤ a) (fold lowered (Some a) xs)
least_below a [] = record { value = a; is = refl; holds = omega (arith, ints) }
least_below a (y ∷ ys) =
    let rest = least_below (int_min a y) ys in
    record { value = rest.value; is = rest.is; holds = omega (arith, ints, clamps, rest.holds) }

greatest_over : (h : ℕ → ℤ) (best : Option ℤ) (os : List ℕ) (q : ℕ) → Contains os q → Bound (λ g. h q ≤ℤ g) (fold raised best (map h os))
greatest_over h best [] q (k, within, is) = absurd (omega arith)
greatest_over h None (o ∷ os) q (zero, within, is) = subst (λ (z : ℕ). Bound (λ g. h z ≤ℤ g) (fold raised (Some (h o)) (map h os))) is (greatest_above (h o) (map h os))
greatest_over h (Some a) (o ∷ os) q (zero, within, is) =
    let all = greatest_above (int_max a (h o)) (map h os) in
    let same : h o ≡ h q = ap h is in
    record { value = all.value; is = all.is; holds = omega (arith, ints, clamps, all.holds, same) }
greatest_over h best (o ∷ os) q (suc k, within, is) = greatest_over h (raised best (h o)) os q (k, omega arith, is)

pub greatest_bounds : (h : ℕ → ℤ) (os : List ℕ) (q : ℕ) → Contains os q → Bound (λ g. h q ≤ℤ g) (greatest_of (map h os))
unfolding greatest_of
greatest_bounds h os q one = greatest_over h None os q one

least_over : (h : ℕ → ℤ) (best : Option ℤ) (os : List ℕ) (q : ℕ) → Contains os q → Bound (λ g. g ≤ℤ h q) (fold lowered best (map h os))
least_over h best [] q (k, within, is) = absurd (omega arith)
least_over h None (o ∷ os) q (zero, within, is) = subst (λ (z : ℕ). Bound (λ g. g ≤ℤ h z) (fold lowered (Some (h o)) (map h os))) is (least_below (h o) (map h os))
least_over h (Some a) (o ∷ os) q (zero, within, is) =
    let all = least_below (int_min a (h o)) (map h os) in
    let same : h o ≡ h q = ap h is in
    record { value = all.value; is = all.is; holds = omega (arith, ints, clamps, all.holds, same) }
least_over h best (o ∷ os) q (suc k, within, is) = least_over h (lowered best (h o)) os q (k, omega arith, is)

pub least_bounds : (h : ℕ → ℤ) (os : List ℕ) (q : ℕ) → Contains os q → Bound (λ g. g ≤ℤ h q) (least_of (map h os))
unfolding least_of
least_bounds h os q one = least_over h None os q one

-- changes between two places of a part
sum_split : (o : ℕ) (xs : List (ℕ × ℤ)) (a b : ℕ) → a ≤ b → sum_for o (take b xs) ≡ sum_for o (take a xs) +ℤ sum_for o (drop a (take b xs))
sum_split o xs zero b below = omega (arith, ints)
sum_split o [] (suc a) zero below = absurd (omega arith)
sum_split o [] (suc a) (suc b) below = omega (arith, ints)
sum_split o (x ∷ xs) (suc a) zero below = absurd (omega arith)
sum_split o (x ∷ xs) (suc a) (suc b) below = omega (arith, ints, sum_for-cons o x (take b xs), sum_for-cons o x (take a xs), sum_split o xs a b (omega arith))

one_of_two : (a b : Bool) (w : ℕ) → (a ≡ true → b ≡ true → ⊥) → cond a w 0 + cond b w 0 ≤ w
one_of_two true true w apart = absurd (apart refl refl)
one_of_two true false w apart = omega arith
one_of_two false true w apart = omega arith
one_of_two false false w apart = omega arith

-- two objects move by no more than all changes
two_small : (t s : ℕ) (xs : List (ℕ × ℤ)) → (t ≡ s → ⊥) → weight_for t xs + weight_for s xs ≤ sizes xs
two_small t s [] apart = omega arith
two_small t s (x ∷ xs) apart =
    omega (
      arith,
      weight_for-cons t x xs,
      weight_for-cons s x xs,
      sum_by-cons (λ (c : ℕ × ℤ). unsigned_abs c.1) x xs,
      two_small t s xs apart,
      one_of_two (x.0 == t) (x.0 == s) (unsigned_abs x.1) (λ one two. apart (sym (exact_unsigned_eq x.0 t one) ∙ exact_unsigned_eq x.0 s two)),
    )

-- the weight of an object between two places of each part
abbrev pub weight_between : ℕ → List (List (ℕ × ℤ)) → List ℕ → List ℕ → ℕ
weight_between o parts earlier later = sum_by (λ (p : List (ℕ × ℤ) × (ℕ × ℕ)). weight_for o (drop p.1.0 (take p.1.1 p.0))) (zip parts (zip earlier later))

-- no place falls
pub record Rise (earlier later : List ℕ) : Type 0 where
  pub shape : length earlier ≡ length later
  pub each : (i : ℕ) → get_or earlier i 0 ≤ get_or later i 0

rise_tail : (a b : ℕ) (earlier later : List ℕ) → Rise (a ∷ earlier) (b ∷ later) → Rise earlier later
rise_tail a b earlier later rise = record { shape = omega (arith, rise.shape); each = λ i. rise.each (suc i) }

-- a value drifts by no more than its weight between the places
value_drift : (parts : List (List (ℕ × ℤ))) (earlier later : List ℕ) (o : ℕ) → Rise earlier later → unsigned_abs (value_of parts later o -ℤ value_of parts earlier o) ≤ weight_between o parts earlier later
value_drift [] earlier later o rise = omega (arith, ints)
value_drift (part ∷ parts) [] [] o rise = omega (arith, ints)
value_drift (part ∷ parts) [] (b ∷ later) o rise = absurd (omega (arith, rise.shape))
value_drift (part ∷ parts) (a ∷ earlier) [] o rise = absurd (omega (arith, rise.shape))
value_drift (part ∷ parts) (a ∷ earlier) (b ∷ later) o rise =
    omega (
      arith,
      ints,
      int_sum-cons (sum_for o (take b part)) (map (λ (p : List (ℕ × ℤ) × ℕ). sum_for o (take p.1 p.0)) (zip parts later)),
      int_sum-cons (sum_for o (take a part)) (map (λ (p : List (ℕ × ℤ) × ℕ). sum_for o (take p.1 p.0)) (zip parts earlier)),
      sum_by-cons (λ (p : List (ℕ × ℤ) × (ℕ × ℕ)). weight_for o (drop p.1.0 (take p.1.1 p.0))) (part, (a, b)) (zip parts (zip earlier later)),
      sum_split o part a b (rise.each 0),
      sum_for-size o (drop a (take b part)),
      value_drift parts earlier later o (rise_tail a b earlier later rise),
    )

-- two objects drift by no more than all changes between the places
two_between : (parts : List (List (ℕ × ℤ))) (pairs : List (ℕ × ℕ)) (t s : ℕ) → (t ≡ s → ⊥) → sum_by (λ (p : List (ℕ × ℤ) × (ℕ × ℕ)). weight_for t (drop p.1.0 (take p.1.1 p.0))) (zip parts pairs) + sum_by (λ (p : List (ℕ × ℤ) × (ℕ × ℕ)). weight_for s (drop p.1.0 (take p.1.1 p.0))) (zip parts pairs) ≤ sum_by (λ (p : List (ℕ × ℤ) × (ℕ × ℕ)). sizes (drop p.1.0 (take p.1.1 p.0))) (zip parts pairs)
two_between [] pairs t s apart = omega arith
two_between (part ∷ parts) [] t s apart = omega arith
two_between (part ∷ parts) (q ∷ pairs) t s apart =
    omega (
      arith,
      sum_by-cons (λ (p : List (ℕ × ℤ) × (ℕ × ℕ)). weight_for t (drop p.1.0 (take p.1.1 p.0))) (part, q) (zip parts pairs),
      sum_by-cons (λ (p : List (ℕ × ℤ) × (ℕ × ℕ)). weight_for s (drop p.1.0 (take p.1.1 p.0))) (part, q) (zip parts pairs),
      sum_by-cons (λ (p : List (ℕ × ℤ) × (ℕ × ℕ)). sizes (drop p.1.0 (take p.1.1 p.0))) (part, q) (zip parts pairs),
      two_small t s (drop q.0 (take q.1 part)) apart,
      two_between parts pairs t s apart,
    )

-- places never fall
raised_grows : (g : ℕ) (trail more : List Entry) → raised_of g trail ≤ raised_of g (trail ++ more)
raised_grows g trail more = omega (arith, sum_by-append (λ x. cond (is_raise_of g x) 1 0) trail more)

rise_at : (a b : ℕ) (xs ys : List ℕ) → a ≤ b → Rise xs ys → (i : ℕ) → get_or (a ∷ xs) i 0 ≤ get_or (b ∷ ys) i 0
rise_at a b xs ys below rest zero = below
rise_at a b xs ys below rest (suc i) = rest.each i

placed_rise : (r s : ℕ → ℕ) (a : ℕ) (xs : List ℕ) → ((g : ℕ) → r g ≤ s g) → Rise (map (λ (p : ℕ × ℕ). p.1 + r p.0) (enumerate_from a xs)) (map (λ (p : ℕ × ℕ). p.1 + s p.0) (enumerate_from a xs))
placed_rise r s a [] grows = record { shape = refl; each = λ i. omega arith }
placed_rise r s a (x ∷ xs) grows =
    let rest = placed_rise r s (a + 1) xs grows in
    record { shape = omega (arith, rest.shape); each = λ i. rise_at (x + r a) (x + s a) _ _ (omega (arith, grows a)) rest i }

pub places_rise : (setup : MonitorSetup) (trail more : List Entry) → Rise (places_at setup trail) (places_at setup (trail ++ more))
unfolding places_at
places_rise setup trail more = placed_rise (λ g. raised_of g trail) (λ g. raised_of g (trail ++ more)) 1 setup.from (λ g. raised_grows g trail more)

-- where the same Assigns were taken, a level drifts by its weight between the places
pub level_drift : (setup : MonitorSetup) (earlier later : List Entry) (o : ℕ) → Rise (places_at setup earlier) (places_at setup later) → assigns_of later ≡ assigns_of earlier → unsigned_abs (level_of setup later o -ℤ level_of setup earlier o) ≤ weight_between o setup.parts (places_at setup earlier) (places_at setup later)
unfolding level_of value_of_object
level_drift setup earlier later o rise same =
    omega (
      arith,
      ints,
      value_drift setup.parts (places_at setup earlier) (places_at setup later) o rise,
      ap (λ assigns. row assigns o) same,
    )

-- the slack falls by no more than the changes between
slack_step : (least now_least greatest now_greatest : ℤ) (a b c d : ℤ) (wt ws moved : ℕ) → least ≤ℤ a → b ≤ℤ greatest → now_least ≡ c → now_greatest ≡ d → unsigned_abs (c -ℤ a) ≤ wt → unsigned_abs (d -ℤ b) ≤ ws → wt + ws ≤ moved → pos moved ≤ℤ (least -ℤ greatest) → (now_least -ℤ now_greatest) <ℤ pos 0 → ⊥
slack_step least now_least greatest now_greatest a b c d wt ws moved e1 e2 e3 e4 e5 e6 e7 e8 e9 = omega (arith, ints)

-- the level under a number of an object, over places that rise
level_at_drift : (setup : MonitorSetup) (earlier later : List Entry) → Rise (places_at setup earlier) (places_at setup later) → assigns_of later ≡ assigns_of earlier → (o : ℕ) → 1 ≤ o → unsigned_abs (level_at (levels_of setup later) o -ℤ level_at (levels_of setup earlier) o) ≤ weight_between o setup.parts (places_at setup earlier) (places_at setup later)
level_at_drift setup earlier later rise same o low =
    elim (cases_lt setup.objects o) [
      | inl past ↦ omega (
        arith,
        ints,
        get_or_past (levels_of setup later) (o - 1) (pos 0) (omega (arith, past, length-levels_of setup later)),
        get_or_past (levels_of setup earlier) (o - 1) (pos 0) (omega (arith, past, length-levels_of setup earlier)),
      )
      | inr within ↦ omega (arith, ints, level_drift setup earlier later o rise same, level_at-levels_of setup later o low within, level_at-levels_of setup earlier o low within)
    ]

-- a number from 1 under which the same level stands
from_one : ℕ → ℕ
from_one zero = 1
from_one (suc k) = suc k

from_one_low : (o : ℕ) → 1 ≤ from_one o
unfolding from_one
from_one_low zero = omega arith
from_one_low (suc k) = omega arith

from_one_level : (levels : List ℤ) (o : ℕ) → level_at levels (from_one o) ≡ level_at levels o
unfolding from_one
from_one_level levels zero = refl
from_one_level levels (suc k) = refl

calm_over : (setup : MonitorSetup) (earlier later : List Entry) → Rise (places_at setup earlier) (places_at setup later) → assigns_of later ≡ assigns_of earlier → (l g l' g' : Option ℤ) → least_member (levels_of setup earlier) (members_at earlier) ≡ l → greatest_outside (levels_of setup earlier) (members_at earlier) ≡ g → least_member (levels_of setup later) (members_at later) ≡ l' → greatest_outside (levels_of setup later) (members_at later) ≡ g' → IsWithinSlack (sizes_between setup.parts (places_at setup earlier) (places_at setup later)) (difference l g) → is_negative (difference l' g') ≡ true → ⊥
calm_over setup earlier later rise same l g None g' a b c d within negative = cc
calm_over setup earlier later rise same l g (Some x) None a b c d within negative = cc
calm_over setup earlier later rise same l g (Some x) (Some y) a b c d within negative =
    let old = levels_of setup earlier in
    let now = levels_of setup later in
    let members : members_at later ≡ members_at earlier = ap members_of same in
    let size : length now ≡ length old = length-levels_of setup later ∙ sym (length-levels_of setup earlier) in
    let low = least_reached (level_at now) (members_at later) x c in
    let high = greatest_reached (level_at now) (outside (length now) (members_at later)) y d in
    let t = from_one low.object in
    let s = from_one high.object in
    let least = least_bounds (level_at old) (members_at earlier) low.object (subst (λ (os : List ℕ). Contains os low.object) members low.one) in
    let greatest = greatest_bounds (level_at old) (outside (length old) (members_at earlier)) high.object
    (subst (λ (os : List ℕ). Contains os high.object) (ap₂ outside size members) high.one) in
    let slack : pos (sizes_between setup.parts (places_at setup earlier) (places_at setup later)) ≤ℤ (least.value -ℤ greatest.value) =
    subst (λ (r : Option ℤ). IsWithinSlack (sizes_between setup.parts (places_at setup earlier) (places_at setup later)) r) (ap₂ difference (sym a ∙ least.is) (sym b ∙ greatest.is)) within in
    let below : (x -ℤ y) <ℤ pos 0 = below_is (x -ℤ y) (pos 0) negative in
    elim (cases_eq t s) [
      | inl same_one ↦
          omega (arith, ints, below, low.level, high.level, from_one_level now low.object, from_one_level now high.object, ap (level_at now) same_one)
      | inr apart ↦
          slack_step least.value x greatest.value y (level_at old t) (level_at old s) (level_at now t) (level_at now s)
          (weight_between t setup.parts (places_at setup earlier) (places_at setup later))
          (weight_between s setup.parts (places_at setup earlier) (places_at setup later))
          (sizes_between setup.parts (places_at setup earlier) (places_at setup later))
          (omega (arith, ints, least.holds, from_one_level old low.object))
          (omega (arith, ints, greatest.holds, from_one_level old high.object))
          (sym low.level ∙ sym (from_one_level now low.object))
          (sym high.level ∙ sym (from_one_level now high.object))
          (level_at_drift setup earlier later rise same t (from_one_low low.object))
          (level_at_drift setup earlier later rise same s (from_one_low high.object))
          (two_between setup.parts (zip (places_at setup earlier) (places_at setup later)) t s apart)
          slack
          below
    ]

pub calm_within : (setup : MonitorSetup) (earlier later : List Entry) → Rise (places_at setup earlier) (places_at setup later) → assigns_of later ≡ assigns_of earlier → IsWithinSlack (moved_between setup earlier later) (slack_of setup earlier) → is_negative (slack_of setup later) ≡ true → ⊥
unfolding slack_of moved_between
calm_within setup earlier later rise same within negative =
    calm_over setup earlier later rise same
    (least_member (levels_of setup earlier) (members_at earlier)) (greatest_outside (levels_of setup earlier) (members_at earlier))
    (least_member (levels_of setup later) (members_at later)) (greatest_outside (levels_of setup later) (members_at later))
    refl refl refl refl within negative
