-- Something is broken exactly where the slack is negative.
use Rattle.std.proofs.Common.{◌≡◌, ℕ, suc, Bool, true, false, ◌||◌, cond, List, [], ◌∷◌, length, map, Option, Some, None, refl, sym, ap, ◌∙◌, arith}
use Rattle.std.specs.Prelude.{ℤ, pos, ◌-ℤ◌, ◌<ℤ◌, int_lt, fold, filter, nat_lt}
use Rattle.std.specs.Ordering.{int_cmp, is_lt}
use Rattle.std.proofs.Math.Bool.{or-false}
use Rattle.std.proofs.lemmas.Bool.{lt-ltb}
use Rattle.std.proofs.lemmas.Int.{ints, by_lt_z}
use Rattle.tk_base.proofs.CompareLemmas.{lt_is, ge_is, lt-cmp, max_over}
use Rattle.tk_border.specs.Levels.{level_at, raised, greatest_of, least_member, greatest_outside, outside, broken, is_above}
use Rattle.tk_trail.specs.Setup.{MonitorSetup}
use Rattle.tk_trail.specs.Readings.{levels_of, members_at, broken_at, is_broken}
use Rattle.tk_trail.specs.Slack.{difference, slack_of}
use Rattle.tk_trail.specs.declared.entry.Entry.{Entry}

pub below_is : (a b : ℤ) → int_lt a b ≡ true → a <ℤ b
below_is a b is = by_lt_z a b (λ below. below) (λ above. absurd (let e = ge_is a b above in cc))

or_true_left : (a b : Bool) → a ≡ true → a ≡ (a || b)
or_true_left true b is = refl
or_true_left false b is = cc

or_false_left : (a b : Bool) → a ≡ false → b ≡ (a || b)
or_false_left true b is = cc
or_false_left false b is = refl

or_false_right : (a b : Bool) → b ≡ false → a ≡ (a || b)
or_false_right true b is = refl
or_false_right false b is = sym is

-- some number of a list is above x where its greatest is
pub exceeds : ℤ → Option ℤ → Bool
exceeds x None = false
exceeds x (Some g) = int_lt x g

exceeds_more : (x : ℤ) (best : Option ℤ) (y : ℤ) → exceeds x (raised best y) ≡ (exceeds x best || int_lt x y)
unfolding exceeds
exceeds_more x None y = refl
exceeds_more x (Some a) y = max_over x a y

or_regroup : (a b c : Bool) → (a || (b || c)) ≡ ((a || b) || c)
or_regroup true b c = refl
or_regroup false b c = refl

kept_first : (b : Bool) (o : ℕ) (rest : List ℕ) → nat_lt 0 (length (cond b (o ∷ rest) rest)) ≡ (b || nat_lt 0 (length rest))
kept_first true o rest = lt-ltb 0 (suc (length rest)) (omega arith)
kept_first false o rest = refl

kept_above : (x : ℤ) (h : ℕ → ℤ) (best : Option ℤ) (os : List ℕ) → (exceeds x best || nat_lt 0 (length (filter (λ o. is_lt (int_cmp x (h o))) os))) ≡ exceeds x (fold raised best (map h os))
kept_above x h best [] = or-false (exceeds x best)
kept_above x h best (o ∷ os) =
    let rest = nat_lt 0 (length (filter (λ q. is_lt (int_cmp x (h q))) os)) in
    ap (λ b. exceeds x best || b) (kept_first (is_lt (int_cmp x (h o))) o (filter (λ q. is_lt (int_cmp x (h q))) os))
    ∙ ap (λ b. exceeds x best || (b || rest)) (lt-cmp x (h o))
    ∙ or_regroup (exceeds x best) (int_lt x (h o)) rest
    ∙ ap (λ b. b || rest) (sym (exceeds_more x best (h o)))
    ∙ kept_above x h (raised best (h o)) os

-- whether a slack that is there is negative
abbrev pub is_negative : Option ℤ → Bool
is_negative None = false
is_negative (Some z) = int_lt z (pos 0)

shifted : (x g : ℤ) → int_lt x g ≡ int_lt (x -ℤ g) (pos 0)
shifted x g = by_lt_z x g (λ below. lt_is x g below ∙ sym (lt_is (x -ℤ g) (pos 0) (omega (arith, ints)))) (λ above. ge_is x g above ∙ sym (ge_is (x -ℤ g) (pos 0) (omega (arith, ints))))

exceeds_slack : (x : ℤ) (best : Option ℤ) → exceeds x best ≡ is_negative (difference (Some x) best)
unfolding exceeds
exceeds_slack x None = refl
exceeds_slack x (Some g) = shifted x g

-- no object is above nothing
pub none_kept : (h : ℕ → ℤ) (os : List ℕ) → filter (λ o. is_above None (h o)) os ≡ []
none_kept h [] = refl
none_kept h (o ∷ os) = none_kept h os

broken_over : (least : Option ℤ) (h : ℕ → ℤ) (os : List ℕ) → nat_lt 0 (length (filter (λ o. is_above least (h o)) os)) ≡ is_negative (difference least (fold raised None (map h os)))
unfolding exceeds
broken_over None h os = ap (λ (kept : List ℕ). nat_lt 0 (length kept)) (none_kept h os)
broken_over (Some x) h os = kept_above x h None os ∙ exceeds_slack x (fold raised None (map h os))

pub broken-slack : (levels : List ℤ) (members : List ℕ) → nat_lt 0 (length (broken levels members)) ≡ is_negative (difference (least_member levels members) (greatest_outside levels members))
unfolding greatest_of
broken-slack levels members = broken_over (least_member levels members) (level_at levels) (outside (length levels) members)

pub is_broken-slack : (setup : MonitorSetup) (trail : List Entry) → is_broken setup trail ≡ is_negative (slack_of setup trail)
unfolding broken_at slack_of
is_broken-slack setup trail = broken-slack (levels_of setup trail) (members_at trail)
