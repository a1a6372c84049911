-- Where nothing is broken, no outsider is above a member.
use Rattle.std.proofs.Common.{◌≡◌, ℕ, ◌≤◌, ℤ, ◌≤ℤ◌, Bool, false, List, [], ◌∷◌, length, Contains, Option, Some, None, refl, sym, ap, not, ◌∙◌, arith}
use Rattle.std.specs.Prelude.{filter, nat_lt}
use Rattle.std.proofs.lemmas.Bool.{ltb-false}
use Rattle.std.proofs.lemmas.Int.{ints}
use Rattle.tk_base.specs.Objects.{is_in, objects}
use Rattle.tk_border.specs.Levels.{level_at, least_member, outside, broken, is_above}
use Rattle.tk_base.specs.Ascending.{IsAscending}
use Rattle.tk_base.proofs.BoolLemmas.{right_fails}
use Rattle.tk_base.proofs.CompareLemmas.{above_not}
use Rattle.tk_base.proofs.MemberLemmas.{contained_is_in}
use Rattle.tk_border.proofs.RisingLemmas.{ascends, is_in-filter, rises-filter, rises-objects}
use Rattle.tk_border.proofs.MembershipLemmas.{in_outside}
use Rattle.tk_trail.specs.Setup.{MonitorSetup}
use Rattle.tk_trail.specs.Readings.{broken_at, is_broken, level_of, levels_of, members_at}
use Rattle.tk_trail.specs.declared.entry.Entry.{Entry}
use Rattle.tk_trail.proofs.LevelsLemmas.{length-levels_of, level_at-levels_of}
use Rattle.tk_trail.proofs.SlackLemmas.{least_bounds}

nothing : (xs : List ℕ) → nat_lt 0 (length xs) ≡ false → xs ≡ []
nothing [] e = refl
nothing (x ∷ xs) e = absurd (let l = ltb-false 0 (length (x ∷ xs)) e in omega (arith, l))

none_at : (p : ℕ → Bool) (xs : List ℕ) (o : ℕ) → nat_lt 0 (length (filter p xs)) ≡ false → Contains xs o → p o ≡ false
none_at p xs o none in' = right_fails (is_in xs o) (p o) (contained_is_in xs o in') (sym (is_in-filter p xs o) ∙ ap (λ ys. is_in ys o) (nothing (filter p xs) none))

under_least : (least : Option ℤ) (x y z : ℤ) → least ≡ Some x → is_above least y ≡ false → x ≤ℤ z → y ≤ℤ z
under_least None x y z is low under = absurd (cc)
under_least (Some q) x y z is low under = let same : q ≡ x = cc in let h = above_not q y low in omega (arith, ints, h, under, same)

pub ordered : (levels : List ℤ) (members : List ℕ) (t o : ℕ) → nat_lt 0 (length (broken levels members)) ≡ false → Contains members t → (Contains members o → ⊥) → 1 ≤ o → o ≤ length levels → level_at levels o ≤ℤ level_at levels t
ordered levels members t o none in' out low high =
    let b = least_bounds (level_at levels) members t in' in
    under_least (least_member levels members) b.value (level_at levels o) (level_at levels t) b.is
    (none_at (λ q. is_above (least_member levels members) (level_at levels q)) (outside (length levels) members) o none (in_outside (length levels) members o low high out)) b.holds

pub in_order : (setup : MonitorSetup) (trail : List Entry) (t o : ℕ) → is_broken setup trail ≡ false → Contains (members_at trail) t → (Contains (members_at trail) o → ⊥) → 1 ≤ t → t ≤ setup.objects → 1 ≤ o → o ≤ setup.objects → level_of setup trail o ≤ℤ level_of setup trail t
unfolding broken_at
in_order setup trail t o none in' out t_low t_high low high =
    let h = ordered (levels_of setup trail) (members_at trail) t o none in' out low (let l = length-levels_of setup trail in omega (arith, l, high)) in
    let a = level_at-levels_of setup trail t t_low t_high in
    let b = level_at-levels_of setup trail o low high in
    omega (arith, ints, h, a, b)

-- what is broken ascends
pub broken_ascends : (setup : MonitorSetup) (trail : List Entry) → IsAscending (broken_at setup trail)
unfolding broken_at
broken_ascends setup trail =
    let levels = levels_of setup trail in
    let members = members_at trail in
    ascends (broken levels members)
    (rises-filter (λ o. is_above (least_member levels members) (level_at levels o)) 0 (outside (length levels) members)
    (rises-filter (λ o. not (is_in members o)) 0 (objects (length levels)) (rises-objects (length levels))))
