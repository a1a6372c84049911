-- Where no outsider is above a member, nothing is broken; and what is outside a round is at most its border.
use Rattle.std.proofs.Common.{◌≡◌, ℕ, ◌<◌, ◌≤◌, ℤ, pos, ◌≤ℤ◌, Bool, true, false, List, [], ◌∷◌, length, map, get_or, Contains, Option, Some, None, refl, sym, ap, ◌∙◌, subst, arith}
use Rattle.std.specs.Prelude.{filter, nat_lt, IsSome, unwrap_or}
use Rattle.std.specs.List.{All}
use Rattle.std.specs.Ordering.{int_cmp, is_lt}
use Rattle.std.proofs.lemmas.Bool.{false≢true}
use Rattle.std.proofs.lemmas.Int.{ints, clamps}
use Rattle.std.proofs.lemmas.List.{get_or_default, length-map}
use Rattle.std.proofs.lemmas.List.Elements.{All-map}
use Rattle.tk_base.specs.Objects.{is_in}
use Rattle.tk_base.proofs.BoolLemmas.{right_fails}
use Rattle.tk_base.proofs.CompareLemmas.{ge_is, lt-cmp, above_not}
use Rattle.tk_base.proofs.ListLemmas.{contained_behind}
use Rattle.tk_base.proofs.MemberLemmas.{contained_is_in, outside_is_not_in}
use Rattle.tk_border.specs.Levels.{level_at, least_member, greatest_outside, outside, broken, is_above, border, lesser}
use Rattle.tk_border.proofs.RisingLemmas.{is_in-filter}
use Rattle.tk_border.proofs.LevelLemmas.{least_reached, least_some}
use Rattle.tk_border.proofs.MembershipLemmas.{in_outside}
use Rattle.tk_alloc.proofs.BorderLemmas.{greatest_covers, greatest_there, mapped_in, of_outside}
use Rattle.tk_alloc.proofs.WideLemmas.{of_catalogue}
use Rattle.tk_alloc.specs.Strain.{is_strained}

not_above : (x y : ℤ) → y ≤ℤ x → is_lt (int_cmp x y) ≡ false
not_above x y low = lt-cmp x y ∙ ge_is x y low

none_kept : (p : ℕ → Bool) (xs : List ℕ) → ((o : ℕ) → Contains xs o → p o ≡ false) → length (filter p xs) ≡ 0
none_kept p [] none = refl
none_kept p (x ∷ xs) none = rw (none x (0, omega arith, refl)) (none_kept p xs (λ o in'. none o (contained_behind x o xs in')))

all_by : (P : ℕ → Type 0) (xs : List ℕ) → ((o : ℕ) → Contains xs o → P o) → All P xs
all_by P xs each k d within = each (get_or xs k d) (k, within, get_or_default xs k (get_or xs k d) d within)

-- no outsider is above a member
abbrev pub Ordered : List ℤ → List ℕ → Type 0
Ordered levels members = (t o : ℕ) → Contains members t → (Contains members o → ⊥) → 0 < o → o ≤ length levels → level_at levels o ≤ℤ level_at levels t

calm_at : (levels : List ℤ) (members : List ℕ) (least : Option ℤ) → least_member levels members ≡ least → Ordered levels members
    → length (filter (λ o. is_above least (level_at levels o)) (outside (length levels) members)) ≡ 0
calm_at levels members None e each = none_kept (λ o. is_above None (level_at levels o)) (outside (length levels) members) (λ o in'. refl)
calm_at levels members (Some x) e each =
    none_kept (λ o. is_above (Some x) (level_at levels o)) (outside (length levels) members) (λ o in'.
    let (of, out) = of_outside (length levels) members o in' in
    let range = of_catalogue (length levels) o of in
    not_above x (level_at levels o)
    (least_reached (λ z. level_at levels o ≤ℤ z) x (map (level_at levels) members)
    (All-map (λ z. level_at levels o ≤ℤ z) (level_at levels) members (all_by (λ t. level_at levels o ≤ℤ level_at levels t) members (λ t t_in. each t o t_in out range.0 range.1))) e))

pub calm_from : (levels : List ℤ) (members : List ℕ) → 0 < length members → Ordered levels members → is_strained levels members ≡ false
calm_from levels members some each = ap (nat_lt 0) (calm_at levels members (least_member levels members) refl each)

-- ---- the border of a monitor

-- an outsider that is not broken is not above the least member level
unbroken : (levels : List ℤ) (members : List ℕ) (o : ℕ) → 0 < o → o ≤ length levels → (Contains members o → ⊥) → (Contains (broken levels members) o → ⊥) → is_above (least_member levels members) (level_at levels o) ≡ false
unbroken levels members o some within out sound =
    let p : ℕ → Bool = λ q. is_above (least_member levels members) (level_at levels q) in
    let all = outside (length levels) members in
    right_fails (is_in all o) (p o) (contained_is_in all o (in_outside (length levels) members o some within out)) (sym (is_in-filter p all o) ∙ outside_is_not_in (filter p all) o sound)

below_border : (levels : List ℤ) (members objects : List ℕ) (o : ℕ) (least greatest : Option ℤ) → 0 < length members → least_member levels members ≡ least → greatest_outside levels objects ≡ greatest
    → is_above least (level_at levels o) ≡ false → Contains (outside (length levels) objects) o → level_at levels o ≤ℤ lesser (unwrap_or least (pos 0)) greatest
below_border levels members objects o None greatest some e f low in' =
    absurd (false≢true (subst IsSome e (least_some (map (level_at levels) members) (omega (arith, length-map members (level_at levels), some)))))
below_border levels members objects o (Some x) None some e f low in' =
    absurd (greatest_there (map (level_at levels) (outside (length levels) objects)) (level_at levels o) f (mapped_in (level_at levels) (outside (length levels) objects) o in'))
below_border levels members objects o (Some x) (Some g) some e f low in' =
    let high = greatest_covers (map (level_at levels) (outside (length levels) objects)) g (level_at levels o) f (mapped_in (level_at levels) (outside (length levels) objects) o in') in
    let under = above_not x (level_at levels o) low in
    omega (arith, ints, clamps, high, under)

-- where a set holds the members and whatever is broken, nothing outside it is above its border
pub border_bounds : (levels : List ℤ) (members objects : List ℕ) (o : ℕ) → 0 < length members → 0 < o → o ≤ length levels → ((t : ℕ) → Contains members t → Contains objects t) → ((q : ℕ) → Contains (broken levels members) q → Contains objects q)
    → (Contains objects o → ⊥) → level_at levels o ≤ℤ border levels members objects
border_bounds levels members objects o some from_one within among sound out =
    below_border levels members objects o (least_member levels members) (greatest_outside levels objects) some refl refl
    (unbroken levels members o from_one within (λ in'. out (among o in')) (λ in'. out (sound o in')))
    (in_outside (length levels) objects o from_one within out)
