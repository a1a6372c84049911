-- The short test.
use Rattle.std.proofs.Common.{◌≡◌, ℕ, ◌+◌, ◌<◌, ℤ, pos, ◌+ℤ◌, ◌-ℤ◌, ◌≤ℤ◌, ◌<ℤ◌, List, [], ◌∷◌, length, get_or, Contains, Option, Some, None, Bool, true, false, cond, if◌then◌else◌, refl, sym, ap, ◌∙◌, subst, arith, inl, inr, ◌⊎◌}
use Rattle.std.specs.Prelude.{unwrap_or, int_lt, IfSome}
use Rattle.std.specs.List.{All}
use Rattle.std.specs.Int.{int_max}
use Rattle.std.proofs.lemmas.Int.{ints, clamps}
use Rattle.std.proofs.lemmas.Bool.{cases_Bool, cases_lt, true≢false}
use Rattle.std.proofs.lemmas.List.{length-map, get_or_default}
use Rattle.tk_base.specs.Objects.{is_in}
use Rattle.tk_base.specs.Pairs.{objects_of}
use Rattle.tk_base.specs.Settings.{Setup}
use Rattle.tk_base.proofs.MemberLemmas.{contained_is_in, is_in_contained, outside_is_not_in}
use Rattle.tk_border.specs.Levels.{raised}
use Rattle.tk_rows.specs.Factors.{Grid, factor_at}
use Rattle.tk_alloc.specs.declared.reported.Reported.{Reported}
use Rattle.tk_alloc.specs.Search.{joint_of, IsAtMost, IsReachedBelow}
use Rattle.tk_alloc.specs.Parts.{leeway}
use Rattle.tk_alloc.specs.Resolving.{round_parts, round_border, PassesShortTest}
use Rattle.tk_alloc.proofs.LeewayLemmas.{value_put}
use Rattle.tk_alloc.proofs.PartLemmas.{IsRead}

-- the object at a place of a report
abbrev pub object_at : Reported → ℕ → ℕ
object_at report i = get_or (objects_of report.values) i 0

-- the joint level as the code reads it
pub joint_is : (grid : Grid) (report : Reported) (i o : ℕ) (v f g : ℤ) → IsRead report.values (objects_of report.values) i o v → f ≡ factor_at grid 0 o → g ≡ factor_at grid report.mon.0 o
    → (f +ℤ g +ℤ v) ≡ joint_of grid report (object_at report i)
joint_is grid report i o v f g read own at =
    ap (λ (z : ℤ). z +ℤ g +ℤ v) own
    ∙ ap (λ (z : ℤ). factor_at grid 0 o +ℤ z +ℤ v) at
    ∙ ap (λ (z : ℤ). factor_at grid 0 o +ℤ factor_at grid report.mon.0 o +ℤ z) (sym read.value)
    ∙ ap (joint_of grid report) (sym read.at)

-- the greatest level of the first objects that are no members
pub record IsLead (grid : Grid) (members : List ℕ) (report : Reported) (n : ℕ) (greatest : Option ℤ) : Type 0 where
  pub bound : (i : ℕ) → i < n → is_in members (object_at report i) ≡ false → IsAtMost (joint_of grid report (object_at report i)) greatest
  pub reached : IfSome greatest (IsReachedBelow grid members report n)

at_most_up : (g : Option ℤ) (z r : ℤ) → IsAtMost z g → IfSome g (λ x. x ≤ℤ r) → z ≤ℤ r
at_most_up None z r h up = absurd h
at_most_up (Some x) z r h up = omega (arith, ints)

reached_more : (grid : Grid) (members : List ℕ) (report : Reported) (n : ℕ) (g : Option ℤ) → IfSome g (IsReachedBelow grid members report n) → IfSome g (IsReachedBelow grid members report (n + 1))
reached_more grid members report n None h = h
reached_more grid members report n (Some x) (i, below, out, is) = (i, omega arith, out, is)

pub lead_kept : (grid : Grid) (members : List ℕ) (report : Reported) (n : ℕ) (old : Option ℤ) → IsLead grid members report n old → is_in members (object_at report n) ≡ true → IsLead grid members report (n + 1) old
lead_kept grid members report n old lead member = record {
  bound = λ i below out. elim (cases_lt i n) [
    | inl lt ↦ lead.bound i lt out
    | inr ge ↦ let e : i ≡ n = omega arith in absurd (true≢false (sym member ∙ ap (λ (m : ℕ). is_in members (object_at report m)) (sym e) ∙ out))
  ];
  reached = reached_more grid members report n old lead.reached;
}

at_some : (grid : Grid) (members : List ℕ) (report : Reported) (n : ℕ) (old : Option ℤ) (r : ℤ) → old ≡ Some r → IfSome old (IsReachedBelow grid members report n) → IsReachedBelow grid members report (n + 1) r
at_some grid members report n old r e h =
    let here : IsReachedBelow grid members report n r = subst (λ (g : Option ℤ). IfSome g (IsReachedBelow grid members report n)) e h in
    (here.0, omega (arith, here.1), here.2, here.3)

lead_raised : (grid : Grid) (members : List ℕ) (report : Reported) (n : ℕ) (old : Option ℤ) (z r : ℤ) → IsLead grid members report n old → is_in members (object_at report n) ≡ false → joint_of grid report (object_at report n) ≡ z
    → z ≤ℤ r → IfSome old (λ g. g ≤ℤ r) → (r ≡ z) ⊎ (old ≡ Some r) → IsLead grid members report (n + 1) (Some r)
lead_raised grid members report n old z r lead out is up before one = record {
  bound = λ i below other. elim (cases_lt i n) [
    | inl lt ↦ at_most_up old (joint_of grid report (object_at report i)) r (lead.bound i lt other) before
    | inr ge ↦ let e : i ≡ n = omega arith in
        subst (λ (m : ℕ). joint_of grid report (object_at report m) ≤ℤ r) (sym e) (subst (λ (x : ℤ). x ≤ℤ r) (sym is) up)
  ];
  reached = elim one [
    | inl new ↦ (n, omega arith, out, is ∙ sym new)
    | inr same ↦ at_some grid members report n old r same lead.reached
  ];
}

-- one more object that is no member
pub lead_more : (grid : Grid) (members : List ℕ) (report : Reported) (n : ℕ) (old : Option ℤ) (z : ℤ) → IsLead grid members report n old → is_in members (object_at report n) ≡ false → joint_of grid report (object_at report n) ≡ z
    → IsLead grid members report (n + 1) (raised old z)
lead_more grid members report n None z lead out is = lead_raised grid members report n None z z lead out is (omega (arith, ints)) tt (inl refl)
lead_more grid members report n (Some x) z lead out is =
    let one : (int_max x z ≡ z) ⊎ (Some x ≡ Some (int_max x z)) = elim (cases_Bool (int_lt z x)) [
      | inl less ↦ inr (sym (ap (λ b. Some (cond b x z)) less))
      | inr more ↦ inl (ap (λ b. cond b x z) more)
    ] in
    lead_raised grid members report n (Some x) z (int_max x z) lead out is (omega (arith, ints, clamps)) (omega (arith, ints, clamps)) one

-- ---- the test

short_leeway : (setup : Setup) (grid : Grid) (present : List ℕ) (report : Reported) (o : ℕ) → Contains (objects_of report.values) o
    → leeway grid (round_parts setup grid present present (objects_of report.values) (report ∷ [])) o
    ≡ joint_of grid report o +ℤ (if is_in present o then setup.epsilon else pos 0) -ℤ round_border setup grid present (objects_of report.values) -ℤ report.border
unfolding leeway
short_leeway setup grid present report o in' =
    let extra = ap (λ (v : Option ℤ). unwrap_or v (pos 0)) (value_put (λ q. if is_in present q then setup.epsilon else pos 0) (objects_of report.values) o in') in
    omega (arith, ints, extra)

place_of : (report : Reported) (o : ℕ) → Contains (objects_of report.values) o → (i : ℕ) × (i < length report.values) × (object_at report i ≡ o)
place_of report o (k, within, is) = (k, omega (arith, within, length-map report.values (λ (p : ℕ × ℤ). p.0)), get_or_default (objects_of report.values) k 0 o within ∙ is)

-- the members that the code has seen are not below the greatest failed object
abbrev pub AreAbove : Setup → Grid → List ℕ → Reported → ℕ → ℤ → Type 0
AreAbove setup grid members report n greatest =
    (i : ℕ) → i < n → is_in members (object_at report i) ≡ true → greatest ≤ℤ (joint_of grid report (object_at report i) +ℤ setup.epsilon)

extra_of : (b c : Bool) (e : ℤ) → b ≡ c → (if b then e else pos 0) ≡ (if c then e else pos 0)
extra_of b c e h = ap (λ x. if x then e else pos 0) h

pub passes : (setup : Setup) (grid : Grid) (present : List ℕ) (report : Reported) (greatest : ℤ) → All (Contains (objects_of report.values)) present → IsLead grid present report (length report.values) (Some greatest)
    → AreAbove setup grid present report (length report.values) greatest → PassesShortTest setup grid present report
passes setup grid present report greatest within lead above t s in' out at =
    let objects = objects_of report.values in
    let t_in : Contains objects t = subst (Contains objects) in'.2 (within in'.0 t in'.1) in
    let is_t : is_in present t ≡ true = contained_is_in present t in' in
    let is_s : is_in present s ≡ false = outside_is_not_in present s out in
    let pt = place_of report t t_in in
    let ps = place_of report s at in
    let low : joint_of grid report s ≤ℤ greatest =
    subst (λ (o : ℕ). joint_of grid report o ≤ℤ greatest) ps.2 (lead.bound ps.0 ps.1 (ap (is_in present) ps.2 ∙ is_s)) in
    let high : greatest ≤ℤ (joint_of grid report t +ℤ setup.epsilon) =
    subst (λ (o : ℕ). greatest ≤ℤ (joint_of grid report o +ℤ setup.epsilon)) pt.2 (above pt.0 pt.1 (ap (is_in present) pt.2 ∙ is_t)) in
    let extra_t : (if is_in present t then setup.epsilon else pos 0) ≡ setup.epsilon = extra_of (is_in present t) true setup.epsilon is_t in
    let extra_s : (if is_in present s then setup.epsilon else pos 0) ≡ pos 0 = extra_of (is_in present s) false setup.epsilon is_s in
    omega (arith, ints, low, high, extra_t, extra_s, short_leeway setup grid present report t t_in, short_leeway setup grid present report s at)

-- where no object failed, the test holds
pub passes_alone : (setup : Setup) (grid : Grid) (present : List ℕ) (report : Reported) → IsLead grid present report (length report.values) None → PassesShortTest setup grid present report
passes_alone setup grid present report lead t s in' out at =
    let ps = place_of report s at in
    absurd (lead.bound ps.0 ps.1 (ap (is_in present) ps.2 ∙ outside_is_not_in present s out))

-- a member that is too low makes it fail
pub fails : (setup : Setup) (grid : Grid) (present : List ℕ) (report : Reported) (greatest : ℤ) (i : ℕ) → IsLead grid present report (length report.values) (Some greatest) → i < length report.values
    → is_in present (object_at report i) ≡ true → (joint_of grid report (object_at report i) +ℤ setup.epsilon) <ℤ greatest → PassesShortTest setup grid present report → ⊥
fails setup grid present report greatest i lead within member low passed =
    let objects = objects_of report.values in
    let t = object_at report i in
    let (j, below, out, reached) = lead.reached in
    let s = object_at report j in
    let inside : i < length objects = omega (arith, within, length-map report.values (λ (p : ℕ × ℤ). p.0)) in
    let among : j < length objects = omega (arith, below, length-map report.values (λ (p : ℕ × ℤ). p.0)) in
    let t_in : Contains objects t = (i, inside, get_or_default objects i t 0 inside) in
    let s_in : Contains objects s = (j, among, get_or_default objects j s 0 among) in
    let left : Contains present s → ⊥ = λ found. true≢false (sym (contained_is_in present s found) ∙ out) in
    let told = passed t s (is_in_contained present t member) left s_in in
    let extra_t : (if is_in present t then setup.epsilon else pos 0) ≡ setup.epsilon = extra_of (is_in present t) true setup.epsilon member in
    let extra_s : (if is_in present s then setup.epsilon else pos 0) ≡ pos 0 = extra_of (is_in present s) false setup.epsilon out in
    absurd (omega (arith, ints, told, low, reached, extra_t, extra_s, short_leeway setup grid present report t t_in, short_leeway setup grid present report s s_in))
