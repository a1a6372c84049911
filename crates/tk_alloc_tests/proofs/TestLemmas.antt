-- What the tests' reports are.
use Rattle.std.proofs.Common.{◌≡◌, ℕ, suc, zero, ◌<◌, ◌≤◌, ◌^◌, ℤ, pos, ◌+ℤ◌, ◌≤ℤ◌, unsigned_abs, List, [], ◌∷◌, length, map, get_or, Contains, Some, None, refl, sym, ap, ap₂, ◌∙◌, subst, arith, inl, inr}
use Rattle.std.specs.List.{All, range_with_len}
use Rattle.std.proofs.lemmas.Int.{ints}
use Rattle.std.proofs.lemmas.Bool.{cases_eq}
use Rattle.std.proofs.lemmas.List.{length-map}
use Rattle.std.proofs.lemmas.List.Elements.{All-nil, All-cons}
use Rattle.tk_base.specs.Objects.{objects}
use Rattle.tk_base.specs.Pairs.{objects_of}
use Rattle.tk_base.specs.Settings.{Setup}
use Rattle.tk_border.specs.Levels.{level_at, least_of, greatest_of, least_member, outside, greatest_outside}
use Rattle.tk_rows.specs.Factors.{Grid, factor_at}
use Rattle.tk_alloc.specs.Parts.{value_of}
use Rattle.tk_alloc.specs.Resolving.{CanTakePart, IsReady, objects_over, own_factors, round_border}
use Rattle.tk_alloc.specs.declared.reported.Reported.{Reported}
use Rattle.tk_alloc.specs.Rounds.{AreValues, AreReports}
use Rattle.tk_alloc.proofs.BorderLemmas.{border_inside, own_level}

two_values : (a b : ℤ) → unsigned_abs a ≤ 2 ^ 100 → unsigned_abs b ≤ 2 ^ 100 → AreValues (1 ∷ 2 ∷ []) ((1, a) ∷ (2, b) ∷ [])
two_values a b small slight = record {
  same = refl;
  small = All-cons (λ (p : ℕ × ℤ). unsigned_abs p.1 ≤ 2 ^ 100) (1, a) ((2, b) ∷ []) small
      (All-cons (λ (p : ℕ × ℤ). unsigned_abs p.1 ≤ 2 ^ 100) (2, b) [] slight (All-nil (λ (p : ℕ × ℤ). unsigned_abs p.1 ≤ 2 ^ 100)));
}

-- two reports over two objects
pub two_reports : (rs : List Reported) (first second : Reported) (a b c d : ℤ) (monitors n : ℕ) → monitors ≡ 2 → n ≡ 2 → rs ≡ first ∷ second ∷ [] → first.mon.0 ≡ 1 → second.mon.0 ≡ 2
    → first.values ≡ (1, a) ∷ (2, b) ∷ [] → second.values ≡ (1, c) ∷ (2, d) ∷ [] → unsigned_abs a ≤ 2 ^ 100 → unsigned_abs b ≤ 2 ^ 100 → unsigned_abs c ≤ 2 ^ 100 → unsigned_abs d ≤ 2 ^ 100
    → AreReports monitors (objects n) rs
unfolding objects
two_reports rs first second a b c d monitors n m2 n2 is one other left right sa sb sc sd =
    let all : range_with_len 1 n ≡ 1 ∷ 2 ∷ [] = ap (range_with_len 1) n2 in
    record {
      order = ap (map (λ (r : Reported). r.mon.0)) is ∙ ap (λ (x : ℕ). x ∷ second.mon.0 ∷ []) one ∙ ap (λ (x : ℕ). 1 ∷ x ∷ []) other ∙ sym (ap (range_with_len 1) m2);
      values = subst (λ xs. All (λ r. AreValues (range_with_len 1 n) r.values) xs) (sym is)
          (subst (λ xs. All (λ r. AreValues xs r.values) (first ∷ second ∷ [])) (sym all)
          (All-cons (λ (r : Reported). AreValues (1 ∷ 2 ∷ []) r.values) first (second ∷ []) (subst (AreValues (1 ∷ 2 ∷ [])) (sym left) (two_values a b sa sb))
          (All-cons (λ (r : Reported). AreValues (1 ∷ 2 ∷ []) r.values) second [] (subst (AreValues (1 ∷ 2 ∷ [])) (sym right) (two_values c d sc sd)) (All-nil (λ (r : Reported). AreValues (1 ∷ 2 ∷ []) r.values)))));
    }

-- ---- rounds over two objects, of which the first is the only member

sole_place : (t : ℕ) → Contains (1 ∷ []) t → t ≡ 1
sole_place t (zero, within, is) = sym is
sole_place t (suc k, within, is) = absurd (omega arith)

sole : (xs : List ℕ) (t : ℕ) → xs ≡ 1 ∷ [] → Contains xs t → t ≡ 1
sole xs t is in' = sole_place t (subst (λ ys. Contains ys t) is in')

-- a table in which the own factors of both objects are 0
pub two_ready : (setup : Setup) (grid : Grid) (present all : List ℕ) → setup.k ≡ 1 → setup.objects ≡ 2 → setup.monitors ≡ 2 → pos 0 ≤ℤ setup.epsilon → length grid.rows ≡ 2 → grid.monitors ≡ 2
    → present ≡ 1 ∷ [] → all ≡ 1 ∷ 2 ∷ [] → factor_at grid 0 1 ≡ pos 0 → factor_at grid 0 2 ≡ pos 0 → IsReady setup grid present all
two_ready setup grid present all k objects monitors no_debt rows nodes members over first second = record {
  size = record { objects = rows ∙ sym objects; monitors = nodes ∙ sym monitors };
  count = ap length members ∙ sym k;
  members = subst (All (Contains all)) (sym members) (subst (λ xs. All (Contains xs) (1 ∷ [])) (sym over) (All-cons (Contains (1 ∷ 2 ∷ [])) 1 [] (0, omega arith, refl) (All-nil (Contains (1 ∷ 2 ∷ [])))));
  within = subst (All (λ o. o ≤ setup.objects)) (sym over) (All-cons (λ (o : ℕ). o ≤ setup.objects) 1 (2 ∷ []) (omega (arith, objects)) (All-cons (λ (o : ℕ). o ≤ setup.objects) 2 [] (omega (arith, objects)) (All-nil (λ (o : ℕ). o ≤ setup.objects))));
  own = λ t s in' out some within.
      let one = sole present t members in' in
      let two : s ≡ 2 = elim (cases_eq s 1) [
        | inl e ↦ absurd (out (subst (Contains present) (one ∙ sym e) in'))
        | inr other ↦ omega (arith, other)
      ] in
      omega (arith, ints, no_debt, first, second, ap (factor_at grid 0) one, ap (factor_at grid 0) two);
}

-- nothing is outside both objects
outside_none : (n : ℕ) (all : List ℕ) → n ≡ 2 → all ≡ 1 ∷ 2 ∷ [] → outside n all ≡ []
unfolding objects
outside_none n all two over = ap₂ outside two over

-- so there is no greatest level outside
greatest_none : (levels : List ℤ) (all : List ℕ) → length levels ≡ 2 → all ≡ 1 ∷ 2 ∷ [] → greatest_outside levels all ≡ None
unfolding greatest_of
greatest_none levels all two over = ap (λ (os : List ℕ). greatest_of (map (level_at levels) os)) (outside_none (length levels) all two over)

-- the least level of a member is that of the only one
least_sole : (levels : List ℤ) (present : List ℕ) → present ≡ 1 ∷ [] → least_member levels present ≡ Some (level_at levels 1)
unfolding least_of
least_sole levels present members = ap (λ (os : List ℕ). least_of (map (level_at levels) os)) members

-- the coordinator's border over both objects, where the member's own factor is 0, is epsilon
pub two_border : (setup : Setup) (grid : Grid) (present all : List ℕ) → length grid.rows ≡ 2 → present ≡ 1 ∷ [] → all ≡ 1 ∷ 2 ∷ [] → factor_at grid 0 1 ≡ pos 0 → round_border setup grid present all ≡ setup.epsilon
two_border setup grid present all rows members over first =
    let own = own_factors grid in
    let none = greatest_none own all (length-map grid.rows (λ (row : List ℤ). get_or row 0 (pos 0)) ∙ rows) over in
    let inside = border_inside setup grid present all (level_at own 1) none (least_sole own present members) in
    omega (arith, ints, inside, own_level grid 1, first)

-- a report of both objects
pub two_take : (grid : Grid) (present all : List ℕ) (report : Reported) (a b border factor : ℤ) → present ≡ 1 ∷ [] → all ≡ 1 ∷ 2 ∷ [] → report.values ≡ (1, a) ∷ (2, b) ∷ [] → report.border ≡ border
    → unsigned_abs a ≤ 2 ^ 100 → unsigned_abs b ≤ 2 ^ 100 → 0 < report.mon.0 → report.mon.0 ≤ grid.monitors → factor_at grid report.mon.0 1 ≡ factor → border ≤ℤ (a +ℤ factor) → pos 0 ≤ℤ (border +ℤ pos (2 ^ 113))
    → CanTakePart grid present all report
two_take grid present all report a b border factor members over values border_is small slight some within factor_is high low =
    let value : value_of report.values 1 ≡ a = ap (λ (ps : List (ℕ × ℤ)). value_of ps 1) values in
    record {
      values = subst (λ xs. AreValues xs report.values) (sym over) (subst (AreValues (1 ∷ 2 ∷ [])) (sym values) (two_values a b small slight));
      some = some;
      monitor = within;
      high = subst (All (λ t. report.border ≤ℤ (value_of report.values t +ℤ factor_at grid report.mon.0 t))) (sym members)
          (All-cons (λ (t : ℕ). report.border ≤ℤ (value_of report.values t +ℤ factor_at grid report.mon.0 t)) 1 [] (omega (arith, ints, value, border_is, factor_is, high)) (All-nil (λ (t : ℕ). report.border ≤ℤ (value_of report.values t +ℤ factor_at grid report.mon.0 t))));
      low = omega (arith, ints, border_is, low);
    }

-- two such reports
pub both_take : (grid : Grid) (present all : List ℕ) (reports : List Reported) (first second : Reported) → reports ≡ first ∷ second ∷ [] → CanTakePart grid present all first → CanTakePart grid present all second → All (CanTakePart grid present all) reports
both_take grid present all reports first second is one other =
    subst (All (CanTakePart grid present all)) (sym is) (All-cons (CanTakePart grid present all) first (second ∷ []) one (All-cons (CanTakePart grid present all) second [] other (All-nil (CanTakePart grid present all))))

pub over_both : (reports : List Reported) (first second : Reported) (a b : ℤ) → reports ≡ first ∷ second ∷ [] → first.values ≡ (1, a) ∷ (2, b) ∷ [] → objects_over reports ≡ 1 ∷ 2 ∷ []
over_both reports first second a b is values = ap objects_over is ∙ ap objects_of values

two_objects : objects 2 ≡ 1 ∷ 2 ∷ []
unfolding objects
two_objects = refl

pub both_reports : (rs : List Reported) (first second : Reported) (a b c d : ℤ) (monitors : ℕ) (all : List ℕ) → monitors ≡ 2 → all ≡ 1 ∷ 2 ∷ [] → rs ≡ first ∷ second ∷ [] → first.mon.0 ≡ 1 → second.mon.0 ≡ 2
    → first.values ≡ (1, a) ∷ (2, b) ∷ [] → second.values ≡ (1, c) ∷ (2, d) ∷ [] → unsigned_abs a ≤ 2 ^ 100 → unsigned_abs b ≤ 2 ^ 100 → unsigned_abs c ≤ 2 ^ 100 → unsigned_abs d ≤ 2 ^ 100
    → AreReports monitors all rs
both_reports rs first second a b c d monitors all m over is one other left right sa sb sc sd =
    subst (λ xs. AreReports monitors xs rs) (two_objects ∙ sym over) (two_reports rs first second a b c d monitors 2 m refl is one other left right sa sb sc sd)
