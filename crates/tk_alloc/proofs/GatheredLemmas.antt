-- A full round from the values that the code has computed.
use Rattle.std.proofs.Common.{◌≡◌, ℕ, ◌<◌, ◌≤◌, ℤ, pos, List, [], ◌∷◌, length, map, get_or, if◌then◌else◌, sym, ap, ◌∙◌, subst, arith}
use Rattle.std.specs.List.{All}
use Rattle.std.proofs.lemmas.List.{length-map, get_or_default}
use Rattle.tk_base.specs.Ascending.{IsAscending}
use Rattle.tk_base.specs.Objects.{is_in}
use Rattle.tk_base.specs.Pairs.{objects_of}
use Rattle.tk_base.specs.Settings.{Setup, IsWithinLimits}
use Rattle.tk_base.proofs.AscendingLemmas.{ascending_positive}
use Rattle.tk_base.proofs.PairsLemmas.{objects_paired}
use Rattle.tk_rows.specs.Factors.{Grid, AreBalanced}
use Rattle.tk_rows.proofs.WritingLemmas.{ascending_are_apart}
use Rattle.tk_alloc.specs.declared.reported.Reported.{Reported}
use Rattle.tk_alloc.specs.Pick.{picked}
use Rattle.tk_alloc.specs.Resolving.{CanTakePart, IsReady, objects_over, round_border}
use Rattle.tk_alloc.specs.Rounds.{AreReports, chosen, total, totals}
use Rattle.tk_alloc.proofs.AskedLemmas.{IsSet, set_of}
use Rattle.tk_alloc.proofs.FullLemmas.{IsCalled}
use Rattle.tk_alloc.proofs.WideLemmas.{reports_count}

-- what the code has read and computed before it deals
pub record IsGathered (setup : Setup) (grid : Grid) (present : List ℕ) (reports : List Reported) (first : Reported) (sums : List (ℕ × ℤ)) (members : List ℕ) : Type 0 where
  pub limits : IsWithinLimits setup
  pub balanced : AreBalanced grid
  pub ready : IsReady setup grid present (objects_over reports)
  pub take : All (CanTakePart grid present (objects_over reports)) reports
  pub reported : AreReports setup.monitors (objects_over reports) reports
  pub head : first ≡ get_or reports 0 first
  pub sums_are : sums ≡ totals reports (objects_of first.values)
  pub members_are : members ≡ picked sums present setup.k
  pub count : length members ≡ setup.k
  pub present_up : IsAscending present
  pub sums_up : IsAscending (objects_of sums)

-- the objects of the reports are those of the first
pub over_first : (reports : List Reported) (first : Reported) → 0 < length reports → first ≡ get_or reports 0 first → objects_of first.values ≡ objects_over reports
over_first [] first some head = absurd (omega arith)
over_first (r ∷ reports) first some head = ap (λ (q : Reported). objects_of q.values) head

pub first_over : (setup : Setup) (reports : List Reported) (first : Reported) → IsWithinLimits setup → AreReports setup.monitors (objects_over reports) reports → first ≡ get_or reports 0 first → objects_of first.values ≡ objects_over reports
first_over setup reports first limits reported head = over_first reports first (omega (arith, limits.some_monitor, reports_count setup.monitors (objects_over reports) reports reported)) head

-- there are at least k objects to choose from
pub enough : (setup : Setup) (grid : Grid) (present : List ℕ) (reports : List Reported) (first : Reported) (sums : List (ℕ × ℤ)) → length present ≤ length (objects_over reports) → IsReady setup grid present (objects_over reports)
    → objects_of first.values ≡ objects_over reports → sums ≡ totals reports (objects_of first.values) → setup.k ≤ length sums
enough setup grid present reports first sums fewer ready over is =
    let same : objects_of sums ≡ objects_over reports = ap objects_of is ∙ objects_paired (total reports) (objects_of first.values) ∙ over in
    omega (arith, fewer, ready.count, length-map sums (λ (p : ℕ × ℤ). p.0), ap length same)

gathered_over : (setup : Setup) (grid : Grid) (present : List ℕ) (reports : List Reported) (first : Reported) (sums : List (ℕ × ℤ)) (members : List ℕ) → IsGathered setup grid present reports first sums members → objects_of first.values ≡ objects_over reports
gathered_over setup grid present reports first sums members g = first_over setup reports first g.limits g.reported g.head

gathered_objects : (setup : Setup) (grid : Grid) (present : List ℕ) (reports : List Reported) (first : Reported) (sums : List (ℕ × ℤ)) (members : List ℕ) → IsGathered setup grid present reports first sums members → objects_of sums ≡ objects_over reports
gathered_objects setup grid present reports first sums members g = ap objects_of g.sums_are ∙ objects_paired (total reports) (objects_of first.values) ∙ gathered_over setup grid present reports first sums members g

pub gathered_members : (setup : Setup) (grid : Grid) (present : List ℕ) (reports : List Reported) (first : Reported) (sums : List (ℕ × ℤ)) (members : List ℕ) → IsGathered setup grid present reports first sums members
    → members ≡ chosen setup present reports (objects_over reports)
gathered_members setup grid present reports first sums members g =
    g.members_are ∙ ap (λ (x : List (ℕ × ℤ)). picked x present setup.k) (g.sums_are ∙ ap (totals reports) (gathered_over setup grid present reports first sums members g))

-- numbers that ascend are at least 1
pub all_positive : (xs : List ℕ) → IsAscending xs → All (λ o. 0 < o) xs
all_positive xs up k d within =
    let some = ascending_positive xs up k within in
    subst (λ (o : ℕ). 0 < o) (get_or_default xs k 0 d within) some

pub gathered_called : (setup : Setup) (grid : Grid) (present : List ℕ) (reports : List Reported) (first : Reported) (sums : List (ℕ × ℤ)) (members : List ℕ) → IsGathered setup grid present reports first sums members
    → IsCalled setup grid present (objects_over reports) reports
gathered_called setup grid present reports first sums members g = record {
  limits = g.limits;
  balanced = g.balanced;
  ready = g.ready;
  take = g.take;
  order = g.reported.order;
  positive = subst (All (λ o. 0 < o)) (gathered_objects setup grid present reports first sums members g) (all_positive (objects_of sums) g.sums_up);
  apart = ascending_are_apart present g.present_up;
  count = ap length (sym (gathered_members setup grid present reports first sums members g)) ∙ g.count;
}

-- what the code deals by is the round's
pub gathered_set : (setup : Setup) (grid : Grid) (present : List ℕ) (reports : List Reported) (first : Reported) (sums : List (ℕ × ℤ)) (members : List ℕ) (weight : ℕ) (border epsilon : ℤ) (values : List (ℕ × ℤ))
    → IsGathered setup grid present reports first sums members → weight ≡ setup.own_weight → border ≡ round_border setup grid present (objects_over reports) → epsilon ≡ setup.epsilon
    → values ≡ map (λ o. (o, if is_in members o then epsilon else pos 0)) (objects_of sums) → IsSet setup grid present (chosen setup present reports (objects_over reports)) (objects_over reports) weight border values
gathered_set setup grid present reports first sums members weight border epsilon values g w b e v =
    set_of setup grid present (chosen setup present reports (objects_over reports)) (objects_over reports) weight border epsilon values w b e
    (v ∙ ap (map (λ o. (o, if is_in members o then epsilon else pos 0))) (gathered_objects setup grid present reports first sums members g)
    ∙ ap (λ (m : List ℕ). map (λ o. (o, if is_in m o then epsilon else pos 0)) (objects_over reports)) (gathered_members setup grid present reports first sums members g))
