-- What holds after a short or a full round.
use Rattle.std.proofs.Common.{◌≡◌, ℕ, suc, ◌+◌, ◌<◌, ◌≤◌, ℤ, pos, ◌+ℤ◌, ◌≤ℤ◌, List, [], ◌∷◌, length, map, get_or, Contains, Option, if◌then◌else◌, refl, sym, ap, ◌∙◌, subst, arith, inl, inr}
use Rattle.std.specs.Prelude.{unwrap_or, ⊤}
use Rattle.std.specs.List.{All, sum}
use Rattle.std.proofs.lemmas.Int.{ints}
use Rattle.std.proofs.lemmas.Bool.{cases_Bool, true≢false}
use Rattle.std.proofs.lemmas.List.{length-map, get_or-map, get_or_default}
use Rattle.std.proofs.lemmas.List.Elements.{All-contains, All-head, All-map, All-tail}
use Rattle.std.proofs.lemmas.List.Sums.{sum_by-cons}
use Rattle.tk_base.specs.Ascending.{IsAscending}
use Rattle.tk_base.specs.Objects.{is_in}
use Rattle.tk_base.specs.Pairs.{objects_of}
use Rattle.tk_base.specs.Settings.{Setup}
use Rattle.tk_base.specs.Sum.{int_sum}
use Rattle.tk_base.proofs.PairsLemmas.{value_at-absent}
use Rattle.tk_base.proofs.SumLemmas.{int_sum-cons}
use Rattle.tk_base.proofs.MemberLemmas.{contained_is_in, is_in_contained, outside_is_not_in}
use Rattle.tk_rows.specs.declared.mon_change.MonChange.{MonChange}
use Rattle.tk_rows.specs.declared.reallocation.Reallocation.{Reallocation}
use Rattle.tk_rows.specs.Factors.{Grid, factor_at, IsFactor}
use Rattle.tk_rows.specs.Replacing.{IsReplacement, changes_at, factor_in}
use Rattle.tk_rows.proofs.WritingLemmas.{AreApart, ascending_are_apart}
use Rattle.tk_share.proofs.ShareLemmas.{share_grows, share_of_no_debt}
use Rattle.tk_alloc.specs.declared.reported.Reported.{Reported}
use Rattle.tk_alloc.specs.Parts.{Part, coordinator, monitor, value_of, above, leeway, new_factor, by_monitor}
use Rattle.tk_alloc.specs.Resolving.{CanTakePart, IsReady, IsRound, round_border, round_parts}
use Rattle.tk_alloc.specs.Rounds.{factor_after, KeepsLevels, KeepsOwn}
use Rattle.tk_alloc.specs.Search.{AreWithin, IsEven, by_node, placed}
use Rattle.tk_alloc.proofs.BorderLemmas.{border_below, border_covers}
use Rattle.tk_alloc.proofs.LeewayLemmas.{value_put, sums_agree, weights_in}
use Rattle.tk_alloc.proofs.LimitLemmas.{length-by_node}
use Rattle.tk_alloc.proofs.ReplacementLemmas.{AreBounded, ArePlaced, bounded_at, own_objects, monitors_are, own_after, at_after}

-- ---- the participants

-- the coordinator of such a round, and the monitors
abbrev pub own_part : Setup → Grid → List ℕ → List ℕ → List ℕ → Part
own_part setup grid present members all = coordinator setup.own_weight setup.epsilon (round_border setup grid present all) members all

abbrev pub bordered : List Reported → List Part
bordered reports = map (λ r. monitor r.border r) reports

pub bordered_nodes : (reports : List Reported) → map (λ (q : Part). q.node) (bordered reports) ≡ map (λ (r : Reported). r.mon.0) reports
bordered_nodes [] = refl
bordered_nodes (r ∷ reports) = ap (λ (xs : List ℕ). r.mon.0 ∷ xs) (bordered_nodes reports)

pub bordered_weights : (reports : List Reported) → sum (weights_in (bordered reports)) ≡ length reports
bordered_weights [] = refl
bordered_weights (r ∷ reports) = omega (arith, bordered_weights reports, sum_by-cons (λ x. x) 1 (weights_in (bordered reports)))

unbounded : (grid : Grid) (parts : List Part) (all : List ℕ) (first : ℕ) (ps : List Part) → AreBounded (λ _. ⊤) grid parts all first ps
unbounded grid parts all first [] = tt
unbounded grid parts all first (q ∷ ps) = (λ o in'. tt, unbounded grid parts all (first + 1) ps)

-- the coordinator's value of an object of the round
pub own_value_is : (setup : Setup) (grid : Grid) (present members all : List ℕ) (o : ℕ) → Contains all o → value_of (own_part setup grid present members all).values o ≡ (if is_in members o then setup.epsilon else pos 0)
own_value_is setup grid present members all o in' = ap (λ (v : Option ℤ). unwrap_or v (pos 0)) (value_put (λ q. if is_in members q then setup.epsilon else pos 0) all o in')

pub member_value : (setup : Setup) (grid : Grid) (present members all : List ℕ) (t : ℕ) → Contains all t → Contains members t → value_of (own_part setup grid present members all).values t ≡ setup.epsilon
member_value setup grid present members all t of in' = own_value_is setup grid present members all t of ∙ ap (λ b. if b then setup.epsilon else pos 0) (contained_is_in members t in')

pub other_value : (setup : Setup) (grid : Grid) (present members all : List ℕ) (s : ℕ) → Contains all s → (Contains members s → ⊥) → value_of (own_part setup grid present members all).values s ≡ pos 0
other_value setup grid present members all s of out = own_value_is setup grid present members all s of ∙ ap (λ b. if b then setup.epsilon else pos 0) (outside_is_not_in members s out)

-- at each monitor a present member is not below the border
no_debts : (grid : Grid) (present all : List ℕ) (t : ℕ) (reports : List Reported) → All (CanTakePart grid present all) reports → Contains present t → pos 0 ≤ℤ int_sum (map (above grid t) (bordered reports))
no_debts grid present all t [] take in' = omega (arith, ints)
no_debts grid present all t (r ∷ reports) take in' =
    let here : CanTakePart grid present all r = All-head (CanTakePart grid present all) r reports take in
    let high = All-contains (λ (o : ℕ). r.border ≤ℤ (value_of r.values o +ℤ factor_at grid r.mon.0 o)) present t here.high in' in
    let rest = no_debts grid present all t reports (All-tail (CanTakePart grid present all) r reports take) in' in
    omega (arith, ints, high, rest, int_sum-cons (above grid t (monitor r.border r)) (map (above grid t) (bordered reports)))

-- so the leeway of a present member that stays is not negative
pub present_no_debt : (setup : Setup) (grid : Grid) (present members all : List ℕ) (reports : List Reported) (t : ℕ) → IsReady setup grid present all → All (CanTakePart grid present all) reports → Contains present t → Contains members t
    → pos 0 ≤ℤ leeway grid (round_parts setup grid present members all reports) t
unfolding leeway
present_no_debt setup grid present members all reports t ready take in' stays =
    let own = own_part setup grid present members all in
    let of = All-contains (Contains all) present t ready.members in' in
    omega (
      arith,
      ints,
      no_debts grid present all t reports take in',
      border_below setup grid present all t ready in',
      member_value setup grid present members all t of stays,
      int_sum-cons (above grid t own) (map (above grid t) (bordered reports)),
    )

-- ---- the round

-- a round that has ended
pub record IsEnded (setup : Setup) (grid : Grid) (present members all : List ℕ) (reports : List Reported) (change : Reallocation) : Type 0 where
  pub ready : IsReady setup grid present all
  pub take : All (CanTakePart grid present all) reports
  pub order : IsAscending (map (λ (r : Reported). r.mon.0) reports)
  pub some : 0 < length reports
  pub among : (t : ℕ) → Contains members t → Contains all t
  pub ranked : (t s : ℕ) → Contains members t → (Contains members s → ⊥) → Contains all s → leeway grid (round_parts setup grid present members all reports) s ≤ℤ leeway grid (round_parts setup grid present members all reports) t
  pub no_debt : (t : ℕ) → Contains members t → pos 0 ≤ℤ leeway grid (round_parts setup grid present members all reports) t
  pub is : IsRound setup grid present members all reports change

pub is_even : (setup : Setup) (grid : Grid) (present members all : List ℕ) (reports : List Reported) (change : Reallocation) → IsAscending (map (λ (r : Reported). r.mon.0) reports) → IsRound setup grid present members all reports change → IsEven change
is_even setup grid present members all reports change order is =
    let own = own_part setup grid present members all in
    let ms = bordered reports in
    let same = own_objects grid own ms all members change is in
    record {
      objects = λ k d within. (bounded_at (λ _. ⊤) grid own ms all members change is (unbounded grid (own ∷ ms) all 1 ms) k d within).0 ∙ sym same;
      order = subst IsAscending (sym (monitors_are grid own ms all members change is ∙ bordered_nodes reports)) order;
    }

placed_of : (setup : Setup) (grid : Grid) (present members all : List ℕ) (reports : List Reported) (change : Reallocation) → IsEnded setup grid present members all reports change → ArePlaced grid (own_part setup grid present members all) (bordered reports) all
placed_of setup grid present members all reports change e =
    let nodes = bordered_nodes reports in
    record {
      coordinator = refl;
      weight = omega (arith, sum_by-cons (λ x. x) setup.own_weight (weights_in (bordered reports)), bordered_weights reports, e.some);
      objects_within = λ k d within. let bound = e.ready.within k d within in omega (arith, bound, e.ready.size.objects);
      order = subst IsAscending (sym nodes) e.order;
      monitors = subst (All (λ j. j ≤ grid.monitors)) (sym nodes) (All-map (λ (j : ℕ). j ≤ grid.monitors) (λ (r : Reported). r.mon.0) reports (λ k d within. (e.take k d within).monitor));
    }

-- factors that the search has found within the limit
own_found : (change : Reallocation) → ((i : ℕ) → i < length change.own → AreWithin (by_node change) i) → All (λ (p : ℕ × ℤ). IsFactor p.1) change.own
own_found change within k d below =
    subst (λ (p : ℕ × ℤ). IsFactor p.1) (get_or_default change.own k (0, pos 0) d below) (within k below 0 (0, change.own) (omega arith))

at_found : (change : Reallocation) (n : ℕ) (c : MonChange) → ((i : ℕ) → i < length change.own → AreWithin (by_node change) i) → n < length change.at.items → length (get_or change.at.items n c).changes ≡ length change.own
    → All (λ (p : ℕ × ℤ). IsFactor p.1) (get_or change.at.items n c).changes
at_found change n c within inside same k d below =
    let f : MonChange → ℕ × List (ℕ × ℤ) = λ m. (m.mon.0, m.changes) in
    let small = within k (omega (arith, same)) (suc n) (f c) (omega (arith, length-by_node change)) in
    let at : get_or (by_monitor change.at.items) n (f c) ≡ f (get_or change.at.items n c) = get_or-map f change.at.items n c (f c) inside in
    subst (λ (p : ℕ × ℤ). IsFactor p.1) (get_or_default (get_or change.at.items n c).changes k (0, pos 0) d below) (subst (λ (x : ℕ × List (ℕ × ℤ)). IsFactor (placed x.1 k)) at small)

-- a table can take the round where its factors are within their limit
pub ended_replaces : (setup : Setup) (grid : Grid) (present members all : List ℕ) (reports : List Reported) (change : Reallocation) → IsEnded setup grid present members all reports change
    → ((i : ℕ) → i < length change.own → AreWithin (by_node change) i) → IsReplacement grid change
ended_replaces setup grid present members all reports change e within =
    let own = own_part setup grid present members all in
    let ms = bordered reports in
    let same = own_objects grid own ms all members change e.is in
    let even = is_even setup grid present members all reports change e.order e.is in
    let placed = placed_of setup grid present members all reports change e in
    record {
      objects = subst (All (λ o. o ≤ length grid.rows)) (sym same) placed.objects_within;
      order = even.order;
      monitors = subst (All (λ j. j ≤ grid.monitors)) (sym (monitors_are grid own ms all members change e.is)) placed.monitors;
      own = record { same = refl; small = own_found change within };
      at = λ k d below.
          let objects_same = even.objects k d below in
          record {
            same = objects_same;
            small = at_found change k d within below (sym (length-map (get_or change.at.items k d).changes (λ (p : ℕ × ℤ). p.0)) ∙ ap length objects_same ∙ length-map change.own (λ (p : ℕ × ℤ). p.0));
          };
      sum = λ k d below.
          let here : Contains (objects_of change.own) (get_or (objects_of change.own) k d) = (k, below, get_or_default (objects_of change.own) k (get_or (objects_of change.own) k d) d below) in
          sums_agree grid own ms all members change (get_or (objects_of change.own) k d) e.is placed.coordinator placed.weight (subst (λ xs. Contains xs (get_or (objects_of change.own) k d)) same here);
    }

-- ---- the constraints

-- an object outside the round keeps its own factor
own_stays : (setup : Setup) (grid : Grid) (present members all : List ℕ) (reports : List Reported) (change : Reallocation) (s : ℕ) → IsRound setup grid present members all reports change → (Contains all s → ⊥)
    → factor_after grid change 0 s ≡ factor_at grid 0 s
own_stays setup grid present members all reports change s is out =
    let same = own_objects grid (own_part setup grid present members all) (bordered reports) all members change is in
    ap (λ (v : Option ℤ). unwrap_or v (factor_at grid 0 s)) (value_at-absent change.own s (λ found. out (subst (λ xs. Contains xs s) same found)))

pub ended_keeps_own : (setup : Setup) (grid : Grid) (present members all : List ℕ) (reports : List Reported) (change : Reallocation) → IsEnded setup grid present members all reports change → KeepsOwn grid setup.epsilon change
ended_keeps_own setup grid present members all reports change e t s in' out some within =
    let own = own_part setup grid present members all in
    let ms = bordered reports in
    let chosen_t = subst (λ xs. Contains xs t) e.is.chosen in' in
    let left : Contains members s → ⊥ = λ c. out (subst (λ xs. Contains xs s) (sym e.is.chosen) c) in
    let of_t = e.among t chosen_t in
    let after_t = own_after grid own ms all members change t (factor_at grid 0 t) e.is of_t in
    let value_t = member_value setup grid present members all t of_t chosen_t in
    elim (cases_Bool (is_in all s)) [
      | inl here ↦
          let of_s = is_in_contained all s here in
          let more = share_grows (weights_in (own ∷ ms)) 0 (leeway grid (own ∷ ms) s) (leeway grid (own ∷ ms) t) (e.ranked t s chosen_t left of_s) in
          let after_s = own_after grid own ms all members change s (factor_at grid 0 s) e.is of_s in
          omega (arith, ints, more, after_t, after_s, value_t, other_value setup grid present members all s of_s left)
      | inr gone ↦
          let missing : Contains all s → ⊥ = λ found. true≢false (sym (contained_is_in all s found) ∙ gone) in
          let fair = share_of_no_debt (weights_in (own ∷ ms)) 0 (leeway grid (own ∷ ms) t) (e.no_debt t chosen_t) in
          let stays = own_stays setup grid present members all reports change s e.is missing in
          omega (arith, ints, fair, after_t, stays, value_t, border_covers setup grid present all s some within missing)
    ]

-- the factor of a monitor afterwards
pub ended_after : (setup : Setup) (grid : Grid) (present members all : List ℕ) (reports : List Reported) (change : Reallocation) (k o : ℕ) (d : Reported) → IsEnded setup grid present members all reports change → k < length reports → Contains all o
    → factor_after grid change (get_or reports k d).mon.0 o ≡ new_factor grid (round_parts setup grid present members all reports) (1 + k) (monitor (get_or reports k d).border (get_or reports k d)) o
ended_after setup grid present members all reports change k o d e within in' =
    let own = own_part setup grid present members all in
    let ms = bordered reports in
    let f : Reported → Part = λ r. monitor r.border r in
    let r = get_or reports k d in
    let read : get_or ms k (f d) ≡ f r = get_or-map f reports k d (f d) within in
    let apart = subst AreApart (sym (bordered_nodes reports)) (ascending_are_apart (map (λ (q : Reported). q.mon.0) reports) e.order) in
    let node : (get_or ms k (f d)).node ≡ r.mon.0 = ap (λ (q : Part). q.node) read in
    subst (λ (q : Part). factor_in (changes_at change q.node) o (factor_at grid r.mon.0 o) ≡ new_factor grid (own ∷ ms) (1 + k) q o) read
    (at_after grid own ms all members change k o (f d) (factor_at grid r.mon.0 o) e.is in' (omega (arith, length-map reports f)) apart (omega (arith, node, (e.take k d within).some)))

pub ended_keeps_levels : (setup : Setup) (grid : Grid) (present members all : List ℕ) (reports : List Reported) (change : Reallocation) → IsEnded setup grid present members all reports change → All (KeepsLevels grid change) reports
ended_keeps_levels setup grid present members all reports change e k d within t s in' out at =
    let parts = round_parts setup grid present members all reports in
    let chosen_t = subst (λ xs. Contains xs t) e.is.chosen in' in
    let left : Contains members s → ⊥ = λ c. out (subst (λ xs. Contains xs s) (sym e.is.chosen) c) in
    let of_s = subst (λ xs. Contains xs s) (e.take k d within).values.same at in
    let of_t = e.among t chosen_t in
    let more = share_grows (weights_in parts) (1 + k) (leeway grid parts s) (leeway grid parts t) (e.ranked t s chosen_t left of_s) in
    omega (arith, ints, more, ended_after setup grid present members all reports change k t d e within of_t, ended_after setup grid present members all reports change k s d e within of_s)
