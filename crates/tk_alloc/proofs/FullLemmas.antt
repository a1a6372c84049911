-- A full round ranks the members by the totals, and none of them has a leeway below 0.
use Rattle.std.proofs.Common.{◌≡◌, ℕ, suc, zero, ◌-◌, ◌<◌, ◌≤◌, ℤ, pos, ◌+ℤ◌, ◌-ℤ◌, ◌≤ℤ◌, List, [], ◌∷◌, length, map, get_or, Contains, true, false, nat_eq, eqb, refl, sym, ap, ◌∙◌, subst, arith, inl, inr, ◌⊎◌, eq-eqb, ne_eqb}
use Rattle.std.specs.Set.{is_member}
use Rattle.std.specs.Cmp.{nat_eq_equiv}
use Rattle.std.specs.List.{All, IsDistinct, range_with_len}
use Rattle.std.proofs.lemmas.Int.{ints}
use Rattle.std.proofs.lemmas.Bool.{cases_Bool, or_cases, eqb-true, true≢false}
use Rattle.std.proofs.lemmas.List.{length-map, get_or_default}
use Rattle.std.proofs.lemmas.List.Elements.{All-contains, recursion_from_All}
use Rattle.std.proofs.lemmas.List.Folds.{list_any_at}
use Rattle.std.proofs.lemmas.List.FromFn.{fill_by_all, length-range_with_len}
use Rattle.std.proofs.lemmas.Map.Made.{length-le_from_is_member}
use Rattle.tk_base.specs.Ascending.{IsAscending}
use Rattle.tk_base.specs.Objects.{is_in}
use Rattle.tk_base.specs.Settings.{Setup, IsWithinLimits}
use Rattle.tk_base.specs.Sum.{int_sum}
use Rattle.tk_base.proofs.SumLemmas.{int_sum-cons}
use Rattle.tk_base.proofs.MemberLemmas.{contained_is_in, is_in_contained}
use Rattle.tk_rows.specs.declared.reallocation.Reallocation.{Reallocation}
use Rattle.tk_rows.specs.Factors.{Grid, AreBalanced, IsBalanced, factor_at, row_of}
use Rattle.tk_rows.proofs.WritingLemmas.{AreApart}
use Rattle.tk_alloc.specs.declared.reported.Reported.{Reported}
use Rattle.tk_alloc.specs.Parts.{Part, leeway, value_of}
use Rattle.tk_alloc.specs.Resolving.{CanTakePart, IsReady, IsRound, round_border, round_parts}
use Rattle.tk_alloc.specs.Rounds.{chosen, total}
use Rattle.tk_alloc.proofs.AscentLemmas.{ascending_range}
use Rattle.tk_alloc.proofs.LeewayLemmas.{base, split_above}
use Rattle.tk_alloc.proofs.PickLemmas.{picked_greatest, picked_of}
use Rattle.tk_alloc.proofs.RoundLemmas.{IsEnded, bordered, member_value, other_value, own_part, present_no_debt}

-- ---- a list that holds another

distinct_from : (xs : List ℕ) → AreApart xs → IsDistinct nat_eq xs
unfolding IsDistinct
distinct_from [] apart = tt
distinct_from (x ∷ xs) apart = (
  recursion_from_All (λ (y : ℕ). nat_eq x y ≡ false) xs (λ k d within. ne_eqb x (get_or xs k d) (λ e. apart.0 (k, within, get_or_default xs k x d within ∙ sym e))),
  distinct_from xs apart.1,
)

member_of : (xs : List ℕ) (q : ℕ) → Contains xs q → is_member nat_eq xs q ≡ true
member_of xs q (k, within, is) = list_any_at (eqb q) xs k q within (eq-eqb q (get_or xs k q) (sym is))

of_member : (xs : List ℕ) (q : ℕ) → is_member nat_eq xs q ≡ true → Contains xs q
of_member [] q e = absurd (true≢false (sym e))
of_member (x ∷ xs) q e = elim (or_cases (eqb q x) (is_member nat_eq xs q) e) [
  | inl here ↦ (0, omega arith, sym (eqb-true q x here))
  | inr later ↦ let (k, within, is) = of_member xs q later in (suc k, omega arith, is)
]

-- numbers that are apart are no more than those of a list that holds them
pub held_length : (xs ys : List ℕ) → AreApart xs → ((q : ℕ) → Contains xs q → Contains ys q) → length xs ≤ length ys
held_length xs ys apart held = length-le_from_is_member nat_eq_equiv xs ys (distinct_from xs apart) (λ q e. member_of ys q (held q (of_member xs q e)))

later : (x : ℕ) (xs : List ℕ) (q : ℕ) → Contains xs q → Contains (x ∷ xs) q
later x xs q (k, within, is) = (suc k, omega arith, is)

in_first_or_rest : (P : ℕ → Type 0) (x : ℕ) (xs : List ℕ) → P x → ((q : ℕ) → Contains xs q → P q) → (q : ℕ) → Contains (x ∷ xs) q → P q
in_first_or_rest P x xs first rest q (zero, within, is) = subst P is first
in_first_or_rest P x xs first rest q (suc k, within, is) = rest q (k, omega arith, is)

-- one list lacks a number of another, or holds it
lacks_or_holds : (xs ys : List ℕ) → ((p : ℕ) × Contains xs p × (Contains ys p → ⊥)) ⊎ ((q : ℕ) → Contains xs q → Contains ys q)
lacks_or_holds [] ys = inr (λ q found. absurd (omega (arith, found.1)))
lacks_or_holds (x ∷ xs) ys = elim (cases_Bool (is_in ys x)) [
  | inl here ↦ elim (lacks_or_holds xs ys) [
    | inl found ↦ inl (found.0, later x xs found.0 found.1, found.2)
    | inr held ↦ inr (in_first_or_rest (Contains ys) x xs (is_in_contained ys x here) held)
  ]
  | inr gone ↦ inl (x, (0, omega arith, refl), λ found. true≢false (sym (contained_is_in ys x found) ∙ gone))
]

-- where as many members follow and one of them is new, one that was present is left out
left_out : (present members : List ℕ) (t : ℕ) → AreApart present → length present ≡ length members → Contains members t → (Contains present t → ⊥) → (p : ℕ) × Contains present p × (Contains members p → ⊥)
left_out present members t apart same in' new = elim (lacks_or_holds present members) [
  | inl found ↦ found
  | inr held ↦ let long = held_length (t ∷ present) members (new, apart) (in_first_or_rest (Contains members) t present in' held) in absurd (omega (arith, long, same))
]

-- ---- leeways by totals

bases : (reports : List Reported) (o : ℕ) → int_sum (map (base o) (bordered reports)) +ℤ total reports o ≡ int_sum (map (λ r. r.border) reports)
bases [] o = refl
bases (r ∷ reports) o =
    omega (
      arith,
      ints,
      bases reports o,
      int_sum-cons (r.border -ℤ value_of r.values o) (map (base o) (bordered reports)),
      int_sum-cons (value_of r.values o) (map (λ q. value_of q.values o) reports),
      int_sum-cons r.border (map (λ (q : Reported). q.border) reports),
    )

nodes_by : (f : ℕ → ℤ) (reports : List Reported) → map (λ (q : Part). f q.node) (bordered reports) ≡ map f (map (λ (r : Reported). r.mon.0) reports)
nodes_by f [] = refl
nodes_by f (r ∷ reports) = ap (λ xs. f r.mon.0 ∷ xs) (nodes_by f reports)

-- over all nodes the factors of an object sum to zero
factors_sum : (grid : Grid) (own : Part) (reports : List Reported) (o : ℕ) → own.node ≡ 0 → map (λ (r : Reported). r.mon.0) reports ≡ range_with_len 1 grid.monitors → IsBalanced grid.monitors (row_of grid o)
    → int_sum (map (λ q. factor_at grid q.node o) (own ∷ bordered reports)) ≡ pos 0
factors_sum grid own reports o zero_node order b =
    let f : ℕ → ℤ = λ n. factor_at grid n o in
    let row = row_of grid o in
    let whole : row ≡ map f (range_with_len 0 (suc grid.monitors)) = fill_by_all f row (suc grid.monitors) (pos 0) (omega (arith, b.nodes)) (λ k h. refl) in
    let rest : map (λ q. factor_at grid q.node o) (bordered reports) ≡ map f (range_with_len 1 grid.monitors) = nodes_by f reports ∙ ap (map f) order in
    ap int_sum (ap (λ (n : ℕ). factor_at grid n o ∷ map (λ q. factor_at grid q.node o) (bordered reports)) zero_node ∙ ap (λ (zs : List ℤ). f 0 ∷ zs) rest ∙ sym whole) ∙ b.sum

-- the borders of all participants together
abbrev pub borders : Setup → Grid → List ℕ → List ℕ → List Reported → ℤ
borders setup grid present all reports = round_border setup grid present all +ℤ int_sum (map (λ r. r.border) reports)

-- a leeway is the coordinator's value and the total, above all borders
leeway_by_total : (setup : Setup) (grid : Grid) (present members all : List ℕ) (reports : List Reported) (o : ℕ) → map (λ (r : Reported). r.mon.0) reports ≡ range_with_len 1 grid.monitors → IsBalanced grid.monitors (row_of grid o)
    → leeway grid (round_parts setup grid present members all reports) o +ℤ borders setup grid present all reports ≡ value_of (own_part setup grid present members all).values o +ℤ total reports o
unfolding leeway
leeway_by_total setup grid present members all reports o order b =
    let own = own_part setup grid present members all in
    let ms = bordered reports in
    omega (arith, ints, split_above grid o (own ∷ ms), factors_sum grid own reports o refl order b, bases reports o, int_sum-cons (base o own) (map (base o) ms))

-- what is known before the full round is dealt
pub record IsCalled (setup : Setup) (grid : Grid) (present all : List ℕ) (reports : List Reported) : Type 0 where
  pub limits : IsWithinLimits setup
  pub balanced : AreBalanced grid
  pub ready : IsReady setup grid present all
  pub take : All (CanTakePart grid present all) reports
  pub order : map (λ (r : Reported). r.mon.0) reports ≡ range_with_len 1 setup.monitors
  pub positive : All (λ o. 0 < o) all
  pub apart : AreApart present
  pub count : length (chosen setup present reports all) ≡ setup.k

called_leeway : (setup : Setup) (grid : Grid) (present members all : List ℕ) (reports : List Reported) (o : ℕ) → IsCalled setup grid present all reports → Contains all o
    → leeway grid (round_parts setup grid present members all reports) o +ℤ borders setup grid present all reports ≡ value_of (own_part setup grid present members all).values o +ℤ total reports o
called_leeway setup grid present members all reports o c of =
    let some = All-contains (λ (q : ℕ). 0 < q) all o c.positive of in
    let within = All-contains (λ (q : ℕ). q ≤ setup.objects) all o c.ready.within of in
    leeway_by_total setup grid present members all reports o (c.order ∙ ap (range_with_len 1) (sym c.ready.size.monitors)) (c.balanced (o - 1) (omega (arith, some, within, c.ready.size.objects)))

pub full_ranked : (setup : Setup) (grid : Grid) (present all : List ℕ) (reports : List Reported) (t s : ℕ) → IsCalled setup grid present all reports → Contains (chosen setup present reports all) t → (Contains (chosen setup present reports all) s → ⊥) → Contains all s
    → leeway grid (round_parts setup grid present (chosen setup present reports all) all reports) s ≤ℤ leeway grid (round_parts setup grid present (chosen setup present reports all) all reports) t
full_ranked setup grid present all reports t s c in' out of =
    let members = chosen setup present reports all in
    let of_t = picked_of (total reports) present all setup.k t in' in
    let best = picked_greatest (total reports) present all setup.k t s in' of out in
    omega (arith, ints, best, called_leeway setup grid present members all reports t c of_t, called_leeway setup grid present members all reports s c of, member_value setup grid present members all t of_t in', other_value setup grid present members all s of out, c.limits.no_debt)

-- a new member has at least the total of a present one that is left out, whose leeway as a member was not negative
new_no_debt : (setup : Setup) (grid : Grid) (present all : List ℕ) (reports : List Reported) (t p : ℕ) → IsCalled setup grid present all reports → Contains (chosen setup present reports all) t → Contains present p → (Contains (chosen setup present reports all) p → ⊥)
    → pos 0 ≤ℤ leeway grid (round_parts setup grid present (chosen setup present reports all) all reports) t
new_no_debt setup grid present all reports t p c in' old out =
    let members = chosen setup present reports all in
    let of_t = picked_of (total reports) present all setup.k t in' in
    let of_p = All-contains (Contains all) present p c.ready.members old in
    let best = picked_greatest (total reports) present all setup.k t p in' of_p out in
    let fair = present_no_debt setup grid present present all reports p c.ready c.take old old in
    omega (arith, ints, best, fair, called_leeway setup grid present members all reports t c of_t, called_leeway setup grid present present all reports p c of_p, member_value setup grid present members all t of_t in', member_value setup grid present present all p of_p old)

pub full_no_debt : (setup : Setup) (grid : Grid) (present all : List ℕ) (reports : List Reported) (t : ℕ) → IsCalled setup grid present all reports → Contains (chosen setup present reports all) t
    → pos 0 ≤ℤ leeway grid (round_parts setup grid present (chosen setup present reports all) all reports) t
full_no_debt setup grid present all reports t c in' = elim (cases_Bool (is_in present t)) [
  | inl stays ↦ present_no_debt setup grid present (chosen setup present reports all) all reports t c.ready c.take (is_in_contained present t stays) in'
  | inr new ↦
      let (p, old, out) = left_out present (chosen setup present reports all) t c.apart (c.ready.count ∙ sym c.count) in' (λ found. true≢false (sym (contained_is_in present t found) ∙ new)) in
      new_no_debt setup grid present all reports t p c in' old out
]

pub called_order : (setup : Setup) (reports : List Reported) → map (λ (r : Reported). r.mon.0) reports ≡ range_with_len 1 setup.monitors → IsAscending (map (λ (r : Reported). r.mon.0) reports)
called_order setup reports order = subst IsAscending (sym order) (ascending_range setup.monitors)

pub full_ends : (setup : Setup) (grid : Grid) (present all : List ℕ) (reports : List Reported) (change : Reallocation) → IsCalled setup grid present all reports → IsRound setup grid present (chosen setup present reports all) all reports change
    → IsEnded setup grid present (chosen setup present reports all) all reports change
full_ends setup grid present all reports change c is = record {
  ready = c.ready;
  take = c.take;
  order = called_order setup reports c.order;
  some = omega (arith, c.limits.some_monitor, length-map reports (λ (r : Reported). r.mon.0), ap length c.order, length-range_with_len 1 setup.monitors);
  among = λ t in'. picked_of (total reports) present all setup.k t in';
  ranked = λ t s in' out of. full_ranked setup grid present all reports t s c in' out of;
  no_debt = λ t in'. full_no_debt setup grid present all reports t c in';
  is = is;
}
