-- Replacing factors in the rows of a table, object by object.
use Rattle.std.proofs.Common.{◌≡◌, ◌≢◌, ℕ, suc, zero, ◌+◌, ◌-◌, ◌<◌, ◌≤◌, ℤ, pos, List, [], ◌∷◌, length, map, get_or, set, replicate, add-one, Contains, Option, Some, cond, refl, sym, ap, ◌∙◌, subst, arith, eq-eqb, ne_eqb, inl, inr, ◌⊎◌}
use Rattle.std.specs.Prelude.{unwrap_or, ◌==◌, slice_get}
use Rattle.std.specs.List.{All}
use Rattle.std.specs.Map.{lookup}
use Rattle.std.proofs.lemmas.Int.{ints}
use Rattle.std.proofs.lemmas.Bool.{cases_eq, cases_lt}
use Rattle.std.proofs.lemmas.List.{length-set, get_or-set_same, get_or-set_other, get_or_default, length-map, get_or-map, get_or-replicate, length-replicate}
use Rattle.std.proofs.lemmas.Option.{get_or_from_slice_get}
use Rattle.std.proofs.lemmas.List.Elements.{All-head, All-tail}
use Rattle.tk_base.specs.Ascending.{IsAscending}
use Rattle.tk_base.specs.Pairs.{objects_of, value_at}
use Rattle.tk_base.specs.Sum.{int_sum}
use Rattle.tk_base.proofs.AscendingLemmas.{ascending_apart, ascending_positive}
use Rattle.tk_base.proofs.PairsLemmas.{value_at-found, value_at-absent}
use Rattle.tk_base.proofs.SumLemmas.{int_sum-cons}
use Rattle.tk_rows.specs.declared.mon_change.MonChange.{MonChange}
use Rattle.tk_rows.specs.declared.reallocation.Reallocation.{Reallocation}
use Rattle.tk_rows.specs.Factors.{IsFactor, IsBalanced, Grid, AreBalanced, factor_at, row_of}
use Rattle.tk_rows.specs.Replacing.{IsReplacement, AreChanges, monitors_of, changes_of, changes_at, factor_in, new_sum, old_sum}
use Rattle.tk_rows.specs.Writing.{named_at, written}
use Rattle.tk_rows.proofs.SumLemmas.{int_sum_zeros}
use Rattle.tk_rows.proofs.WritingLemmas.{AreApart, ascending_are_apart, zero_apart, length-written, written_at, written_sum, factors_written, zeros_are_factors}

-- the pair at a place
abbrev pub pair_at : List (ℕ × ℤ) → ℕ → ℕ × ℤ
pair_at pairs i = get_or pairs i (0, pos 0)

-- the nodes and their new factors for the object at a place
abbrev pub named : Reallocation → ℕ → List (ℕ × ℤ)
named change i = (0, (pair_at change.own i).1) ∷ named_at change.at.items i

-- the rows after the first objects are done
abbrev pub rows_after : List (List ℤ) → Reallocation → ℕ → List (List ℤ)
rows_after rows change zero = rows
rows_after rows change (suc i) =
    set (rows_after rows change i) ((pair_at change.own i).0 - 1) (written (get_or (rows_after rows change i) ((pair_at change.own i).0 - 1) []) (named change i))

pub length-rows_after : (rows : List (List ℤ)) (change : Reallocation) (i : ℕ) → length (rows_after rows change i) ≡ length rows
length-rows_after rows change zero = refl
length-rows_after rows change (suc i) =
    length-set (rows_after rows change i) ((pair_at change.own i).0 - 1) (written (get_or (rows_after rows change i) ((pair_at change.own i).0 - 1) []) (named change i)) ∙ length-rows_after rows change i

object_at : (own : List (ℕ × ℤ)) (i : ℕ) → i < length own → get_or (objects_of own) i 0 ≡ (pair_at own i).0
object_at own i h = get_or-map (λ (p : ℕ × ℤ). p.0) own i (0, pos 0) 0 h

pub object_positive : (own : List (ℕ × ℤ)) (i : ℕ) → IsAscending (objects_of own) → i < length own → 0 < (pair_at own i).0
object_positive own i up h = omega (arith, object_at own i h, ascending_positive (objects_of own) up i (omega (arith, length-map own (λ (p : ℕ × ℤ). p.0))))

-- the row of an object that was not among them is as before
pub untouched : (rows : List (List ℤ)) (change : Reallocation) (i o : ℕ) → IsAscending (objects_of change.own) → i ≤ length change.own → 0 < o
    → ((j : ℕ) → j < i → (pair_at change.own j).0 ≢ o) → get_or (rows_after rows change i) (o - 1) [] ≡ get_or rows (o - 1) []
untouched rows change zero o up short some apart = refl
untouched rows change (suc i) o up short some apart =
    let above = object_positive change.own i up (omega arith) in
    let differ = apart i (omega arith) in
    let other : o - 1 ≢ (pair_at change.own i).0 - 1 = λ e. differ (omega arith) in
    get_or-set_other (rows_after rows change i) ((pair_at change.own i).0 - 1) (o - 1) (written (get_or (rows_after rows change i) ((pair_at change.own i).0 - 1) []) (named change i)) [] other
    ∙ untouched rows change i o up (omega arith) some (λ j h. apart j (omega arith))

objects_differ : (own : List (ℕ × ℤ)) (i j : ℕ) → IsAscending (objects_of own) → j < i → i < length own → (pair_at own j).0 ≢ (pair_at own i).0
objects_differ own i j up before h e =
    let rise = ascending_apart (objects_of own) up j i before (omega (arith, length-map own (λ (p : ℕ × ℤ). p.0))) in
    absurd (omega (arith, object_at own i h, object_at own j (omega arith)))

-- the row of one that was among them is written
pub touched : (rows : List (List ℤ)) (change : Reallocation) (i j : ℕ) → IsAscending (objects_of change.own) → All (λ o. o ≤ length rows) (objects_of change.own) → i ≤ length change.own → j < i
    → get_or (rows_after rows change i) ((pair_at change.own j).0 - 1) [] ≡ written (get_or rows ((pair_at change.own j).0 - 1) []) (named change j)
touched rows change zero j up within short before = absurd (omega arith)
touched rows change (suc i) j up within short before =
    let place = (pair_at change.own i).0 - 1 in
    let new = written (get_or (rows_after rows change i) place []) (named change i) in
    let above = object_positive change.own i up (omega arith) in
    elim (cases_lt j i) [
      | inl lt ↦
          let differ = objects_differ change.own i j up lt (omega arith) in
          let low = object_positive change.own j up (omega arith) in
          let other : (pair_at change.own j).0 - 1 ≢ place = λ e. differ (omega arith) in
          get_or-set_other (rows_after rows change i) place ((pair_at change.own j).0 - 1) new [] other
          ∙ touched rows change i j up within (omega arith) lt
      | inr ge ↦
          let e : j ≡ i = omega arith in
          let bound = within i 0 (omega (arith, length-map change.own (λ (p : ℕ × ℤ). p.0))) in
          let inside : place < length (rows_after rows change i) = omega (arith, length-rows_after rows change i, object_at change.own i (omega arith), bound) in
          ap (λ (m : ℕ). get_or (set (rows_after rows change i) place new) ((pair_at change.own m).0 - 1) []) e
          ∙ get_or-set_same (rows_after rows change i) place new [] inside
          ∙ ap (λ (r : List ℤ). written r (named change i)) (untouched rows change i (pair_at change.own i).0 up (omega arith) above (λ m h. objects_differ change.own i m up h (omega arith)))
          ∙ ap (λ (m : ℕ). written (get_or rows ((pair_at change.own m).0 - 1) []) (named change m)) (sym e)
    ]

-- an object is named at a place or not at all
pub found_or_not : (own : List (ℕ × ℤ)) (n o : ℕ) → ((j : ℕ) × (j < n) × ((pair_at own j).0 ≡ o)) ⊎ ((j : ℕ) → j < n → (pair_at own j).0 ≢ o)
found_or_not own zero o = inr (λ j h e. absurd (omega arith))
found_or_not own (suc n) o = elim (cases_eq (pair_at own n).0 o) [
  | inl same ↦ inl (n, omega arith, same)
  | inr other ↦ elim (found_or_not own n o) [
    | inl at ↦ inl (at.0, omega (arith, at.1), at.2)
    | inr none ↦ inr (λ j h e. elim (cases_lt j n) [
      | inl lt ↦ none j lt e
      | inr ge ↦ let last : j ≡ n = omega arith in other (ap (λ (m : ℕ). (pair_at own m).0) (sym last) ∙ e)
    ])
  ]
]

-- ---- one object's changes

-- changes of these objects have a factor for each
change_at : (objects : List ℕ) (changes : List (ℕ × ℤ)) (j o : ℕ) → IsAscending objects → objects_of changes ≡ objects → j < length objects → get_or objects j 0 ≡ o
    → value_at changes o ≡ Some (pair_at changes j).1
change_at objects changes j o up same within is =
    let long : j < length changes = omega (arith, ap length same, length-map changes (λ (p : ℕ × ℤ). p.0)) in
    value_at-found changes o j (0, pos 0) (subst IsAscending (sym same) up) long
    (sym (object_at changes j long) ∙ ap (λ (xs : List ℕ). get_or xs j 0) same ∙ is)

objects_named : (at : List MonChange) (j : ℕ) → objects_of (named_at at j) ≡ monitors_of at
objects_named [] j = refl
objects_named (c ∷ at) j = ap (λ (xs : List ℕ). c.mon.0 ∷ xs) (objects_named at j)

named_value : (at : List MonChange) (objects : List ℕ) (j o n : ℕ) (old : ℤ) → IsAscending objects → All (λ c. AreChanges objects c.changes) at → j < length objects → get_or objects j 0 ≡ o
    → unwrap_or (value_at (named_at at j) n) old ≡ factor_in (changes_of at n) o old
named_value [] objects j o n old up are within is = refl
named_value (c ∷ at) objects j o n old up are within is =
    let here : AreChanges objects c.changes = All-head (λ d. AreChanges objects d.changes) c at are in
    let rest = named_value at objects j o n old up (All-tail (λ d. AreChanges objects d.changes) c at are) within is in
    elim (cases_eq c.mon.0 n) [
      | inl same ↦
          ap (λ b. unwrap_or (cond b (Some (pair_at c.changes j).1) (value_at (named_at at j) n)) old) (eq-eqb c.mon.0 n same)
          ∙ sym (ap (λ (v : Option ℤ). unwrap_or v old) (change_at objects c.changes j o up here.same within is))
          ∙ sym (ap (λ b. factor_in (unwrap_or (cond b (Some c.changes) (lookup (λ q. q == n) (map (λ (d : MonChange). (d.mon.0, d.changes)) at))) []) o old) (eq-eqb c.mon.0 n same))
      | inr other ↦
          ap (λ b. unwrap_or (cond b (Some (pair_at c.changes j).1) (value_at (named_at at j) n)) old) (ne_eqb c.mon.0 n other)
          ∙ rest
          ∙ sym (ap (λ b. factor_in (unwrap_or (cond b (Some c.changes) (lookup (λ q. q == n) (map (λ (d : MonChange). (d.mon.0, d.changes)) at))) []) o old) (ne_eqb c.mon.0 n other))
    ]

absent_in : (objects : List ℕ) (changes : List (ℕ × ℤ)) (o : ℕ) (old : ℤ) → objects_of changes ≡ objects → (Contains objects o → ⊥) → factor_in changes o old ≡ old
absent_in objects changes o old same none = ap (λ (v : Option ℤ). unwrap_or v old) (value_at-absent changes o (λ found. none (subst (λ (xs : List ℕ). Contains xs o) same found)))

unnamed_value : (at : List MonChange) (objects : List ℕ) (o n : ℕ) (old : ℤ) → All (λ c. AreChanges objects c.changes) at → (Contains objects o → ⊥) → factor_in (changes_of at n) o old ≡ old
unnamed_value [] objects o n old are none = refl
unnamed_value (c ∷ at) objects o n old are none =
    let here : AreChanges objects c.changes = All-head (λ d. AreChanges objects d.changes) c at are in
    let rest = unnamed_value at objects o n old (All-tail (λ d. AreChanges objects d.changes) c at are) none in
    elim (cases_eq c.mon.0 n) [
      | inl same ↦
          ap (λ b. factor_in (unwrap_or (cond b (Some c.changes) (lookup (λ q. q == n) (map (λ (d : MonChange). (d.mon.0, d.changes)) at))) []) o old) (eq-eqb c.mon.0 n same)
          ∙ absent_in objects c.changes o old here.same none
      | inr other ↦
          ap (λ b. factor_in (unwrap_or (cond b (Some c.changes) (lookup (λ q. q == n) (map (λ (d : MonChange). (d.mon.0, d.changes)) at))) []) o old) (ne_eqb c.mon.0 n other)
          ∙ rest
    ]

old_named : (at : List MonChange) (row : List ℤ) (j : ℕ) → map (λ p. get_or row p.0 (pos 0)) (named_at at j) ≡ map (λ c. get_or row c.mon.0 (pos 0)) at
old_named [] row j = refl
old_named (c ∷ at) row j = ap (λ (zs : List ℤ). get_or row c.mon.0 (pos 0) ∷ zs) (old_named at row j)

new_named : (at : List MonChange) (objects : List ℕ) (j o : ℕ) → IsAscending objects → All (λ c. AreChanges objects c.changes) at → j < length objects → get_or objects j 0 ≡ o
    → map (λ p. p.1) (named_at at j) ≡ map (λ c. factor_in c.changes o (pos 0)) at
new_named [] objects j o up are within is = refl
new_named (c ∷ at) objects j o up are within is =
    let here : AreChanges objects c.changes = All-head (λ d. AreChanges objects d.changes) c at are in
    let value : (pair_at c.changes j).1 ≡ factor_in c.changes o (pos 0) = sym (ap (λ (v : Option ℤ). unwrap_or v (pos 0)) (change_at objects c.changes j o up here.same within is)) in
    ap (λ (z : ℤ). z ∷ map (λ p. p.1) (named_at at j)) value
    ∙ ap (λ (zs : List ℤ). factor_in c.changes o (pos 0) ∷ zs) (new_named at objects j o up (All-tail (λ d. AreChanges objects d.changes) c at are) within is)

named_small : (at : List MonChange) (objects : List ℕ) (j : ℕ) → All (λ c. AreChanges objects c.changes) at → j < length objects → All (λ p. IsFactor p.1) (named_at at j)
named_small [] objects j are within k d h = absurd (omega arith)
named_small (c ∷ at) objects j are within zero d h =
    let here : AreChanges objects c.changes = All-head (λ e. AreChanges objects e.changes) c at are in
    here.small j (0, pos 0) (omega (arith, ap length here.same, length-map c.changes (λ (p : ℕ × ℤ). p.0)))
named_small (c ∷ at) objects j are within (suc k) d h = named_small at objects j (All-tail (λ e. AreChanges objects e.changes) c at are) within k d (omega arith)

not_contained : (own : List (ℕ × ℤ)) (o : ℕ) → ((j : ℕ) → j < length own → (pair_at own j).0 ≢ o) → Contains (objects_of own) o → ⊥
not_contained own o none (k, within, is) =
    let inside : k < length own = omega (arith, length-map own (λ (p : ℕ × ℤ). p.0)) in
    none k inside (sym (object_at own k inside) ∙ get_or_default (objects_of own) k 0 o within ∙ is)

within_all : (monitors : ℕ) (xs : List ℕ) → All (λ j. j ≤ monitors) xs → All (λ n. n < monitors + 1) (0 ∷ xs)
within_all monitors xs all zero d h = omega arith
within_all monitors xs all (suc k) d h = omega (arith, all k d (omega arith))

small_all : (change : Reallocation) (j : ℕ) → All (λ p. IsFactor p.1) change.own → All (λ p. IsFactor p.1) (named_at change.at.items j) → j < length change.own → All (λ p. IsFactor p.1) (named change j)
small_all change j own at inside zero d h = own j (0, pos 0) inside
small_all change j own at inside (suc k) d h = at k d (omega arith)

named_node : (change : Reallocation) (j node : ℕ) (old : ℤ) → IsAscending (objects_of change.own) → All (λ c. AreChanges (objects_of change.own) c.changes) change.at.items → j < length change.own
    → unwrap_or (value_at (named change j) node) old ≡ factor_in (changes_at change node) (pair_at change.own j).0 old
named_node change j zero old up are inside =
    sym (ap (λ (v : Option ℤ). unwrap_or v old) (change_at (objects_of change.own) change.own j (pair_at change.own j).0 up refl (omega (arith, length-map change.own (λ (p : ℕ × ℤ). p.0))) (object_at change.own j inside)))
named_node change j (suc n) old up are inside =
    ap (λ b. unwrap_or (cond b (Some (pair_at change.own j).1) (value_at (named_at change.at.items j) (suc n))) old) (ne_eqb 0 (suc n) (λ e. absurd (omega arith)))
    ∙ named_value change.at.items (objects_of change.own) j (pair_at change.own j).0 (suc n) old up are (omega (arith, length-map change.own (λ (p : ℕ × ℤ). p.0))) (object_at change.own j inside)

not_named : (change : Reallocation) (node o : ℕ) (old : ℤ) → All (λ c. AreChanges (objects_of change.own) c.changes) change.at.items → ((j : ℕ) → j < length change.own → (pair_at change.own j).0 ≢ o)
    → factor_in (changes_at change node) o old ≡ old
not_named change zero o old are none = absent_in (objects_of change.own) change.own o old refl (not_contained change.own o none)
not_named change (suc n) o old are none = unnamed_value change.at.items (objects_of change.own) o (suc n) old are (not_contained change.own o none)

-- ---- the whole

-- what is written into one row
pub record IsNamed (grid : Grid) (change : Reallocation) (j : ℕ) : Type 0 where
  pub apart : AreApart (objects_of (named change j))
  pub within : All (λ n. n < grid.monitors + 1) (objects_of (named change j))
  pub small : All (λ p. IsFactor p.1) (named change j)

pub is_named : (grid : Grid) (change : Reallocation) (j : ℕ) → IsReplacement grid change → j < length change.own → IsNamed grid change j
is_named grid change j r inside =
    let names = objects_named change.at.items j in
    let short : j < length (objects_of change.own) = omega (arith, length-map change.own (λ (p : ℕ × ℤ). p.0)) in
    record {
      apart = subst (λ (xs : List ℕ). AreApart (0 ∷ xs)) (sym names) (zero_apart (monitors_of change.at.items) r.order, ascending_are_apart (monitors_of change.at.items) r.order);
      within = subst (λ (xs : List ℕ). All (λ n. n < grid.monitors + 1) (0 ∷ xs)) (sym names) (within_all grid.monitors (monitors_of change.at.items) r.monitors);
      small = small_all change j r.own.small (named_small change.at.items (objects_of change.own) j r.at short) inside;
    }

-- the balance of an object that is named
pub balanced_written : (grid : Grid) (change : Reallocation) (j : ℕ) → IsReplacement grid change → IsAscending (objects_of change.own) → j < length change.own
    → IsBalanced grid.monitors (row_of grid (pair_at change.own j).0) → IsBalanced grid.monitors (written (row_of grid (pair_at change.own j).0) (named change j))
balanced_written grid change j r up inside b =
    let o = (pair_at change.own j).0 in
    let row = row_of grid o in
    let at = change.at.items in
    let objects = objects_of change.own in
    let n = is_named grid change j r inside in
    let short : j < length objects = omega (arith, length-map change.own (λ (p : ℕ × ℤ). p.0)) in
    let is : get_or objects j 0 ≡ o = object_at change.own j inside in
    let fits : All (λ m. m < length row) (objects_of (named change j)) = λ k d h. omega (arith, b.nodes, n.within k d h) in
    let told = written_sum (named change j) row n.apart fits in
    let old = int_sum-cons (get_or row 0 (pos 0)) (map (λ p. get_or row p.0 (pos 0)) (named_at at j)) in
    let new = int_sum-cons (pair_at change.own j).1 (map (λ p. p.1) (named_at at j)) in
    let old_same : int_sum (map (λ p. get_or row p.0 (pos 0)) (named_at at j)) ≡ int_sum (map (λ c. factor_at grid c.mon.0 o) at) = ap int_sum (old_named at row j) in
    let new_same : int_sum (map (λ p. p.1) (named_at at j)) ≡ int_sum (map (λ c. factor_in c.changes o (pos 0)) at) = ap int_sum (new_named at objects j o up r.at short is) in
    let own : (pair_at change.own j).1 ≡ factor_in change.own o (pos 0) = sym (ap (λ (v : Option ℤ). unwrap_or v (pos 0)) (change_at objects change.own j o up refl short is)) in
    let even : new_sum change o ≡ old_sum grid change o = subst (λ (q : ℕ). new_sum change q ≡ old_sum grid change q) is (r.sum j 0 short) in
    record {
      nodes = length-written (named change j) row ∙ b.nodes;
      sum = omega (arith, ints, told, old, new, old_same, new_same, own, even, b.sum);
      small = factors_written (named change j) row b.small n.small;
    }

-- the factor of an object that is named
pub factor_written : (grid : Grid) (change : Reallocation) (j node : ℕ) → IsReplacement grid change → IsAscending (objects_of change.own) → j < length change.own
    → IsBalanced grid.monitors (row_of grid (pair_at change.own j).0)
    → get_or (written (row_of grid (pair_at change.own j).0) (named change j)) node (pos 0) ≡ factor_in (changes_at change node) (pair_at change.own j).0 (factor_at grid node (pair_at change.own j).0)
factor_written grid change j node r up inside b =
    let o = (pair_at change.own j).0 in
    let row = row_of grid o in
    let n = is_named grid change j r inside in
    let fits : All (λ m. m < length row) (objects_of (named change j)) = λ k d h. omega (arith, b.nodes, n.within k d h) in
    written_at (named change j) row node n.apart fits ∙ named_node change j node (get_or row node (pos 0)) up r.at inside

-- the table after all objects are done
pub balanced_after : (grid : Grid) (change : Reallocation) → AreBalanced grid → IsReplacement grid change → IsAscending (objects_of change.own)
    → AreBalanced (record { monitors = grid.monitors; rows = rows_after grid.rows change (length change.own) })
balanced_after grid change balanced r up i h =
    let inside : i < length grid.rows = omega (arith, length-rows_after grid.rows change (length change.own)) in
    elim (found_or_not change.own (length change.own) (i + 1)) [
      | inl at ↦
          let place : (pair_at change.own at.0).0 - 1 ≡ i = omega (arith, at.2) in
          subst (λ (m : ℕ). IsBalanced grid.monitors (get_or (rows_after grid.rows change (length change.own)) m [])) place
          (subst (IsBalanced grid.monitors) (sym (touched grid.rows change (length change.own) at.0 up r.objects (omega arith) at.1))
          (balanced_written grid change at.0 r up at.1 (subst (λ (m : ℕ). IsBalanced grid.monitors (get_or grid.rows m [])) (sym place) (balanced i inside))))
      | inr none ↦
          let same : i + 1 - 1 ≡ i = omega arith in
          let kept = untouched grid.rows change (length change.own) (i + 1) up (omega arith) (omega arith) none in
          subst (IsBalanced grid.monitors) (sym (subst (λ (m : ℕ). get_or (rows_after grid.rows change (length change.own)) m [] ≡ get_or grid.rows m []) same kept)) (balanced i inside)
    ]

pub factors_after : (grid : Grid) (change : Reallocation) (node o : ℕ) → AreBalanced grid → IsReplacement grid change → IsAscending (objects_of change.own) → 0 < o
    → get_or (get_or (rows_after grid.rows change (length change.own)) (o - 1) []) node (pos 0) ≡ factor_in (changes_at change node) o (factor_at grid node o)
factors_after grid change node o balanced r up some = elim (found_or_not change.own (length change.own) o) [
  | inl at ↦
      let short : at.0 < length (objects_of change.own) = omega (arith, at.1, length-map change.own (λ (p : ℕ × ℤ). p.0)) in
      let bound = r.objects at.0 0 short in
      let inside : (pair_at change.own at.0).0 - 1 < length grid.rows = omega (arith, bound, object_at change.own at.0 at.1, at.2) in
      subst (λ (q : ℕ). get_or (get_or (rows_after grid.rows change (length change.own)) (q - 1) []) node (pos 0) ≡ factor_in (changes_at change node) q (factor_at grid node q)) at.2
      (ap (λ (row : List ℤ). get_or row node (pos 0)) (touched grid.rows change (length change.own) at.0 up r.objects (omega arith) at.1)
      ∙ factor_written grid change at.0 node r up at.1 (balanced ((pair_at change.own at.0).0 - 1) inside))
  | inr none ↦
      ap (λ (row : List ℤ). get_or row node (pos 0)) (untouched grid.rows change (length change.own) o up (omega arith) some none)
      ∙ sym (not_named change node o (factor_at grid node o) r.at none)
]

-- ---- one turn of the loop over the objects

-- the object at a place is about to be written
pub record IsTurn (grid : Grid) (change : Reallocation) (rows : List (List ℤ)) (i o : ℕ) (own : ℤ) : Type 0 where
  pub balanced : AreBalanced grid
  pub fits : IsReplacement grid change
  pub up : IsAscending (objects_of change.own)
  pub place : i < length change.own
  pub pair : slice_get change.own i ≡ Some (o, own)
  pub rows_are : rows ≡ rows_after grid.rows change i

turn_object : (grid : Grid) (change : Reallocation) (rows : List (List ℤ)) (i o : ℕ) (own : ℤ) → IsTurn grid change rows i o own → pair_at change.own i ≡ (o, own)
turn_object grid change rows i o own t = get_or_from_slice_get change.own i (o, own) (0, pos 0) t.pair

pub turn_positive : (grid : Grid) (change : Reallocation) (rows : List (List ℤ)) (i o : ℕ) (own : ℤ) → IsTurn grid change rows i o own → 1 ≤ o
turn_positive grid change rows i o own t =
    let is : (pair_at change.own i).0 ≡ o = ap (λ (p : ℕ × ℤ). p.0) (turn_object grid change rows i o own t) in
    omega (arith, is, object_positive change.own i t.up t.place)

pub turn_within : (grid : Grid) (change : Reallocation) (rows : List (List ℤ)) (i o : ℕ) (own : ℤ) → IsTurn grid change rows i o own → o - 1 < length rows
turn_within grid change rows i o own t =
    let is : (pair_at change.own i).0 ≡ o = ap (λ (p : ℕ × ℤ). p.0) (turn_object grid change rows i o own t) in
    let bound = t.fits.objects i 0 (omega (arith, t.place, length-map change.own (λ (p : ℕ × ℤ). p.0))) in
    omega (arith, is, bound, object_at change.own i t.place, turn_positive grid change rows i o own t, ap length t.rows_are, length-rows_after grid.rows change i)

-- its row is still the old one
pub turn_row : (grid : Grid) (change : Reallocation) (rows : List (List ℤ)) (i o : ℕ) (own : ℤ) (row : List ℤ) → IsTurn grid change rows i o own → row ≡ get_or rows (o - 1) row → length row ≡ grid.monitors + 1
turn_row grid change rows i o own row t read =
    let is : (pair_at change.own i).0 ≡ o = ap (λ (p : ℕ × ℤ). p.0) (turn_object grid change rows i o own t) in
    let within = turn_within grid change rows i o own t in
    let short : o - 1 < length grid.rows = omega (arith, within, ap length t.rows_are, length-rows_after grid.rows change i) in
    let old = untouched grid.rows change i o t.up (omega (arith, t.place)) (turn_positive grid change rows i o own t)
    (λ j h e. objects_differ change.own i j t.up h t.place (e ∙ sym is)) in
    ap length (read ∙ get_or_default rows (o - 1) row [] within ∙ ap (λ (xs : List (List ℤ)). get_or xs (o - 1) []) t.rows_are ∙ old)
    ∙ (t.balanced (o - 1) short).nodes

pub turn_next : (grid : Grid) (change : Reallocation) (rows : List (List ℤ)) (i o : ℕ) (own : ℤ) (row new : List ℤ) (at : List MonChange) → IsTurn grid change rows i o own → row ≡ get_or rows (o - 1) row
    → at ≡ change.at.items → new ≡ written row ((0, own) ∷ named_at at i) → set rows (o - 1) new ≡ rows_after grid.rows change (i + 1)
turn_next grid change rows i o own row new at t read same told =
    let pair = turn_object grid change rows i o own t in
    let is : (pair_at change.own i).0 ≡ o = ap (λ (p : ℕ × ℤ). p.0) pair in
    let value : (pair_at change.own i).1 ≡ own = ap (λ (p : ℕ × ℤ). p.1) pair in
    let within = turn_within grid change rows i o own t in
    let step : (q : ℕ) → q ≡ o → (v : ℤ) → v ≡ own → set rows (o - 1) new ≡ set (rows_after grid.rows change i) (q - 1) (written (get_or (rows_after grid.rows change i) (q - 1) []) ((0, v) ∷ named_at change.at.items i)) = λ q e v f.
    ap (set rows (o - 1)) (told ∙ ap (λ (r : List ℤ). written r ((0, own) ∷ named_at at i)) (read ∙ get_or_default rows (o - 1) row [] within) ∙ ap (λ (xs : List MonChange). written (get_or rows (o - 1) []) ((0, own) ∷ named_at xs i)) same)
    ∙ ap (λ (xs : List (List ℤ)). set xs (o - 1) (written (get_or xs (o - 1) []) ((0, own) ∷ named_at change.at.items i))) t.rows_are
    ∙ ap (λ (m : ℕ). set (rows_after grid.rows change i) (m - 1) (written (get_or (rows_after grid.rows change i) (m - 1) []) ((0, own) ∷ named_at change.at.items i))) (sym e)
    ∙ ap (λ (z : ℤ). set (rows_after grid.rows change i) (q - 1) (written (get_or (rows_after grid.rows change i) (q - 1) []) ((0, z) ∷ named_at change.at.items i))) (sym f) in
    rw (add-one) (step (pair_at change.own i).0 is (pair_at change.own i).1 value)

-- the factors of a table of zeros
pub zero_rows : (n monitors i : ℕ) → i < n → IsBalanced monitors (get_or (replicate n (replicate (monitors + 1) (pos 0))) i [])
zero_rows n monitors i h =
    subst (IsBalanced monitors) (sym (get_or-replicate n i (replicate (monitors + 1) (pos 0)) [] h))
    (record {
      nodes = length-replicate (monitors + 1) (pos 0);
      sum = int_sum_zeros (monitors + 1);
      small = zeros_are_factors (monitors + 1);
    })
