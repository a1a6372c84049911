-- How a coordinator begins: the first Assigns, and the table that they give.
use Rattle.std.proofs.Common.{◌≡◌, ℕ, suc, zero, ◌+◌, ◌-◌, ◌<◌, ◌≤◌, ◌==◌, ℤ, pos, List, [], ◌∷◌, ◌++◌, length, map, get_or, Contains, Option, refl, sym, ap, ap₂, ◌∙◌, subst, arith}
use Rattle.std.specs.Prelude.{filter, unwrap_or}
use Rattle.std.specs.List.{range_with_len, enumerate_from}
use Rattle.std.proofs.lemmas.Int.{ints}
use Rattle.std.proofs.lemmas.List.{ext_get_or, get_or-replicate, length-map, length-replicate, map-append}
use Rattle.std.proofs.lemmas.List.FromFn.{get_or-enumerate_from, get_or-map-range_with_len, length-map-range_with_len}
use Rattle.tk_base.specs.Ascending.{IsAscending}
use Rattle.tk_base.specs.Objects.{objects}
use Rattle.tk_base.specs.Pairs.{objects_of, pairs_of, value_at}
use Rattle.tk_base.specs.Settings.{Setup, IsWithinLimits}
use Rattle.tk_base.specs.Sum.{int_sum}
use Rattle.tk_base.specs.declared.ids.Obj.{Obj}
use Rattle.tk_base.proofs.PairsLemmas.{objects_paired}
use Rattle.tk_base.proofs.SumLemmas.{int_sum-cons}
use Rattle.tk_base.proofs.MemberLemmas.{length-objects}
use Rattle.tk_frames.specs.Assigns.{Assign, row}
use Rattle.tk_frames.specs.declared.frame.Frame.TheVariants as f
use Rattle.tk_rows.specs.Factors.{Grid, AreBalanced, IsBalanced, IsFactor, factor_at}
use Rattle.tk_border.proofs.RisingLemmas.{counted_more}
use Rattle.tk_alloc.specs.Resolving.{MeetsOwn}
use Rattle.tk_alloc.specs.Rounds.{IsOfSize}
use Rattle.tk_alloc.proofs.LeewayLemmas.{value_put}
use Rattle.tk_alloc.proofs.WideLemmas.{in_catalogue, of_catalogue}
use Rattle.tk_journal.specs.Laws.{AreChanges, AreSentShort, IsMonitor, IsSetUp}
use Rattle.tk_journal.specs.Legal.{Opening, opened, start}
use Rattle.tk_journal.specs.Readings.{factor, monitors, own, table_at}
use Rattle.tk_journal.specs.declared.noted.Noted.{Noted}
use Rattle.tk_journal.specs.declared.noted.Noted.TheVariants as n
use Rattle.tk_journal.proofs.Batches.{named, named_assigns}
use Rattle.tk_journal.proofs.Dealing.{row_place}
use Rattle.tk_journal.proofs.LawLemmas.{sum_zero}
use Rattle.tk_journal.proofs.LegalLemmas.{numbered_factors}
use Rattle.tk_journal.proofs.Sizes.{batch_short}
use Rattle.tk_journal.proofs.StartLemmas.{start_set_up}
use Rattle.tk_journal.proofs.Tables.{IsObject, row_at, row_is, rows_count, table_size}
use Rattle.tk_coord.specs.Batches.{to_each}
use Rattle.tk_coord.specs.Coordinator.{Begins, CanBegin, with_factors}
use Rattle.tk_coord.proofs.BatchLemmas.{started}

-- a monitor with its factors
abbrev pub Given : Type 0
Given = ℕ × List (ℕ × ℤ)

-- ---- a monitor's factors of all objects

-- the factors of all objects by a function
abbrev pub factors_by : (ℕ → ℤ) → ℕ → List (ℕ × ℤ)
factors_by F n = map (λ o. (o, F o)) (objects n)

-- no objects, no factors
pub none_by : (F : ℕ → ℤ) → factors_by F 0 ≡ []
unfolding objects
none_by F = refl

-- one object more
pub factors_more : (F : ℕ → ℤ) (k : ℕ) (list : List (Obj × ℤ)) {new : List (Obj × ℤ)} {z : ℤ} → new ≡ list ++ (record { 0 = k + 1 }, z) ∷ [] → pairs_of list ≡ factors_by F k → z ≡ F (k + 1)
    → pairs_of new ≡ factors_by F (k + 1)
unfolding objects
factors_more F k list {new} {z} pushed before is =
    ap pairs_of pushed
    ∙ map-append (λ (p : Obj × ℤ). (p.0.0, p.1)) list ((record { 0 = k + 1 }, z) ∷ [])
    ∙ ap (λ (ps : List (ℕ × ℤ)). ps ++ (k + 1, z) ∷ []) before
    ∙ ap (λ (y : ℤ). factors_by F k ++ (k + 1, y) ∷ []) is
    ∙ sym (counted_more (λ o. (o, F o)) k)

-- they are in order
pub factors_ascend : (F : ℕ → ℤ) (k : ℕ) (list : List (Obj × ℤ)) → pairs_of list ≡ factors_by F k → IsAscending (objects k) → IsAscending (objects_of (pairs_of list))
factors_ascend F k list is up = subst IsAscending (sym (ap objects_of is ∙ objects_paired F (objects k))) up

-- ---- the first Assigns

-- the first Assign to a monitor
abbrev pub assign_one : List ℕ → (ℕ → List (ℕ × ℤ)) → ℕ → Noted
assign_one members G mon = n.Sent (record { 0 = mon }) (f.Assign 1 members (G mon))

-- the first Assigns to so many monitors
abbrev pub assigns_by : List ℕ → (ℕ → List (ℕ × ℤ)) → ℕ → List Noted
assigns_by members G k = map (assign_one members G) (range_with_len 1 k)

-- one monitor more
pub assigns_more : (members : List ℕ) (G : ℕ → List (ℕ × ℤ)) (k : ℕ) {entries new : List Noted} {e : Noted} {changes : List (ℕ × ℤ)} {named : List ℕ}
    → new ≡ entries ++ e ∷ [] → entries ≡ assigns_by members G k → e ≡ n.Sent (record { 0 = k + 1 }) (f.Assign 1 named changes)
    → named ≡ members → changes ≡ G (k + 1) → new ≡ assigns_by members G (k + 1)
assigns_more members G k {entries} {new} {e} {changes} {named} pushed before is same dealt =
    pushed
    ∙ ap (λ (x : Noted). entries ++ x ∷ []) (is ∙ ap₂ (λ (ms : List ℕ) (cs : List (ℕ × ℤ)). n.Sent (record { 0 = k + 1 }) (f.Assign 1 ms cs)) same dealt)
    ∙ ap (λ (l : List Noted). l ++ assign_one members G (k + 1) ∷ []) before
    ∙ sym (counted_more (assign_one members G) k)

-- rows numbered from a first one are Assigns to the monitors of a range
each_given : (members : List ℕ) (G : ℕ → List (ℕ × ℤ)) (first k : ℕ)
    → map (λ (p : Given). n.Sent (record { 0 = p.0 }) (f.Assign 1 members p.1)) (enumerate_from first (map G (range_with_len first k))) ≡ map (assign_one members G) (range_with_len first k)
each_given members G first zero = refl
each_given members G first (suc k) = ap (λ xs. assign_one members G first ∷ xs) (each_given members G (first + 1) k)

-- the journal of an opening that gives each monitor its factors
pub opened_by : (s : Setup) (members : List ℕ) (table : Grid) → assigns_by members (λ mon. factors_by (factor_at table mon) s.objects) s.monitors ≡ opened (with_factors s members table)
opened_by s members table = sym (each_given members (λ mon. factors_by (factor_at table mon) s.objects) 1 s.monitors)

-- ---- the table that they give

-- the factors that a journal gives an object stand in its row
tail_is : (s : Setup) (j : List Noted) (o : ℕ) (x : ℤ) (rest : List ℤ)
    → length rest ≡ s.monitors → ((mon : ℕ) → IsMonitor s mon → get_or (x ∷ rest) mon (pos 0) ≡ factor mon j o)
    → rest ≡ map (λ mon. factor mon j o) (monitors s)
tail_is s j o x rest size each =
    ext_get_or (pos 0) rest (map (λ mon. factor mon j o) (monitors s)) (size ∙ sym (length-map-range_with_len (λ mon. factor mon j o) 1 s.monitors))
    (λ i below.
    each (suc i) (record { from_one = omega arith; within = omega (arith, below, size) })
    ∙ sym (get_or-map-range_with_len (λ mon. factor mon j o) 1 s.monitors i (suc i) (pos 0) (omega (arith, below, size)) (omega arith)))

-- a balanced row with the factors of all monitors has the coordinator's own before them
row_given : (s : Setup) (j : List Noted) (o : ℕ) (row : List ℤ) → IsBalanced s.monitors row → ((mon : ℕ) → IsMonitor s mon → get_or row mon (pos 0) ≡ factor mon j o) → row ≡ row_at s j o
row_given s j o [] balanced each = absurd (let l = balanced.nodes in omega (arith, l))
row_given s j o (x ∷ rest) balanced each =
    let is : rest ≡ map (λ mon. factor mon j o) (monitors s) = tail_is s j o x rest (let l = balanced.nodes in omega (arith, l)) each in
    let zero_sum = balanced.sum in
    let parts = int_sum-cons x rest in
    let total = sum_zero s j o in
    let others = int_sum-cons (own s j o) (map (λ mon. factor mon j o) (monitors s)) in
    let same : int_sum rest ≡ int_sum (map (λ mon. factor mon j o) (monitors s)) = ap int_sum is in
    let first : x ≡ own s j o = omega (arith, ints, zero_sum, parts, total, others, same) in
    ap₂ (λ (z : ℤ) (zs : List ℤ). z ∷ zs) first is

-- a table is that of a journal that gives each monitor its factors
pub table_is : (s : Setup) (j : List Noted) (table : Grid) → IsOfSize s table → AreBalanced table
    → ((o mon : ℕ) → IsObject s o → IsMonitor s mon → factor_at table mon o ≡ factor mon j o) → table ≡ table_at s j
table_is s j table size balanced each =
    let count = rows_count s j in
    let rows : table.rows ≡ (table_at s j).rows =
    ext_get_or [] table.rows (table_at s j).rows (size.objects ∙ sym count)
    (λ i below.
    let r : IsObject s (i + 1) = record { from_one = omega arith; within = (let l = size.objects in omega (arith, below, l)) } in
    let place : i + 1 - 1 ≡ i = omega arith in
    let here : IsBalanced s.monitors (get_or table.rows i []) = subst (λ (m : ℕ). IsBalanced m (get_or table.rows i [])) size.monitors (balanced i below) in
    row_given s j (i + 1) (get_or table.rows i []) here (λ mon m. ap (λ (q : ℕ). get_or (get_or table.rows q []) mon (pos 0)) (sym place) ∙ each (i + 1) mon r m)
    ∙ sym (row_is s j (i + 1) r)
    ∙ ap (λ (q : ℕ). get_or (table_at s j).rows q []) place) in
    ap₂ (λ (m : ℕ) (rs : List (List ℤ)). record { monitors = m; rows = rs }) (size.monitors ∙ sym (table_size s j)) rows

-- ---- what the first Assigns give

-- the factors of a row
abbrev pub changes_in : Given → List (ℕ × ℤ)
changes_in p = p.1

-- the factors of a monitor by its first Assign
given_factor : (o : Opening) (mon q : ℕ) → length o.factors ≡ o.settings.monitors → IsMonitor o.settings mon
    → factor mon (opened o) q ≡ unwrap_or (value_at (get_or o.factors (mon - 1) []) q) (pos 0)
unfolding factor
given_factor o mon q size m =
    let rows = enumerate_from 1 o.factors in
    let low = m.from_one in
    let high = m.within in
    let inside : mon - 1 < o.settings.monitors = omega (arith, low, high) in
    let place : 1 + (mon - 1) ≡ mon = omega (arith, low) in
    let alone : filter (λ (p : Given). p.0 == mon) rows ≡ get_or rows (mon - 1) (0, []) ∷ [] =
    ap (λ (k : ℕ). filter (λ (p : Given). p.0 == k) rows) (sym place)
    ∙ row_place (λ (p : Given). p.0) 1 o.settings.monitors rows (mon - 1) (0, []) (numbered_factors 1 o.factors ∙ ap (range_with_len 1) size) inside in
    let read : (get_or rows (mon - 1) (0, [])).1 ≡ get_or o.factors (mon - 1) [] = ap changes_in (get_or-enumerate_from 1 o.factors (mon - 1) (0, []) (omega (arith, inside, size))) in
    ap (λ (xs : List Assign). row xs q) (named_assigns mon [] (λ (p : Given). p.0) (λ _. 1) o.members changes_in rows)
    ∙ ap (λ (ps : List Given). row (map (λ p. record { members = o.members; changes = p.1 }) ps) q) alone
    ∙ ap (λ (cs : List (ℕ × ℤ)). unwrap_or (value_at cs q) (pos 0)) read

-- ---- the start

-- at the start no monitor has a factor
start_factor : (s : Setup) (mon q : ℕ) → IsMonitor s mon → factor mon (opened (start s)) q ≡ pos 0
start_factor s mon q m =
    given_factor (start s) mon q (length-replicate s.monitors []) m
    ∙ ap (λ (cs : List (ℕ × ℤ)). unwrap_or (value_at cs q) (pos 0)) (get_or-replicate s.monitors (mon - 1) [] [] (let low = m.from_one in let high = m.within in omega (arith, low, high)))

-- the first Assigns without changes are the journal of a start
pub begun_at_start : (s : Setup) (members : List ℕ) (entries : List Noted) (m : ℕ)
    → members ≡ objects s.k → entries ≡ to_each (f.Assign 1 members []) m → m ≡ s.monitors → entries ≡ opened (start s)
begun_at_start s members entries m named sent count = sent ∙ ap₂ (λ (ms : List ℕ) (k : ℕ). to_each (f.Assign 1 ms []) k) named count ∙ started s

-- with a table of zeros a coordinator begins at the start
pub begins_at_start : (s : Setup) (members : List ℕ) (table : Grid) (j : List Noted) → IsWithinLimits s → members ≡ objects s.k → IsOfSize s table → AreBalanced table
    → ((node o : ℕ) → factor_at table node o ≡ pos 0) → j ≡ opened (start s) → Begins s members table j
begins_at_start s members table j limits named size balanced zeros is = record {
  opening = start s;
  settings = refl;
  set_up = start_set_up s limits;
  is = is;
  named = named;
  dealt = table_is s (opened (start s)) table size balanced (λ o mon r m. zeros mon o ∙ sym (start_factor s mon o m)) ∙ ap (table_at s) (sym is);
}

-- ---- with the factors of a table

-- a monitor has the factors of the table that it was sent
dealt_factor : (s : Setup) (members : List ℕ) (table : Grid) (mon o : ℕ) → IsObject s o → IsMonitor s mon
    → factor_at table mon o ≡ factor mon (opened (with_factors s members table)) o
dealt_factor s members table mon o r m =
    let G : ℕ → List (ℕ × ℤ) = λ q. factors_by (factor_at table q) s.objects in
    let low = m.from_one in
    let high = m.within in
    let read : get_or (map G (monitors s)) (mon - 1) [] ≡ G mon = get_or-map-range_with_len G 1 s.monitors (mon - 1) mon [] (omega (arith, low, high)) (omega (arith, low)) in
    sym
    (given_factor (with_factors s members table) mon o (length-map-range_with_len G 1 s.monitors) m
    ∙ ap (λ (cs : List (ℕ × ℤ)). unwrap_or (value_at cs o) (pos 0)) read
    ∙ ap (λ (v : Option ℤ). unwrap_or v (pos 0)) (value_put (factor_at table mon) (objects s.objects) o (in_catalogue s.objects o r.from_one r.within)))

-- a table is that of the journal which sends it
pub dealt_table : (s : Setup) (members : List ℕ) (table : Grid) → IsOfSize s table → AreBalanced table → table ≡ table_at s (opened (with_factors s members table))
dealt_table s members table size balanced = table_is s (opened (with_factors s members table)) table size balanced (λ o mon r m. dealt_factor s members table mon o r m)

-- its first Assigns are short
dealt_short : (s : Setup) (members : List ℕ) (table : Grid) → IsWithinLimits s → length members ≡ s.k → AreSentShort (opened (with_factors s members table))
dealt_short s members table limits count =
    subst AreSentShort (opened_by s members table)
    (batch_short (λ (mon : ℕ). mon) (λ mon. f.Assign 1 members (factors_by (factor_at table mon) s.objects)) (monitors s)
    (λ mon in'. (
      (let k = limits.k in omega (arith, k, count)),
      (let size = length-map {B = ℕ × ℤ} (objects s.objects) (λ o. (o, factor_at table mon o)) in let all = length-objects s.objects in let few = limits.objects in omega (arith, size, all, few)),
    )))

-- what monitors are given over a range is what one of them is given
given_one : (G : ℕ → List (ℕ × ℤ)) (first k : ℕ) (p : Given) → Contains (enumerate_from first (map G (range_with_len first k))) p → (mon : ℕ) × (G mon ≡ p.1)
given_one G first zero p (i, below, is) = absurd (omega (arith, below))
given_one G first (suc k) p (zero, below, is) = (first, ap (λ (q : Given). q.1) is)
given_one G first (suc k) p (suc i, below, is) = given_one G (first + 1) k p (i, omega (arith, below), is)

-- the factors of objects by a function are of those objects
changed_by : (F : ℕ → ℤ) (xs : List ℕ) (c : ℕ × ℤ) → Contains (map (λ o. (o, F o)) xs) c → (o : ℕ) × Contains xs o × ((o, F o) ≡ c)
changed_by F [] c (i, below, is) = absurd (omega (arith, below))
changed_by F (o ∷ xs) c (zero, below, is) = (o, (0, omega arith, refl), is)
changed_by F (o ∷ xs) c (suc i, below, is) =
    let rest = changed_by F xs c (i, omega (arith, below), is) in
    (rest.0, (suc rest.1.0, omega (arith, rest.1.1), rest.1.2), rest.2)

-- a monitor is given factors of a table, of objects of the catalogue
dealt_changes : (s : Setup) (table : Grid) (mon : ℕ) → IsOfSize s table → AreBalanced table → AreChanges s.objects (factors_by (factor_at table mon) s.objects)
dealt_changes s table mon size balanced c in' =
    let one = changed_by (factor_at table mon) (objects s.objects) c in' in
    let range = of_catalogue s.objects one.0 one.1 in
    let small : IsFactor (factor_at table mon one.0) = (balanced (one.0 - 1) (let l = size.objects in omega (arith, l, range.0, range.1))).small mon in
    subst (λ (d : ℕ × ℤ). (d.0 ≤ s.objects) × IsFactor d.1) one.2 (range.1, small)

-- from such an opening a journal may start
pub with_factors_set_up : (s : Setup) (members : List ℕ) (table : Grid) → CanBegin s members table → IsAscending members → AreBalanced table → IsWithinLimits s
    → IsSetUp (with_factors s members table)
with_factors_set_up s members table c up balanced limits =
    let is = dealt_table s members table c.size balanced in
    record {
      limits = limits;
      factors = length-map-range_with_len (λ mon. factors_by (factor_at table mon) s.objects) 1 s.monitors;
      count = c.count;
      ascends = up;
      within = c.within;
      changes = dealt_short s members table limits c.count;
      given = λ p in'.
          let one = given_one (λ mon. factors_by (factor_at table mon) s.objects) 1 s.monitors p in' in
          subst (AreChanges s.objects) one.1 (dealt_changes s table one.0 c.size balanced);
      table = subst AreBalanced is balanced;
      own = subst (λ (grid : Grid). MeetsOwn grid s.epsilon members) is c.own;
    }

-- members and a table with which a coordinator can begin
pub can_begin : (s : Setup) (members : List ℕ) (table : Grid) (j : List Noted) → CanBegin s members table → IsAscending members → AreBalanced table → IsWithinLimits s
    → j ≡ opened (with_factors s members table) → Begins s members table j
can_begin s members table j c up balanced limits is = record {
  opening = with_factors s members table;
  settings = refl;
  set_up = with_factors_set_up s members table c up balanced limits;
  is = is;
  named = refl;
  dealt = dealt_table s members table c.size balanced ∙ ap (table_at s) (sym is);
}
