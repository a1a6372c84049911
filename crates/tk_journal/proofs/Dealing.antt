-- The table after Assigns: the dealt factors where they were dealt, the coordinator's among them, and the old ones elsewhere.
use Rattle.std.proofs.Common.{◌≡◌, ℕ, suc, zero, false, ◌+◌, ◌≤◌, ◌<◌, ◌==◌, ℤ, pos, ◌+ℤ◌, List, [], ◌∷◌, ◌++◌, length, map, get_or, drop, Contains, Option, Some, None, refl, sym, ap, ◌∙◌, arith, inl, inr}
use Rattle.std.specs.Prelude.{unwrap_or, neg_ℤ, filter, is_some, if◌then◌else◌}
use Rattle.std.specs.List.{range_with_len, enumerate_from, sum}
use Rattle.std.proofs.lemmas.Bool.{eq-eqb, ne_eqb, cases_eq}
use Rattle.std.proofs.lemmas.Int.{ints}
use Rattle.std.proofs.lemmas.List.{append-nil, length-map, get_or-map}
use Rattle.std.proofs.lemmas.List.FromFn.{length-range_with_len, get_or-range_with_len}
use Rattle.std.proofs.lemmas.List.Sums.{sum_by-cons}
use Rattle.tk_base.specs.Settings.{Setup}
use Rattle.tk_base.specs.Objects.{is_in}
use Rattle.tk_base.specs.Pairs.{value_at}
use Rattle.tk_base.specs.Sum.{int_sum}
use Rattle.tk_base.proofs.PairsLemmas.{objects_paired}
use Rattle.tk_base.proofs.SumLemmas.{int_sum-cons}
use Rattle.tk_base.proofs.MemberLemmas.{outside_is_not_in}
use Rattle.tk_rows.specs.Factors.{Grid, factor_at}
use Rattle.tk_frames.specs.Assigns.{Assign, row}
use Rattle.tk_frames.proofs.AssignsLemmas.{row-push}
use Rattle.tk_alloc.specs.declared.reported.Reported.{Reported}
use Rattle.tk_alloc.specs.Parts.{Part, monitor, new_factor}
use Rattle.tk_alloc.proofs.LeewayLemmas.{value_put, sum_is_kept, weights_in}
use Rattle.tk_alloc.proofs.BorderLemmas.{named_is}
use Rattle.tk_journal.specs.Laws.{IsMonitor}
use Rattle.tk_journal.specs.Readings.{monitors, assigns_to, assigns_sent, factor, own, table_at}
use Rattle.tk_journal.specs.declared.noted.Noted.{Noted}
use Rattle.tk_journal.proofs.Same.{map_same}
use Rattle.tk_journal.proofs.Batches.{named_assigns}
use Rattle.tk_journal.proofs.Naming.{no_row}
use Rattle.tk_journal.proofs.Orderly.{Row, sends}
use Rattle.tk_journal.proofs.Tables.{IsObject, own_is, factor_is}
use Rattle.tk_journal.proofs.LawLemmas.{sum_zero}

-- ---- one monitor

pub factor_sent : (j : List Noted) (members : List ℕ) (rows : List Row) (mon o : ℕ) (d : Row) → filter (λ (e : Row). e.0 == mon) rows ≡ d ∷ []
    → factor mon (j ++ sends j members rows) o ≡ unwrap_or (value_at d.1 o) (factor mon j o)
unfolding factor
factor_sent j members rows mon o d alone =
    ap (λ (xs : List Assign). row xs o)
    (named_assigns mon j (λ (e : Row). e.0) (λ e. assigns_sent e.0 j + 1) members (λ e. e.1) rows ∙ ap (λ (es : List Row). assigns_to mon j ++ map (λ e. record { members = members; changes = e.1 }) es) alone)
    ∙ row-push (assigns_to mon j) (record { members = members; changes = d.1 }) o

pub factor_unsent : (j : List Noted) (members : List ℕ) (rows : List Row) (mon o : ℕ) → filter (λ (e : Row). e.0 == mon) rows ≡ [] → factor mon (j ++ sends j members rows) o ≡ factor mon j o
unfolding factor
factor_unsent j members rows mon o none =
    ap (λ (xs : List Assign). row xs o)
    (named_assigns mon j (λ (e : Row). e.0) (λ e. assigns_sent e.0 j + 1) members (λ e. e.1) rows ∙ ap (λ (es : List Row). assigns_to mon j ++ map (λ e. record { members = members; changes = e.1 }) es) none ∙ append-nil (assigns_to mon j))

-- ---- the rows of a range, by their places

pub row_place : {A : Type 0} (to : A → ℕ) (a k : ℕ) (rows : List A) (i : ℕ) (d : A) → map to rows ≡ range_with_len a k → i < k → filter (λ e. to e == a + i) rows ≡ get_or rows i d ∷ []
row_place to a zero rows i d is within = absurd (omega (arith, within))
row_place to a (suc k) [] i d is within = cc
row_place to a (suc k) (r ∷ rows) zero d is within =
    let here : to r ≡ a = ap (λ xs. get_or xs 0 0) is in
    let rest : map to rows ≡ range_with_len (a + 1) k = ap (drop 1) is in
    ap (λ b. if b then r ∷ filter (λ e. to e == a + 0) rows else filter (λ e. to e == a + 0) rows) (eq-eqb (to r) (a + 0) (omega (arith, here)))
    ∙ ap (λ xs. r ∷ xs) (no_row to (a + 1) k rows (a + 0) rest (omega arith))
row_place to a (suc k) (r ∷ rows) (suc i) d is within =
    let here : to r ≡ a = ap (λ xs. get_or xs 0 0) is in
    let rest : map to rows ≡ range_with_len (a + 1) k = ap (drop 1) is in
    let next : a + suc i ≡ a + 1 + i = omega arith in
    ap (λ b. if b then r ∷ filter (λ e. to e == a + suc i) rows else filter (λ e. to e == a + suc i) rows) (ne_eqb (to r) (a + suc i) (λ same. omega (arith, here, same)))
    ∙ ap (λ q. filter (λ e. to e == q) rows) next
    ∙ row_place to (a + 1) k rows i d rest (omega (arith, within))

by_places : {X : Type 0} (g : ℕ → X) (h : Row → X) (a k : ℕ) (rows : List Row) → length rows ≡ k → ((i : ℕ) (d : Row) → i < k → g (a + i) ≡ h (get_or rows i d)) → map g (range_with_len a k) ≡ map h rows
by_places g h a zero [] size each = refl
by_places g h a zero (r ∷ rows) size each = absurd (omega (arith, size))
by_places g h a (suc k) [] size each = absurd (omega (arith, size))
by_places g h a (suc k) (r ∷ rows) size each =
    let first : a + 0 ≡ a = omega arith in
    ap (λ x. x ∷ map g (range_with_len (a + 1) k)) (ap g (sym first) ∙ each 0 r (omega arith))
    ∙ ap (λ xs. h r ∷ xs) (by_places g h (a + 1) k rows (omega (arith, size)) (λ i d below.
    let next : a + 1 + i ≡ a + suc i = omega arith in ap g next ∙ each (suc i) d (omega (arith, below))))

pub node_at : (rows : List Row) (i : ℕ) (d : Row) (k : ℕ) → map (λ (e : Row). e.0) rows ≡ range_with_len 1 k → i < k → (get_or rows i d).0 ≡ 1 + i
node_at rows i d k is below =
    let size : length rows ≡ k = sym (length-map rows (λ (e : Row). e.0)) ∙ ap length is ∙ length-range_with_len 1 k in
    sym (get_or-map (λ (e : Row). e.0) rows i d 0 (omega (arith, below, size))) ∙ ap (λ xs. get_or xs i 0) is ∙ get_or-range_with_len 1 k i 0 below

-- the factors of an object after an Assign to each monitor
pub all_sent : (s : Setup) (j : List Noted) (members : List ℕ) (rows : List Row) (o : ℕ) → map (λ (d : Row). d.0) rows ≡ range_with_len 1 s.monitors
    → map (λ mon. factor mon (j ++ sends j members rows) o) (monitors s) ≡ map (λ (d : Row). unwrap_or (value_at d.1 o) (factor d.0 j o)) rows
all_sent s j members rows o is =
    by_places (λ mon. factor mon (j ++ sends j members rows) o) (λ d. unwrap_or (value_at d.1 o) (factor d.0 j o)) 1 s.monitors rows
    (sym (length-map rows (λ (d : Row). d.0)) ∙ ap length is ∙ length-range_with_len 1 s.monitors)
    (λ i d below.
    let place = row_place (λ (e : Row). e.0) 1 s.monitors rows i d is below in
    let own : (get_or rows i d).0 ≡ 1 + i = node_at rows i d s.monitors is below in
    factor_sent j members rows (1 + i) o (get_or rows i d) place ∙ ap (λ q. unwrap_or (value_at (get_or rows i d).1 o) (factor q j o)) (sym own))

-- ---- the dealt rows

abbrev pub dealt_rows : Grid → List Part → List ℕ → ℕ → List Part → List Row
dealt_rows grid parts objects first ps = map (λ e. (e.1.node, map (λ o. (o, new_factor grid parts e.0 e.1 o)) objects)) (enumerate_from first ps)

pub dealt_values : (grid : Grid) (parts : List Part) (objects : List ℕ) (first : ℕ) (ps : List Part) (o : ℕ) (old : ℕ → ℤ) → Contains objects o
    → map (λ (d : Row). unwrap_or (value_at d.1 o) (old d.0)) (dealt_rows grid parts objects first ps) ≡ map (λ e. new_factor grid parts e.0 e.1 o) (enumerate_from first ps)
dealt_values grid parts objects first [] o old of = refl
dealt_values grid parts objects first (p ∷ ps) o old of =
    ap (λ x. x ∷ map (λ (d : Row). unwrap_or (value_at d.1 o) (old d.0)) (dealt_rows grid parts objects (first + 1) ps))
    (ap (λ (v : Option ℤ). unwrap_or v (old p.node)) (value_put (λ q. new_factor grid parts first p q) objects o of))
    ∙ ap (λ xs. new_factor grid parts first p o ∷ xs) (dealt_values grid parts objects (first + 1) ps o old of)

none_value : (v : Option ℤ) → is_some v ≡ false → v ≡ None
none_value None is = refl
none_value (Some z) is = cc

pub not_dealt : (F : ℕ → ℤ) (objects : List ℕ) (o : ℕ) → (Contains objects o → ⊥) → value_at (map (λ q. (q, F q)) objects) o ≡ None
not_dealt F objects o out =
    none_value (value_at (map (λ q. (q, F q)) objects) o) (named_is (map (λ q. (q, F q)) objects) o ∙ ap (λ xs. is_in xs o) (objects_paired F objects) ∙ outside_is_not_in objects o out)

pub others_stay : (grid : Grid) (parts : List Part) (objects : List ℕ) (first : ℕ) (ps : List Part) (o : ℕ) (old : ℕ → ℤ) → (Contains objects o → ⊥)
    → map (λ (d : Row). unwrap_or (value_at d.1 o) (old d.0)) (dealt_rows grid parts objects first ps) ≡ map old (map (λ (q : Part). q.node) ps)
others_stay grid parts objects first [] o old out = refl
others_stay grid parts objects first (p ∷ ps) o old out =
    ap (λ x. x ∷ map (λ (d : Row). unwrap_or (value_at d.1 o) (old d.0)) (dealt_rows grid parts objects (first + 1) ps))
    (ap (λ (v : Option ℤ). unwrap_or v (old p.node)) (not_dealt (λ q. new_factor grid parts first p q) objects o out))
    ∙ ap (λ xs. old p.node ∷ xs) (others_stay grid parts objects (first + 1) ps o old out)

-- ---- the coordinator's own factor

old_factors : (s : Setup) (j : List Noted) (o : ℕ) (nodes : List ℕ) → IsObject s o → ((q : ℕ) → Contains nodes q → IsMonitor s q) → map (λ q. factor_at (table_at s j) q o) nodes ≡ map (λ q. factor q j o) nodes
old_factors s j o [] r each = refl
old_factors s j o (q ∷ nodes) r each =
    ap (λ z. z ∷ map (λ q. factor_at (table_at s j) q o) nodes) (factor_is s j o q r (each q (0, omega arith, refl)))
    ∙ ap (λ zs. factor q j o ∷ zs) (old_factors s j o nodes r (λ p in'. each p (suc in'.0, omega (arith, in'.1), in'.2)))

pub rows_nodes : (grid : Grid) (parts : List Part) (objects : List ℕ) (first : ℕ) (ps : List Part) → map (λ (d : Row). d.0) (dealt_rows grid parts objects first ps) ≡ map (λ (q : Part). q.node) ps
rows_nodes grid parts objects first [] = refl
rows_nodes grid parts objects first (p ∷ ps) = ap (λ xs. p.node ∷ xs) (rows_nodes grid parts objects (first + 1) ps)

abbrev pub parts_with : Part → (Reported → ℤ) → List Reported → List Part
parts_with first b reports = first ∷ map (λ r. monitor (b r) r) reports

pub nodes_of : (b : Reported → ℤ) (reports : List Reported) → map (λ (q : Part). q.node) (map (λ r. monitor (b r) r) reports) ≡ map (λ (r : Reported). r.mon.0) reports
nodes_of b [] = refl
nodes_of b (r ∷ reports) = ap (λ xs. r.mon.0 ∷ xs) (nodes_of b reports)

map_nodes : (g : ℕ → ℤ) (parts : List Part) → map (λ (q : Part). g q.node) parts ≡ map g (map (λ (q : Part). q.node) parts)
map_nodes g [] = refl
map_nodes g (p ∷ parts) = ap (λ xs. g p.node ∷ xs) (map_nodes g parts)

range_in : (a k q : ℕ) → Contains (range_with_len a k) q → (a ≤ q) × (q < a + k)
range_in a k q (i, within, is) =
    let read = get_or-range_with_len a k i q (let l = length-range_with_len a k in omega (arith, within, l)) in
    let l = length-range_with_len a k in (omega (arith, read, is), omega (arith, read, is, within, l))

ones : (b : Reported → ℤ) (reports : List Reported) → sum (weights_in (map (λ r. monitor (b r) r) reports)) ≡ length reports
ones b [] = refl
ones b (r ∷ reports) = omega (arith, ones b reports, sum_by-cons (λ x. x) 1 (weights_in (map (λ q. monitor (b q) q) reports)))

some_weight : (first : Part) (b : Reported → ℤ) (reports : List Reported) → 0 < length reports → 0 < sum (weights_in (parts_with first b reports))
some_weight first b reports some = omega (arith, sum_by-cons (λ x. x) first.weight (weights_in (map (λ r. monitor (b r) r) reports)), ones b reports, some)

-- the old factors of the participants, where they are all nodes, sum to zero
old_zero : (s : Setup) (j : List Noted) (first : Part) (b : Reported → ℤ) (reports : List Reported) (o : ℕ) → IsObject s o → first.node ≡ 0 → map (λ (r : Reported). r.mon.0) reports ≡ range_with_len 1 s.monitors
    → int_sum (map (λ (q : Part). factor_at (table_at s j) q.node o) (parts_with first b reports)) ≡ pos 0
old_zero s j first b reports o r coord all =
    let ms = map (λ q. monitor (b q) q) reports in
    let nodes : map (λ (q : Part). q.node) ms ≡ monitors s = nodes_of b reports ∙ all in
    let rest : map (λ (q : Part). factor_at (table_at s j) q.node o) ms ≡ map (λ mon. factor mon j o) (monitors s) =
    map_nodes (λ q. factor_at (table_at s j) q o) ms ∙ ap (map (λ q. factor_at (table_at s j) q o)) nodes
    ∙ old_factors s j o (monitors s) r (λ q in'. let w = range_in 1 s.monitors q in' in record { from_one = w.0; within = omega (arith, w.1) }) in
    ap int_sum (ap (λ (q : ℕ). factor_at (table_at s j) q o ∷ map (λ (p : Part). factor_at (table_at s j) p.node o) ms) coord
    ∙ ap (λ (z : ℤ). z ∷ map (λ (p : Part). factor_at (table_at s j) p.node o) ms) (own_is s j o r)
    ∙ ap (λ (zs : List ℤ). own s j o ∷ zs) rest)
    ∙ sum_zero s j o

-- where every monitor is sent an Assign, the coordinator's own factor of a dealt object is the one that was dealt to it
pub own_dealt : (s : Setup) (j : List Noted) (members objects : List ℕ) (first : Part) (b : Reported → ℤ) (reports : List Reported) (o : ℕ) → IsObject s o → first.node ≡ 0 → 0 < length reports
    → map (λ (r : Reported). r.mon.0) reports ≡ range_with_len 1 s.monitors → Contains objects o
    → own s (j ++ sends j members (dealt_rows (table_at s j) (parts_with first b reports) objects 1 (map (λ r. monitor (b r) r) reports))) o ≡ new_factor (table_at s j) (parts_with first b reports) 0 first o
unfolding own
own_dealt s j members objects first b reports o r coord some all of =
    let grid = table_at s j in
    let parts = parts_with first b reports in
    let ms = map (λ q. monitor (b q) q) reports in
    let rows = dealt_rows grid parts objects 1 ms in
    let after = j ++ sends j members rows in
    let dealt = map (λ (e : ℕ × Part). new_factor grid parts e.0 e.1 o) (enumerate_from 1 ms) in
    let is : map (λ mon. factor mon after o) (monitors s) ≡ dealt =
    all_sent s j members rows o (rows_nodes grid parts objects 1 ms ∙ nodes_of b reports ∙ all) ∙ dealt_values grid parts objects 1 ms o (λ q. factor q j o) of in
    let kept : int_sum (new_factor grid parts 0 first o ∷ dealt) ≡ pos 0 = sum_is_kept grid parts o (some_weight first b reports some) ∙ old_zero s j first b reports o r coord all in
    let cons = int_sum-cons (new_factor grid parts 0 first o) dealt in
    let same = ap int_sum is in
    omega (arith, ints, kept, cons, same)

-- and that of any other object stays
pub own_other : (s : Setup) (j : List Noted) (members objects : List ℕ) (first : Part) (b : Reported → ℤ) (reports : List Reported) (o : ℕ)
    → map (λ (r : Reported). r.mon.0) reports ≡ range_with_len 1 s.monitors → (Contains objects o → ⊥)
    → own s (j ++ sends j members (dealt_rows (table_at s j) (parts_with first b reports) objects 1 (map (λ r. monitor (b r) r) reports))) o ≡ own s j o
unfolding own
own_other s j members objects first b reports o all out =
    let grid = table_at s j in
    let parts = parts_with first b reports in
    let ms = map (λ q. monitor (b q) q) reports in
    let rows = dealt_rows grid parts objects 1 ms in
    ap (λ xs. neg_ℤ (int_sum xs))
    (all_sent s j members rows o (rows_nodes grid parts objects 1 ms ∙ nodes_of b reports ∙ all)
    ∙ others_stay grid parts objects 1 ms o (λ q. factor q j o) out
    ∙ ap (map (λ q. factor q j o)) (nodes_of b reports ∙ all))

-- ---- an Assign to one monitor alone

same_past : (g h : ℕ → ℤ) (a k mon : ℕ) → mon < a → ((q : ℕ) → (q ≡ mon → ⊥) → h q ≡ g q) → map h (range_with_len a k) ≡ map g (range_with_len a k)
same_past g h a zero mon low same = refl
same_past g h a (suc k) mon low same =
    ap (λ x. x ∷ map h (range_with_len (a + 1) k)) (same a (λ e. omega (arith, e, low))) ∙ ap (λ xs. g a ∷ xs) (same_past g h (a + 1) k mon (omega (arith, low)) same)

sum_one : (g h : ℕ → ℤ) (a k mon : ℕ) → a ≤ mon → mon < a + k → ((q : ℕ) → (q ≡ mon → ⊥) → h q ≡ g q) → int_sum (map h (range_with_len a k)) +ℤ g mon ≡ int_sum (map g (range_with_len a k)) +ℤ h mon
sum_one g h a zero mon low high same = absurd (omega (arith, low, high))
sum_one g h a (suc k) mon low high same =
    let of_h = int_sum-cons (h a) (map h (range_with_len (a + 1) k)) in
    let of_g = int_sum-cons (g a) (map g (range_with_len (a + 1) k)) in
    elim (cases_eq a mon) [
      | inl e ↦
          let rest = ap int_sum (same_past g h (a + 1) k mon (omega (arith, e)) same) in
          let here_h = ap h e in let here_g = ap g e in
          omega (arith, ints, of_h, of_g, rest, here_h, here_g)
      | inr ne ↦
          let here = same a ne in
          let rest = sum_one g h (a + 1) k mon (omega (arith, low, ne)) (omega (arith, high)) same in
          omega (arith, ints, of_h, of_g, here, rest)
    ]

abbrev pub one_part : Part → Reported → List Part
one_part first report = first ∷ monitor report.border report ∷ []

-- the coordinator's own factor of a dealt object is the one that was dealt to it, here too
pub own_short : (s : Setup) (j : List Noted) (members objects : List ℕ) (first : Part) (report : Reported) (o : ℕ) → IsObject s o → first.node ≡ 0 → IsMonitor s report.mon.0 → Contains objects o
    → own s (j ++ sends j members (dealt_rows (table_at s j) (one_part first report) objects 1 (monitor report.border report ∷ []))) o ≡ new_factor (table_at s j) (one_part first report) 0 first o
unfolding own
own_short s j members objects first report o r coord m of =
    let grid = table_at s j in
    let mon = report.mon.0 in
    let part = monitor report.border report in
    let parts = one_part first report in
    let rows = dealt_rows grid parts objects 1 (part ∷ []) in
    let after = j ++ sends j members rows in
    let changes : List (ℕ × ℤ) = map (λ q. (q, new_factor grid parts 1 part q)) objects in
    let new : factor mon after o ≡ new_factor grid parts 1 part o =
    factor_sent j members rows mon o (mon, changes) (ap (λ c. if c then (mon, changes) ∷ [] else []) (eq-eqb mon mon refl))
    ∙ ap (λ (v : Option ℤ). unwrap_or v (factor mon j o)) (value_put (λ q. new_factor grid parts 1 part q) objects o of) in
    let others : (q : ℕ) → (q ≡ mon → ⊥) → factor q after o ≡ factor q j o =
    λ q ne. factor_unsent j members rows q o (ap (λ c. if c then (mon, changes) ∷ [] else []) (ne_eqb mon q (λ e. ne (sym e)))) in
    let moved = sum_one (λ q. factor q j o) (λ q. factor q after o) 1 s.monitors mon m.from_one (let w = m.within in omega (arith, w)) others in
    let kept = sum_is_kept grid parts o (some_weight first (λ (q : Reported). q.border) (report ∷ []) (omega arith)) in
    let left = int_sum-cons (new_factor grid parts 0 first o) (new_factor grid parts 1 part o ∷ []) in
    let left' = int_sum-cons (new_factor grid parts 1 part o) [] in
    let right = int_sum-cons (factor_at grid first.node o) (factor_at grid mon o ∷ []) in
    let right' = int_sum-cons (factor_at grid mon o) [] in
    let own_old : factor_at grid first.node o ≡ own s j o = ap (λ (q : ℕ). factor_at grid q o) coord ∙ own_is s j o r in
    let at_old = factor_is s j o mon r m in
    let zero_sum = int_sum-cons (own s j o) (map (λ q. factor q j o) (monitors s)) in
    let total = sum_zero s j o in
    omega (arith, ints, new, moved, kept, left, left', right, right', own_old, at_old, zero_sum, total)

pub short_other : (s : Setup) (j : List Noted) (members objects : List ℕ) (first : Part) (report : Reported) (o mon : ℕ) → (Contains objects o → ⊥)
    → factor mon (j ++ sends j members (dealt_rows (table_at s j) (one_part first report) objects 1 (monitor report.border report ∷ []))) o ≡ factor mon j o
short_other s j members objects first report o mon out =
    let grid = table_at s j in
    let parts = one_part first report in
    let rows = dealt_rows grid parts objects 1 (monitor report.border report ∷ []) in
    let changes : List (ℕ × ℤ) = map (λ q. (q, new_factor grid parts 1 (monitor report.border report) q)) objects in
    elim (cases_eq report.mon.0 mon) [
      | inl e ↦
          let sent : factor mon (j ++ sends j members rows) o ≡ unwrap_or (value_at changes o) (factor mon j o) =
          factor_sent j members rows mon o (report.mon.0, changes) (ap (λ c. if c then (report.mon.0, changes) ∷ [] else []) (eq-eqb report.mon.0 mon e)) in
          let none : value_at changes o ≡ None = not_dealt (λ q. new_factor grid parts 1 (monitor report.border report) q) objects o out in
          sent ∙ ap (λ (v : Option ℤ). unwrap_or v (factor mon j o)) none
      | inr ne ↦ factor_unsent j members rows mon o (ap (λ c. if c then (report.mon.0, changes) ∷ [] else []) (ne_eqb report.mon.0 mon ne))
    ]

pub own_short_other : (s : Setup) (j : List Noted) (members objects : List ℕ) (first : Part) (report : Reported) (o : ℕ) → (Contains objects o → ⊥)
    → own s (j ++ sends j members (dealt_rows (table_at s j) (one_part first report) objects 1 (monitor report.border report ∷ []))) o ≡ own s j o
unfolding own
own_short_other s j members objects first report o out =
    ap (λ xs. neg_ℤ (int_sum xs)) (map_same (λ mon. factor mon (j ++ sends j members (dealt_rows (table_at s j) (one_part first report) objects 1 (monitor report.border report ∷ []))) o) (λ mon. factor mon j o) (monitors s)
    (λ mon. short_other s j members objects first report o mon out))
