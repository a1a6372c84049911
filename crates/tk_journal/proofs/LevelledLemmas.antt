-- The levels of a monitor behind a short round, by the journal's factors.
use Rattle.std.proofs.Common.{◌≡◌, ℕ, suc, zero, ◌+◌, ◌-◌, ◌≤◌, ◌<◌, ◌==◌, ℤ, pos, ◌+ℤ◌, List, [], ◌∷◌, ◌++◌, length, map, get_or, Contains, Option, refl, sym, ap, ◌∙◌, arith}
use Rattle.std.specs.Prelude.{unwrap_or, filter, if◌then◌else◌}
use Rattle.std.specs.List.{range_with_len}
use Rattle.std.proofs.lemmas.Bool.{eq-eqb}
use Rattle.std.proofs.lemmas.List.{length-map, get_or-map}
use Rattle.std.proofs.lemmas.List.FromFn.{length-range_with_len, get_or-range_with_len}
use Rattle.tk_base.specs.Objects.{objects}
use Rattle.tk_base.specs.Pairs.{objects_of, value_at}
use Rattle.tk_base.specs.Settings.{Setup}
use Rattle.tk_border.specs.Levels.{level_at}
use Rattle.tk_rows.specs.Factors.{Grid}
use Rattle.tk_alloc.specs.declared.reported.Reported.{Reported}
use Rattle.tk_alloc.specs.Parts.{Part, monitor, new_factor, value_of}
use Rattle.tk_alloc.specs.Resolving.{round_parts}
use Rattle.tk_alloc.proofs.LeewayLemmas.{value_put}
use Rattle.tk_journal.specs.Readings.{factor, in_force, table_at, members_at}
use Rattle.tk_journal.specs.declared.noted.Noted.{Noted}
use Rattle.tk_journal.proofs.Dealing.{dealt_rows, factor_sent, not_dealt, row_place}
use Rattle.tk_alloc.proofs.WideLemmas.{in_catalogue}
use Rattle.tk_journal.proofs.Orderly.{Row, sends}
use Rattle.tk_alloc.specs.Strain.{AreLevelled, short_level}

-- the levels of all objects, by values and factors
abbrev pub levels_by : ℕ → (ℕ → ℤ) → (ℕ → ℤ) → List ℤ
levels_by n value factor = map (λ o. value o +ℤ factor o) (objects n)

pub count_levels : (n : ℕ) (h : ℕ → ℤ) → length (map h (objects n)) ≡ n
unfolding objects
count_levels n h = length-map (range_with_len 1 n) h ∙ length-range_with_len 1 n

level_is : (n : ℕ) (h : ℕ → ℤ) (o : ℕ) → 0 < o → o ≤ n → level_at (map h (objects n)) o ≡ h o
unfolding objects
level_is n h o some within =
    let place : o - 1 < length (range_with_len 1 n) = (let l = length-range_with_len 1 n in omega (arith, l, some, within)) in
    let read = get_or-range_with_len 1 n (o - 1) 0 (omega (arith, some, within)) in
    let same : 1 + (o - 1) ≡ o = omega (arith, some) in
    get_or-map h (range_with_len 1 n) (o - 1) 0 (pos 0) place ∙ ap h (read ∙ same)

-- the row that a short round sends its reporter
abbrev pub short_sent : Setup → List Noted → Reported → Row
short_sent s j report =
    (report.mon.0, map (λ o. (o, new_factor (table_at s j) (round_parts (in_force s j) (table_at s j) (members_at j) (members_at j) (objects_of report.values) (report ∷ [])) 1 (monitor report.border report) o)) (objects_of report.values))

pub short_levelled : (s : Setup) (j : List Noted) (report : Reported) (n : ℕ) (value : ℕ → ℤ) → ((o : ℕ) → Contains (objects_of report.values) o → value o ≡ value_of report.values o)
    → AreLevelled (objects_of report.values) (levels_by n value (λ o. factor report.mon.0 j o)) (levels_by n value (λ o. factor report.mon.0 (j ++ sends j (members_at j) (short_sent s j report ∷ [])) o)) (short_level (in_force s j) (table_at s j) (members_at j) report)
short_levelled s j report n value same =
    let all = objects_of report.values in
    let mon = report.mon.0 in
    let row = short_sent s j report in
    let after = j ++ sends j (members_at j) (row ∷ []) in
    let deal : ℕ → ℤ = λ o. new_factor (table_at s j) (round_parts (in_force s j) (table_at s j) (members_at j) (members_at j) all (report ∷ [])) 1 (monitor report.border report) o in
    let sent : (o : ℕ) → factor mon after o ≡ unwrap_or (value_at row.1 o) (factor mon j o) = λ o. factor_sent j (members_at j) (row ∷ []) mon o row (ap (λ b. if b then row ∷ [] else []) (eq-eqb mon mon refl)) in
    let before = levels_by n value (λ o. factor mon j o) in
    let counted : length before ≡ n = count_levels n (λ o. value o +ℤ factor mon j o) in
    record {
      count = count_levels n (λ o. value o +ℤ factor mon after o) ∙ sym counted;
      new = λ o some within in'.
          let dealt : factor mon after o ≡ deal o = sent o ∙ ap (λ (v : Option ℤ). unwrap_or v (factor mon j o)) (value_put deal all o in') in
          level_is n (λ q. value q +ℤ factor mon after q) o some (omega (arith, within, counted)) ∙ ap (λ z. z +ℤ factor mon after o) (same o in') ∙ ap (λ z. value_of report.values o +ℤ z) dealt;
      old = λ o some within out.
          let kept : factor mon after o ≡ factor mon j o = sent o ∙ ap (λ (v : Option ℤ). unwrap_or v (factor mon j o)) (not_dealt deal all o out) in
          level_is n (λ q. value q +ℤ factor mon after q) o some (omega (arith, within, counted)) ∙ ap (λ z. value o +ℤ z) kept ∙ sym (level_is n (λ q. value q +ℤ factor mon j q) o some (omega (arith, within, counted)));
    }

-- ---- behind a wide round

pub dealt_at : (grid : Grid) (parts : List Part) (all : List ℕ) (first : ℕ) (ps : List Part) (k : ℕ) (d : Row) (p : Part) → k < length ps → get_or ps k p ≡ p
    → get_or (dealt_rows grid parts all first ps) k d ≡ (p.node, map (λ o. (o, new_factor grid parts (first + k) p o)) all)
dealt_at grid parts all first [] k d p within is = absurd (omega (arith, within))
dealt_at grid parts all first (q ∷ ps) zero d p within is =
    let next : first ≡ first + 0 = omega arith in
    ap (λ (x : Part). (x.node, map (λ o. (o, new_factor grid parts first x o)) all)) is ∙ ap (λ (n : ℕ). (p.node, map (λ o. (o, new_factor grid parts n p o)) all)) next
dealt_at grid parts all first (q ∷ ps) (suc k) d p within is =
    let next : first + 1 + k ≡ first + suc k = omega arith in
    dealt_at grid parts all (first + 1) ps k d p (omega (arith, within)) is ∙ ap (λ (n : ℕ). (p.node, map (λ o. (o, new_factor grid parts n p o)) all)) next

pub wide_levelled : (s : Setup) (j : List Noted) (members : List ℕ) (grid : Grid) (parts : List Part) (reports : List Reported) (n k : ℕ) (report : Reported) (value : ℕ → ℤ) → ((o : ℕ) → 0 < o → o ≤ n → value o ≡ value_of report.values o)
    → map (λ (d : Row). d.0) (dealt_rows grid parts (objects n) 1 (map (monitor (pos 0)) reports)) ≡ range_with_len 1 s.monitors → k < s.monitors → k < length reports → get_or reports k report ≡ report
    → (o : ℕ) → 0 < o → o ≤ n
    → level_at (levels_by n value (λ q. factor (1 + k) (j ++ sends j members (dealt_rows grid parts (objects n) 1 (map (monitor (pos 0)) reports))) q)) o ≡ value_of report.values o +ℤ new_factor grid parts (1 + k) (monitor (pos 0) report) o
wide_levelled s j members grid parts reports n k report value same nodes few within is o some most =
    let all = objects n in
    let p = monitor (pos 0) report in
    let ps = map (monitor (pos 0)) reports in
    let rows = dealt_rows grid parts all 1 ps in
    let deal : ℕ → ℤ = λ q. new_factor grid parts (1 + k) p q in
    let row : Row = (p.node, map (λ q. (q, deal q)) all) in
    let after = j ++ sends j members rows in
    let at : get_or rows k row ≡ row = dealt_at grid parts all 1 ps k row p (omega (arith, within, length-map reports (monitor (pos 0)))) (get_or-map (monitor (pos 0)) reports k report p within ∙ ap (monitor (pos 0)) is) in
    let alone : filter (λ (e : Row). e.0 == 1 + k) rows ≡ row ∷ [] = row_place (λ (e : Row). e.0) 1 s.monitors rows k row nodes few ∙ ap (λ (x : Row). x ∷ []) at in
    let dealt : factor (1 + k) after o ≡ deal o = factor_sent j members rows (1 + k) o row alone ∙ ap (λ (v : Option ℤ). unwrap_or v (factor (1 + k) j o)) (value_put deal all o (in_catalogue n o some most)) in
    level_is n (λ q. value q +ℤ factor (1 + k) after q) o some most ∙ ap (λ z. z +ℤ factor (1 + k) after o) (same o some most) ∙ ap (λ z. value_of report.values o +ℤ z) dealt
