-- Assigns that send a reallocation: the table after them, and what they are by the peers.
use Rattle.std.proofs.Common.{◌≡◌, ℕ, suc, false, ◌+◌, ◌-◌, ◌^◌, ◌≤◌, ◌<◌, ◌==◌, ℤ, pos, List, [], ◌∷◌, ◌++◌, length, map, get_or, drop, Contains, Some, None, cond, refl, sym, ap, ◌∙◌, subst, arith, inl, inr}
use Rattle.std.specs.Prelude.{unwrap_or, filter, if◌then◌else◌}
use Rattle.std.specs.List.{All}
use Rattle.std.specs.Map.{lookup}
use Rattle.std.proofs.lemmas.Bool.{eq-eqb, ne_eqb, cases_eq}
use Rattle.std.proofs.lemmas.Int.{ints}
use Rattle.std.proofs.lemmas.Option.{slice_get-get_or}
use Rattle.std.proofs.lemmas.List.{length-map}
use Rattle.std.proofs.lemmas.List.Elements.{All-head, All-tail, All-map, All-weaker}
use Rattle.tk_base.specs.Settings.{Setup, IsWithinLimits}
use Rattle.tk_base.specs.Sum.{int_sum}
use Rattle.tk_base.specs.declared.ids.Mon.{Mon}
use Rattle.tk_base.proofs.SumLemmas.{int_sum-cons}
use Rattle.tk_border.specs.Levels.{AreMembers}
use Rattle.tk_rows.specs.Factors.{Grid, AreBalanced, factor_at}
use Rattle.tk_rows.specs.Replacing.{IsReplacement, monitors_of, changes_of, factor_in}
use Rattle.tk_rows.specs.declared.mon_change.MonChange.{MonChange}
use Rattle.tk_rows.specs.declared.reallocation.Reallocation.{Reallocation}
use Rattle.tk_rows.proofs.WritingLemmas.{AreApart, ascending_are_apart}
use Rattle.tk_frames.specs.declared.frame.Frame.{Frame}
use Rattle.tk_frames.specs.declared.frame.Frame.TheVariants as f
use Rattle.tk_alloc.specs.Parts.{by_monitor}
use Rattle.tk_alloc.specs.declared.reported.Reported.{Reported}
use Rattle.tk_journal.specs.Laws.{IsMonitor}
use Rattle.tk_journal.specs.Deciding.{Decided, short_decides}
use Rattle.tk_journal.specs.Readings.{assigns_sent, members_at, factor, table_at, is_open}
use Rattle.tk_journal.specs.Turns.{assigns, short_at, full_at, wide_at, demanded}
use Rattle.tk_journal.specs.Refusal.{refusal_of}
use Rattle.tk_journal.specs.declared.noted.Noted.{Noted}
use Rattle.tk_journal.specs.declared.noted.Noted.TheVariants as n
use Rattle.tk_journal.proofs.Pieces.{got_assigns, got_sent}
use Rattle.tk_journal.proofs.Ending.{named_after}
use Rattle.tk_journal.proofs.Same.{table_by}
use Rattle.tk_journal.proofs.Dealing.{factor_sent, factor_unsent}
use Rattle.tk_journal.proofs.Orderly.{IsOrderly, Row, sends, assigns_got, full_nodes, wide_nodes}
use Rattle.tk_journal.proofs.Tables.{IsObject, factor_is, rows_count, table_size, table_balanced}
use Rattle.tk_journal.proofs.Firm.{IsFirm}
use Rattle.tk_journal.proofs.Tuning.{force_limits}
use Rattle.tk_journal.proofs.FirmTurns.{firm_demanded}
use Rattle.tk_journal.proofs.LawLemmas.{one_less}
use Rattle.tk_coord.specs.declared.peer.Peer.{Peer}
use Rattle.tk_coord.specs.State.{ArePeers, peer_at}
use Rattle.tk_coord.specs.Steps.{IsReplaced, AreAssigned, next_assigns, with_got}
use Rattle.tk_coord.specs.Dealing.{IsDecided, assigns_by, assigns_in, assigns_over}
use Rattle.tk_coord.proofs.ElementLemmas.{same_elements}
use Rattle.tk_coord.proofs.OutcomesLemmas.{fits_named}

-- ---- lists by their places

-- rows of one sum that agree behind their heads are the same
by_sum : (xs ys : List ℤ) → length xs ≡ length ys → int_sum xs ≡ int_sum ys → ((k : ℕ) → suc k < length xs → get_or xs (suc k) (pos 0) ≡ get_or ys (suc k) (pos 0)) → xs ≡ ys
by_sum [] [] size total each = refl
by_sum [] (y ∷ ys) size total each = absurd (omega (arith, size))
by_sum (x ∷ xs) [] size total each = absurd (omega (arith, size))
by_sum (x ∷ xs) (y ∷ ys) size total each =
    let tails : xs ≡ ys = same_elements xs ys (pos 0) (omega (arith, size)) (λ i below. each i (omega (arith, below))) in
    let sums = ap int_sum tails in
    let of_x = int_sum-cons x xs in
    let of_y = int_sum-cons y ys in
    let heads : x ≡ y = omega (arith, ints, total, sums, of_x, of_y) in
    ap (λ z. z ∷ xs) heads ∙ ap (λ zs. y ∷ zs) tails

-- ---- the row of a monitor

-- the rows of a monitor among rows of which no two are of one monitor: one or none, and the changes that are found under it
data Found (rows : List Row) (mon : ℕ) : Type 0 where
  One : (d : Row) → filter (λ (e : Row). e.0 == mon) rows ≡ d ∷ [] → unwrap_or (lookup (λ q. q == mon) rows) [] ≡ d.1 → Found rows mon
  No : filter (λ (e : Row). e.0 == mon) rows ≡ [] → unwrap_or (lookup (λ q. q == mon) rows) [] ≡ [] → Found rows mon

-- no row is of a monitor that none names
none_of : (rows : List Row) (mon : ℕ) → (Contains (map (λ (d : Row). d.0) rows) mon → ⊥) → (filter (λ (e : Row). e.0 == mon) rows ≡ []) × (lookup (λ q. q == mon) rows ≡ None)
none_of [] mon out = (refl, refl)
none_of (d ∷ rows) mon out =
    let other = ne_eqb d.0 mon (λ e. out (0, omega arith, e)) in
    let rest = none_of rows mon (λ found. out (suc found.0, omega (arith, found.1), found.2)) in
    (ap (λ b. if b then d ∷ filter (λ (e : Row). e.0 == mon) rows else filter (λ (e : Row). e.0 == mon) rows) other ∙ rest.0, ap (λ b. cond b (Some d.1) (lookup (λ q. q == mon) rows)) other ∙ rest.1)

-- a row of another monitor changes nothing of it
more_found : (d : Row) (rows : List Row) (mon : ℕ) → d.0 == mon ≡ false → Found rows mon → Found (d ∷ rows) mon
more_found d rows mon other (One e alone changes) =
    One e (ap (λ b. if b then d ∷ filter (λ (x : Row). x.0 == mon) rows else filter (λ (x : Row). x.0 == mon) rows) other ∙ alone)
    (ap (λ b. unwrap_or (cond b (Some d.1) (lookup (λ q. q == mon) rows)) []) other ∙ changes)
more_found d rows mon other (No none changes) =
    No (ap (λ b. if b then d ∷ filter (λ (x : Row). x.0 == mon) rows else filter (λ (x : Row). x.0 == mon) rows) other ∙ none)
    (ap (λ b. unwrap_or (cond b (Some d.1) (lookup (λ q. q == mon) rows)) []) other ∙ changes)

-- where no two rows are of one monitor, each monitor has one or none
find_row : (rows : List Row) (mon : ℕ) → AreApart (map (λ (d : Row). d.0) rows) → Found rows mon
find_row [] mon apart = No refl refl
find_row (d ∷ rows) mon apart = elim (cases_eq d.0 mon) [
  | inl same ↦
      let here = eq-eqb d.0 mon same in
      let rest = none_of rows mon (λ found. apart.0 (subst (λ q. Contains (map (λ (e : Row). e.0) rows) q) (sym same) found)) in
      One d (ap (λ b. if b then d ∷ filter (λ (x : Row). x.0 == mon) rows else filter (λ (x : Row). x.0 == mon) rows) here ∙ ap (λ xs. d ∷ xs) rest.0)
      (ap (λ b. unwrap_or (cond b (Some d.1) (lookup (λ q. q == mon) rows)) []) here)
  | inr other ↦ more_found d rows mon (ne_eqb d.0 mon other) (find_row rows mon apart.1)
]

-- the nodes of the rows are the monitors that are named
nodes_of : (at : List MonChange) → map (λ (d : Row). d.0) (by_monitor at) ≡ monitors_of at
nodes_of [] = refl
nodes_of (c ∷ at) = ap (λ xs. c.mon.0 ∷ xs) (nodes_of at)

-- ---- the factors after the Assigns

-- a monitor has the factors that it was sent
factor_by : (j : List Noted) (members : List ℕ) (rows : List Row) (mon o : ℕ) → Found rows mon
    → factor mon (j ++ sends j members rows) o ≡ factor_in (unwrap_or (lookup (λ q. q == mon) rows) []) o (factor mon j o)
factor_by j members rows mon o (One d alone changes) = factor_sent j members rows mon o d alone ∙ ap (λ cs. factor_in cs o (factor mon j o)) (sym changes)
factor_by j members rows mon o (No none changes) = factor_unsent j members rows mon o none ∙ ap (λ cs. factor_in cs o (factor mon j o)) (sym changes)

-- the factors after the Assigns are the changed ones
factor_after : (j : List Noted) (r : Reallocation) (mon o : ℕ) → AreApart (monitors_of r.at.items) → factor mon (j ++ next_assigns j r) o ≡ factor_in (changes_of r.at.items mon) o (factor mon j o)
factor_after j r mon o apart = factor_by j r.members (by_monitor r.at.items) mon o (find_row (by_monitor r.at.items) mon (subst AreApart (sym (nodes_of r.at.items)) apart))

-- ---- the table after the Assigns

-- tables with the same monitors and rows are the same
same_grid : (a b : Grid) → a.monitors ≡ b.monitors → a.rows ≡ b.rows → a ≡ b
same_grid a b size rows = ap (λ m. record { monitors = m; rows = a.rows }) size ∙ ap (λ rs. record { monitors = b.monitors; rows = rs }) rows

-- factors that are the same under an object are so in its row
at_place : (a b : Grid) (k i o : ℕ) → o - 1 ≡ i → factor_at a k o ≡ factor_at b k o → get_or (get_or a.rows i []) k (pos 0) ≡ get_or (get_or b.rows i []) k (pos 0)
at_place a b k i o place same = subst (λ m. get_or (get_or a.rows m []) k (pos 0) ≡ get_or (get_or b.rows m []) k (pos 0)) place same

-- the table with the reallocation is the one that the Assigns give
pub table_is : (s : Setup) (j : List Noted) (r : Reallocation) (after : Grid) → IsReplacement (table_at s j) r → AreBalanced (table_at s (j ++ next_assigns j r)) → IsReplaced (table_at s j) r after
    → after ≡ table_at s (j ++ next_assigns j r)
table_is s j r after fits balanced is =
    let now = j ++ next_assigns j r in
    let apart = ascending_are_apart (monitors_of r.at.items) fits.order in
    let size : after.monitors ≡ s.monitors = is.monitors ∙ table_size s j in
    let count : length after.rows ≡ s.objects = is.objects ∙ rows_count s j in
    same_grid after (table_at s now) (size ∙ sym (table_size s now))
    (same_elements after.rows (table_at s now).rows [] (count ∙ sym (rows_count s now)) (λ i below.
    let inside : i < length (table_at s now).rows = (let c = rows_count s now in omega (arith, below, count, c)) in
    let a = is.balanced i below in
    let b = balanced i inside in
    by_sum (get_or after.rows i []) (get_or (table_at s now).rows i []) (let x = a.nodes in let y = b.nodes in let z = table_size s now in omega (arith, x, y, size, z)) (a.sum ∙ sym b.sum) (λ k under.
    let object : IsObject s (suc i) = record { from_one = omega arith; within = omega (arith, below, count) } in
    let mon : IsMonitor s (suc k) = record { from_one = omega arith; within = (let x = a.nodes in omega (arith, under, x, size)) } in
    at_place after (table_at s now) (suc k) i (suc i) (omega arith)
    (is.factors (suc k) (suc i) (omega arith)
    ∙ ap (λ z. factor_in (changes_of r.at.items (suc k)) (suc i) z) (factor_is s j (suc i) (suc k) object mon)
    ∙ sym (factor_after j r (suc k) (suc i) apart)
    ∙ sym (factor_is s now (suc i) (suc k) object mon)))))

-- ---- the Assigns of what was decided

-- the Assigns of what was decided are those of the reallocation
pub sends_is : (j : List Noted) (grid : Grid) (decided : Decided) (r : Reallocation) → IsDecided grid decided r → assigns j decided ≡ next_assigns j r
sends_is j grid decided r d =
    ap (λ ms. sends j ms (drop 1 decided.dealt)) (sym d.members) ∙ ap (λ (rows : List Row). sends j r.members rows) (sym (ap (drop 1) d.dealt))

-- the monitors that a reallocation names are those of the table
pub named_within : (s : Setup) (j : List Noted) (r : Reallocation) → IsReplacement (table_at s j) r → All (λ c. (0 < c.mon.0) × (c.mon.0 ≤ s.monitors)) r.at.items
named_within s j r fits = fits_named (table_at s j) r s.monitors fits (table_size s j)

-- the Assigns of what was decided send the reallocation
pub assigned : (s : Setup) (j : List Noted) (decided : Decided) (r : Reallocation) → IsDecided (table_at s j) decided r → is_open s j ≡ false → All (λ c. assigns_sent c.mon.0 j < 2 ^ 64 - 1) r.at.items
    → 0 < length (drop 1 decided.dealt) → AreBalanced (table_at s (j ++ assigns j decided)) → AreMembers s.objects (members_at (j ++ assigns j decided)) → AreAssigned s j (assigns j decided) r
assigned s j decided r d closed room some balanced chosen =
    let same = sends_is j (table_at s j) decided r d in
    let named : members_at (j ++ assigns j decided) ≡ r.members = named_after j decided.members (drop 1 decided.dealt) some ∙ sym d.members in
    record {
      sends = same;
      closed = closed;
      fits = d.fits;
      named = named_within s j r d.fits;
      room = room;
      members = named;
      chosen = subst (AreMembers s.objects) named chosen;
      table = λ after is.
          table_is s j r after d.fits (subst (λ xs. AreBalanced (table_at s (j ++ xs))) same balanced) is ∙ ap (λ xs. table_at s (j ++ xs)) (sym same);
    }

-- the members of a firm journal are some objects of the catalogue
firm_members : (s : Setup) (j : List Noted) → IsWithinLimits s → IsFirm s j → AreMembers s.objects (members_at j)
firm_members s j limits firm =
    let some = (force_limits s j limits firm.tuned).some_member in
    let count = firm.standing.chosen.count in
    record { some_member = omega (arith, some, count); in_range = firm.standing.chosen.within }

-- they do where the journal with them is firm, as it is by the laws
pub firm_assigned : (s : Setup) (j : List Noted) (decided : Decided) (r : Reallocation) → IsWithinLimits s → IsDecided (table_at s j) decided r → is_open s j ≡ false → All (λ c. assigns_sent c.mon.0 j < 2 ^ 64 - 1) r.at.items
    → 0 < length (drop 1 decided.dealt) → IsFirm s (j ++ assigns j decided) → AreAssigned s j (assigns j decided) r
firm_assigned s j decided r limits d closed room some firm =
    let after = j ++ assigns j decided in
    assigned s j decided r d closed room some (table_balanced s after firm.standing.sizes) (firm_members s after limits firm)

-- they do behind a frame that leaves no round open, by the table before it
pub got_assigned : (s : Setup) (before : List Noted) (from : Mon) (frame : Frame) (decided : Decided) (r : Reallocation) → IsWithinLimits s → IsDecided (table_at s before) decided r → is_open s (with_got before from frame) ≡ false
    → All (λ c. assigns_sent c.mon.0 before < 2 ^ 64 - 1) r.at.items → 0 < length (drop 1 decided.dealt) → IsFirm s (with_got before from frame ++ assigns before decided)
    → AreAssigned s (with_got before from frame) (assigns before decided) r
got_assigned s before from frame decided r limits d closed room some firm =
    let now = with_got before from frame in
    let same = assigns_got before from frame decided in
    let table : table_at s now ≡ table_at s before = table_by s before now (λ mon. got_assigns mon before from frame) in
    subst (λ xs. AreAssigned s now xs r) (sym same)
    (firm_assigned s now decided r limits (record { members = d.members; dealt = d.dealt; fits = subst (λ (g : Grid). IsReplacement g r) (sym table) d.fits }) closed
    (All-weaker (λ c. assigns_sent c.mon.0 before < 2 ^ 64 - 1) (λ c. assigns_sent c.mon.0 now < 2 ^ 64 - 1) (λ c h. let e = got_sent c.mon.0 before from frame in omega (arith, h, e)) r.at.items room)
    some (subst (λ xs. IsFirm s (now ++ xs)) same firm))

-- the Assigns that a taken frame demands send what was decided
pub demanded_assigned : (s : Setup) (before : List Noted) (from : Mon) (frame : Frame) (decided : Decided) (r : Reallocation) → IsWithinLimits s → IsMonitor s from.0
    → refusal_of s before from.0 frame ≡ None
    → IsOrderly s before → IsFirm s before → demanded s before from.0 frame ≡ assigns before decided → is_open s (with_got before from frame) ≡ false → IsDecided (table_at s before) decided r
    → All (λ c. assigns_sent c.mon.0 before < 2 ^ 64 - 1) r.at.items → 0 < length (drop 1 decided.dealt) → AreAssigned s (with_got before from frame) (demanded s before from.0 frame) r
demanded_assigned s before from frame decided r limits range none order firm demands closed d room some =
    let now = with_got before from frame in
    let less = one_less s.monitors limits.some_monitor in
    let after = firm_demanded s before from frame less.0 limits less.1 range none order firm in
    subst (λ xs. AreAssigned s now xs r) (sym demands) (got_assigned s before from frame decided r limits d closed room some (subst (λ xs. IsFirm s (now ++ xs)) demands after))

-- ---- whom the rounds deal new factors

-- as many rows as reports
rows_of : (reports : List Reported) (rows : List Row) → map (λ (d : Row). d.0) rows ≡ map (λ (r : Reported). r.mon.0) reports → 0 < length reports → 0 < length rows
rows_of reports rows nodes some = let a = ap length nodes in let b = length-map rows (λ (d : Row). d.0) in let c = length-map reports (λ (r : Reported). r.mon.0) in omega (arith, a, b, c, some)

-- a full round deals some monitor new factors
pub full_deals : (s : Setup) (j : List Noted) (reports : List Reported) → 0 < length reports → 0 < length (drop 1 (full_at s j reports).dealt)
full_deals s j reports some = rows_of reports (drop 1 (full_at s j reports).dealt) (full_nodes s j reports) some

-- so does a wide round
pub wide_deals : (s : Setup) (j : List Noted) (reports : List Reported) → 0 < length reports → 0 < length (drop 1 (wide_at s j reports).dealt)
wide_deals s j reports some = rows_of reports (drop 1 (wide_at s j reports).dealt) (wide_nodes s j reports) some

-- and a short round its reporter
pub short_deals : (s : Setup) (j : List Noted) (report : Reported) → 0 < length (drop 1 (short_at s j report).dealt)
unfolding short_decides
short_deals s j report = omega arith

-- ---- the Assigns by the peers

-- a peer tells how many Assigns its monitor was sent
pub assigns_by_is : (s : Setup) (j : List Noted) (peers : List Peer) (mon : ℕ) → ArePeers s j peers → IsMonitor s mon → assigns_by peers mon ≡ assigns_sent mon j
assigns_by_is s j peers mon are m =
    let next : suc (mon - 1) ≡ mon = (let a = m.from_one in omega (arith, a)) in
    let within : mon - 1 < length peers = (let a = m.from_one in let b = m.within in let c = are.count in omega (arith, a, b, c)) in
    let got = slice_get-get_or peers (mon - 1) (peer_at j mon) within in
    ap assigns_in got ∙ ap (λ (l : Peer). l.assigns) (are.each (mon - 1) (get_or peers (mon - 1) (peer_at j mon)) got) ∙ ap (λ q. assigns_sent q j) next

-- the Assigns by the numbers that the peers tell
over_rows : (s : Setup) (j : List Noted) (peers : List Peer) (members : List ℕ) (rows : List Row) → ArePeers s j peers → All (λ (d : Row). IsMonitor s d.0) rows
    → map (λ d. n.Sent (record { 0 = d.0 }) (f.Assign (assigns_by peers d.0 + 1) members d.1)) rows ≡ sends j members rows
over_rows s j peers members [] are range = refl
over_rows s j peers members (d ∷ rows) are range =
    ap (λ q. n.Sent (record { 0 = d.0 }) (f.Assign (q + 1) members d.1) ∷ map (λ e. n.Sent (record { 0 = e.0 }) (f.Assign (assigns_by peers e.0 + 1) members e.1)) rows)
    (assigns_by_is s j peers d.0 are (All-head (λ (e : Row). IsMonitor s e.0) d rows range))
    ∙ ap (λ xs. n.Sent (record { 0 = d.0 }) (f.Assign (assigns_sent d.0 j + 1) members d.1) ∷ xs) (over_rows s j peers members rows are (All-tail (λ (e : Row). IsMonitor s e.0) d rows range))

-- the Assigns that the peers give are those that the journal gives
pub assigns_by_peers : (s : Setup) (j : List Noted) (peers : List Peer) (decided : Decided) → ArePeers s j peers → All (λ (d : Row). IsMonitor s d.0) (drop 1 decided.dealt)
    → assigns_over peers decided ≡ assigns j decided
assigns_by_peers s j peers decided are range = over_rows s j peers decided.members (drop 1 decided.dealt) are range

-- what was decided deals only to monitors
pub decided_nodes : (s : Setup) (j : List Noted) (decided : Decided) (r : Reallocation) → IsDecided (table_at s j) decided r → All (λ (d : Row). IsMonitor s d.0) (drop 1 decided.dealt)
decided_nodes s j decided r d =
    subst (λ (rows : List Row). All (λ (e : Row). IsMonitor s e.0) rows) (ap (drop 1) d.dealt)
    (All-map (λ (e : Row). IsMonitor s e.0) (λ (c : MonChange). (c.mon.0, c.changes)) r.at.items
    (All-weaker (λ c. (0 < c.mon.0) × (c.mon.0 ≤ s.monitors)) (λ c. IsMonitor s c.mon.0) (λ c h. record { from_one = (let a = h.0 in omega (arith, a)); within = h.1 }) r.at.items
    (named_within s j r d.fits)))

-- where the peers have room for one more Assign, the journal has
pub room_by_peers : (s : Setup) (j : List Noted) (peers : List Peer) (r : Reallocation) → ArePeers s j peers → IsReplacement (table_at s j) r
    → All (λ c. assigns_by peers c.mon.0 < 2 ^ 64 - 1) r.at.items
    → All (λ c. assigns_sent c.mon.0 j < 2 ^ 64 - 1) r.at.items
room_by_peers s j peers r are fits room k d below =
    let range = named_within s j r fits k d below in
    let told = assigns_by_is s j peers (get_or r.at.items k d).mon.0 are (record { from_one = (let a = range.0 in omega (arith, a)); within = range.1 }) in
    let left = room k d below in
    omega (arith, told, left)
