-- What every turn keeps: round numbers, openers, and the Assigns sent to each monitor.
use Rattle.std.proofs.Common.{◌≡◌, ℕ, suc, zero, Bool, true, false, not, ◌+◌, ◌≤◌, ◌<◌, ◌==◌, ◌||◌, List, [], ◌∷◌, ◌++◌, length, map, drop, None, refl, sym, ap, ◌∙◌, subst, arith, inl, inr}
use Rattle.std.specs.Prelude.{ℤ, pos, filter, if◌then◌else◌}
use Rattle.std.specs.List.{range_with_len, enumerate_from}
use Rattle.std.proofs.lemmas.Bool.{eqb-true, ne_eqb, eq-eqb, cases_eq, true≢false}
use Rattle.std.proofs.lemmas.List.{append-nil}
use Rattle.tk_base.specs.Settings.{Setup}
use Rattle.tk_base.specs.Objects.{objects, is_in}
use Rattle.tk_base.specs.Pairs.{objects_of}
use Rattle.tk_base.specs.declared.ids.Mon.{Mon}
use Rattle.tk_base.proofs.BoolLemmas.{neither_right}
use Rattle.tk_frames.specs.declared.frame.Frame.{Frame}
use Rattle.tk_frames.specs.declared.frame.Frame.TheVariants as f
use Rattle.tk_alloc.specs.declared.reported.Reported.{Reported}
use Rattle.tk_alloc.specs.Parts.{Part, monitor, new_factor}
use Rattle.tk_alloc.specs.Resolving.{objects_over, round_parts}
use Rattle.tk_alloc.specs.Rounds.{wide_parts}
use Rattle.tk_journal.specs.Readings.{assigns_sent, members_at, answer_of, last_round, is_open, in_force, table_at, seqs_to}
use Rattle.tk_journal.specs.Deciding.{Decided, short_decides, full_decides, wide_decides, is_within_limit}
use Rattle.tk_journal.specs.Turns.{short_at, full_at, wide_at, rounds, collects, wide_collects, assigns}
use Rattle.tk_journal.specs.Refusal.{refusal_of, is_report}
use Rattle.tk_journal.specs.declared.noted.Noted.{Noted}
use Rattle.tk_journal.specs.declared.noted.Noted.TheVariants as n
use Rattle.tk_journal.proofs.Appends.{seqs_to-append}
use Rattle.tk_journal.proofs.Pieces.{batch, batch_values, got_assigns, got_members, got_sent}
use Rattle.tk_journal.proofs.Batches.{named, plain_assigns, plain_seqs, plain_members}
use Rattle.tk_journal.proofs.Same.{AreSame, open_by, map_same, sent_same}
use Rattle.tk_journal.specs.Laws.{IsMonitor}
use Rattle.tk_journal.proofs.Counting.{AreCounted, counted_same, counted_got, counted_collects, counted_named, named_round, named_asked}
use Rattle.tk_journal.proofs.Rounding.{HasOpeners, openers_same, openers_closed, openers_got, openers_collects, is_in_range}
use Rattle.tk_journal.proofs.Naming.{AreNamed, AreNumbered, named_all, named_one, named_same, numbered_all, numbered_one}

pub record IsOrderly (s : Setup) (j : List Noted) : Type 0 where
  pub counted : AreCounted s j
  pub openers : HasOpeners s j
  pub named : AreNamed s j
  pub numbered : AreNumbered s j

pub numbered_same : (s : Setup) (a b : List Noted) → ((mon : ℕ) → seqs_to mon b ≡ seqs_to mon a) → ((mon : ℕ) → assigns_sent mon b ≡ assigns_sent mon a) → AreNumbered s a → AreNumbered s b
numbered_same s a b seqs sent h mon r = seqs mon ∙ h mon r ∙ ap (range_with_len 1) (sym (sent mon))

pub orderly_same : (s : Setup) (a b : List Noted) → AreSame s a b → IsOrderly s a → IsOrderly s b
orderly_same s a b e o = record {
  counted = counted_same s a b e o.counted;
  openers = openers_same s a b e o.openers;
  named = named_same s a b e.assigns e.members o.named;
  numbered = numbered_same s a b e.seqs (sent_same s a b e) o.numbered;
}

-- ---- a taken frame

got_seqs : (mon : ℕ) (j : List Noted) (from : Mon) (frame : Frame) → seqs_to mon (j ++ n.Got from frame ∷ []) ≡ seqs_to mon j
got_seqs mon j from frame = seqs_to-append mon j (n.Got from frame ∷ []) ∙ append-nil (seqs_to mon j)

pub orderly_got : (s : Setup) (j : List Noted) (from : Mon) (frame : Frame) → refusal_of s j from.0 frame ≡ None → IsOrderly s j → IsOrderly s (j ++ n.Got from frame ∷ [])
orderly_got s j from frame none o = record {
  counted = counted_got s j from frame none o.counted;
  openers = openers_got s j from frame none o.openers;
  named = named_same s j (j ++ n.Got from frame ∷ []) (λ mon. got_assigns mon j from frame) (got_members j from frame) o.named;
  numbered = numbered_same s j (j ++ n.Got from frame ∷ []) (λ mon. got_seqs mon j from frame) (λ mon. got_sent mon j from frame) o.numbered;
}

-- ---- Collects

sent_plain : (mon : ℕ) (j : List Noted) (round : ℕ) (asked mons : List ℕ) → assigns_sent mon (j ++ collects round asked mons) ≡ assigns_sent mon j
unfolding assigns_sent
sent_plain mon j round asked mons = ap length (plain_assigns mon j (λ m. m) (λ _. f.Collect round asked) mons (λ _. refl))

pub orderly_collects : (s : Setup) (j : List Noted) (round : ℕ) (asked : List ℕ) (q : ℕ) (mons : List ℕ) → last_round j < round
    → ((mon : ℕ) → IsMonitor s mon → is_in (q ∷ mons) mon ≡ false → is_report (answer_of mon j) ≡ true) → IsOrderly s j → IsOrderly s (j ++ collects round asked (q ∷ mons))
orderly_collects s j round asked q mons new others o = record {
  counted = counted_collects s j round asked q mons new o.counted;
  openers = openers_collects s j round asked q mons others;
  named = named_same s j (j ++ collects round asked (q ∷ mons)) (λ mon. plain_assigns mon j (λ m. m) (λ _. f.Collect round asked) (q ∷ mons) (λ _. refl))
      (plain_members j (λ m. m) (λ _. f.Collect round asked) (q ∷ mons) (λ _. refl)) o.named;
  numbered = numbered_same s j (j ++ collects round asked (q ∷ mons)) (λ mon. plain_seqs mon j (λ m. m) (λ _. f.Collect round asked) (q ∷ mons) (λ _. refl))
      (λ mon. sent_plain mon j round asked (q ∷ mons)) o.numbered;
}

-- Collects to all monitors, of which there is one
pub orderly_wide : (s : Setup) (j : List Noted) (round k : ℕ) → s.monitors ≡ suc k → last_round j < round → IsOrderly s j → IsOrderly s (j ++ wide_collects s round)
orderly_wide s j round k some new o =
    subst (λ (xs : List ℕ). IsOrderly s (j ++ collects round (objects s.objects) xs)) (ap (range_with_len 1) (sym some))
    (orderly_collects s j round (objects s.objects) 1 (range_with_len (1 + 1) k) new
    (λ mon r none. absurd (true≢false (sym (is_in_range 1 (suc k) mon r.from_one (let w = r.within in omega (arith, w, some))) ∙ none))) o)

-- ---- Assigns

nothing_named : (s : Setup) (k : ℕ) → s.monitors ≡ suc k → [] ≡ range_with_len 1 s.monitors → ⊥
nothing_named s k some is = let e : [] ≡ range_with_len 1 (suc k) = is ∙ ap (range_with_len 1) some in cc

pub open_named : {A : Type 0} (s : Setup) (j : List Noted) (to seq : A → ℕ) (members : List ℕ) (changes : A → List (ℕ × ℤ)) (rows : List A)
    → is_open s (j ++ batch to (named seq members changes) rows) ≡ is_open s j
open_named s j to seq members changes rows =
    open_by s j (j ++ batch to (named seq members changes) rows) (named_round j to seq members changes rows) (λ r mon. named_asked r mon j to seq members changes rows)
    (λ r mon. batch_values r mon j to (named seq members changes) rows)

-- an Assign to each monitor, where no round is open
pub orderly_assigned : {A : Type 0} (s : Setup) (j : List Noted) (to seq : A → ℕ) (members : List ℕ) (changes : A → List (ℕ × ℤ)) (rows : List A) (k : ℕ)
    → s.monitors ≡ suc k → map to rows ≡ range_with_len 1 s.monitors → ((d : A) → seq d ≡ assigns_sent (to d) j + 1) → is_open s j ≡ false
    → AreCounted s j → AreNumbered s j → IsOrderly s (j ++ batch to (named seq members changes) rows)
orderly_assigned s j to seq members changes [] k some is next closed counted numbered = absurd (nothing_named s k some is)
orderly_assigned s j to seq members changes (d ∷ rows) k some is next closed counted numbered = record {
  counted = counted_named s j to seq members changes (d ∷ rows) counted;
  openers = openers_closed s (j ++ batch to (named seq members changes) (d ∷ rows)) (open_named s j to seq members changes (d ∷ rows) ∙ closed);
  named = named_all s j to seq members changes d rows is;
  numbered = numbered_all s j to seq members changes (d ∷ rows) is next numbered;
}

-- an Assign to one monitor, where no round is open
pub orderly_short : {A : Type 0} (s : Setup) (j : List Noted) (to seq : A → ℕ) (changes : A → List (ℕ × ℤ)) (d : A)
    → seq d ≡ assigns_sent (to d) j + 1 → is_open s j ≡ false → IsOrderly s j → IsOrderly s (j ++ batch to (named seq (members_at j) changes) (d ∷ []))
orderly_short s j to seq changes d next closed o = record {
  counted = counted_named s j to seq (members_at j) changes (d ∷ []) o.counted;
  openers = openers_closed s (j ++ batch to (named seq (members_at j) changes) (d ∷ [])) (open_named s j to seq (members_at j) changes (d ∷ []) ∙ closed);
  named = named_one s j to seq changes d o.named;
  numbered = numbered_one s j to seq (members_at j) changes d next o.numbered;
}

-- ---- what is decided, and the Assigns of it

abbrev pub Row : Type 0
Row = ℕ × List (ℕ × ℤ)

abbrev pub sends : List Noted → List ℕ → List Row → List Noted
sends j members rows = batch (λ (d : Row). d.0) (named (λ d. assigns_sent d.0 j + 1) members (λ d. d.1)) rows

-- the numbers of Assigns are those before the frame was taken
pub assigns_got : (j : List Noted) (from : Mon) (frame : Frame) (decided : Decided) → assigns j decided ≡ assigns (j ++ n.Got from frame ∷ []) decided
assigns_got j from frame decided =
    map_same (λ (d : Row). n.Sent (record { 0 = d.0 }) (f.Assign (assigns_sent d.0 j + 1) decided.members d.1))
    (λ d. n.Sent (record { 0 = d.0 }) (f.Assign (assigns_sent d.0 (j ++ n.Got from frame ∷ []) + 1) decided.members d.1)) (drop 1 decided.dealt)
    (λ d. ap (λ q. n.Sent (record { 0 = d.0 }) (f.Assign (q + 1) decided.members d.1)) (sym (got_sent d.0 j from frame)))

-- one monitor is dealt new factors, and the members stay
orderly_one : (s : Setup) (j : List Noted) (decided : Decided) (row : Row) → drop 1 decided.dealt ≡ row ∷ [] → decided.members ≡ members_at j → is_open s j ≡ false
    → IsOrderly s j → IsOrderly s (j ++ assigns j decided)
orderly_one s j decided row rows members closed o =
    subst (λ (xs : List Row). IsOrderly s (j ++ sends j decided.members xs)) (sym rows)
    (subst (λ (ms : List ℕ). IsOrderly s (j ++ sends j ms (row ∷ []))) (sym members)
    (orderly_short s j (λ (d : Row). d.0) (λ d. assigns_sent d.0 j + 1) (λ d. d.1) row refl closed o))

-- the nodes that are dealt new factors are those of the reports
nodes_from : (b : Reported → ℤ) (h : ℕ × Part → List (ℕ × ℤ)) (first : ℕ) (reports : List Reported)
    → map (λ (d : Row). d.0) (map (λ e. (e.1.node, h e)) (enumerate_from first (map (λ r. monitor (b r) r) reports))) ≡ map (λ (r : Reported). r.mon.0) reports
nodes_from b h first [] = refl
nodes_from b h first (r ∷ reports) = ap (λ xs. r.mon.0 ∷ xs) (nodes_from b h (first + 1) reports)

pub full_nodes : (s : Setup) (j : List Noted) (reports : List Reported) → map (λ (d : Row). d.0) (drop 1 (full_at s j reports).dealt) ≡ map (λ (r : Reported). r.mon.0) reports
unfolding full_decides
full_nodes s j reports =
    let parts = round_parts (in_force s j) (table_at s j) (members_at j) (full_at s j reports).members (objects_over reports) reports in
    nodes_from (λ r. r.border) (λ e. map (λ o. (o, new_factor (table_at s j) parts e.0 e.1 o)) (objects_over reports)) 1 reports

pub wide_nodes : (s : Setup) (j : List Noted) (reports : List Reported) → map (λ (d : Row). d.0) (drop 1 (wide_at s j reports).dealt) ≡ map (λ (r : Reported). r.mon.0) reports
unfolding wide_decides
wide_nodes s j reports =
    nodes_from (λ _. pos 0) (λ e. map (λ o. (o, new_factor (table_at s j) (wide_parts (in_force s j) (wide_at s j reports).members reports) e.0 e.1 o)) (objects (in_force s j).objects)) 1 reports

-- ---- the end of a round

-- a journal that can end its round: it is closed, every monitor has reported, and the counts are in order
pub record IsEnding (s : Setup) (j : List Noted) (reports : List Reported) : Type 0 where
  pub closed : is_open s j ≡ false
  pub all : map (λ (r : Reported). r.mon.0) reports ≡ range_with_len 1 s.monitors
  pub order : IsOrderly s j

pub ending_assigns : (s : Setup) (j : List Noted) (reports : List Reported) (decided : Decided) (k : ℕ) → s.monitors ≡ suc k → IsEnding s j reports
    → map (λ (d : Row). d.0) (drop 1 decided.dealt) ≡ map (λ (r : Reported). r.mon.0) reports → IsOrderly s (j ++ assigns j decided)
ending_assigns s j reports decided k some e nodes =
    orderly_assigned s j (λ (d : Row). d.0) (λ d. assigns_sent d.0 j + 1) decided.members (λ d. d.1) (drop 1 decided.dealt) k some (nodes ∙ e.all) (λ d. refl) e.closed e.order.counted e.order.numbered

either_end : (s : Setup) (j : List Noted) (within : Bool) (next : ℕ) (xs : List Noted) → IsOrderly s (j ++ xs) → IsOrderly s (j ++ wide_collects s next) → IsOrderly s (j ++ (if within then xs else wide_collects s next))
either_end s j true next xs a b = a
either_end s j false next xs a b = b

-- the end of a full round; its decision may be read before the last frame was taken
pub orderly_full_end : (s : Setup) (j : List Noted) (reports : List Reported) (decided : Decided) (next k : ℕ) → s.monitors ≡ suc k → IsEnding s j reports
    → map (λ (d : Row). d.0) (drop 1 decided.dealt) ≡ map (λ (r : Reported). r.mon.0) reports → last_round j < next
    → IsOrderly s (j ++ (if is_within_limit decided then assigns j decided else wide_collects s next))
orderly_full_end s j reports decided next k some e nodes new =
    either_end s j (is_within_limit decided) next (assigns j decided) (ending_assigns s j reports decided k some e nodes) (orderly_wide s j next k some new e.order)

-- ---- the turn of a Report

pub nothing_more : (s : Setup) (j : List Noted) → IsOrderly s j → IsOrderly s (j ++ [])
nothing_more s j o = subst (IsOrderly s) (sym (append-nil j)) o

-- what stands when a fresh Report has come in while no round is open
pub record IsReporting (s : Setup) (before : List Noted) (from : Mon) (frame : Frame) (k : ℕ) : Type 0 where
  pub some : s.monitors ≡ suc k
  pub range : IsMonitor s from.0
  pub closed : is_open s (before ++ n.Got from frame ∷ []) ≡ false
  pub order : IsOrderly s (before ++ n.Got from frame ∷ [])
  pub count : last_round (before ++ n.Got from frame ∷ []) ≤ rounds s before
  pub stands : is_report (answer_of from.0 (before ++ n.Got from frame ∷ [])) ≡ true

members_stay : (j : List Noted) (from : Mon) (frame : Frame) (members : List ℕ) → members ≡ members_at j → members ≡ members_at (j ++ n.Got from frame ∷ [])
members_stay j from frame members is = is ∙ sym (got_members j from frame)

short_row : (s : Setup) (before : List Noted) (report : Reported) → (row : Row) × (drop 1 (short_at s before report).dealt ≡ row ∷ []) × ((short_at s before report).members ≡ members_at before)
unfolding short_decides
short_row s before report =
    let parts = round_parts (in_force s before) (table_at s before) (members_at before) (members_at before) (objects_of report.values) (report ∷ []) in
    ((report.mon.0, map (λ o. (o, new_factor (table_at s before) parts 1 (monitor report.border report) o)) (objects_of report.values)), refl, refl)

pub turn_short : (s : Setup) (before : List Noted) (from : Mon) (frame : Frame) (k : ℕ) (report : Reported) → IsReporting s before from frame k
    → IsOrderly s (before ++ n.Got from frame ∷ [] ++ assigns before (short_at s before report))
turn_short s before from frame k report p =
    let row = short_row s before report in
    subst (λ xs. IsOrderly s (before ++ n.Got from frame ∷ [] ++ xs)) (sym (assigns_got before from frame (short_at s before report)))
    (orderly_one s (before ++ n.Got from frame ∷ []) (short_at s before report) row.0 row.1 (members_stay before from frame (short_at s before report).members row.2) p.closed p.order)

pub turn_wide : (s : Setup) (before : List Noted) (from : Mon) (frame : Frame) (k : ℕ) → IsReporting s before from frame k
    → IsOrderly s (before ++ n.Got from frame ∷ [] ++ wide_collects s (rounds s before + 1))
turn_wide s before from frame k p = orderly_wide s (before ++ n.Got from frame ∷ []) (rounds s before + 1) k p.some (let c = p.count in omega (arith, c)) p.order

-- the monitors but one, where there are two or more
first_of : (b c : Bool) (p q : ℕ) (rest : List ℕ) → (b ≡ true → c ≡ false)
    → (r : ℕ) × (others : List ℕ) × ((if not b then p ∷ (if not c then q ∷ rest else rest) else (if not c then q ∷ rest else rest)) ≡ r ∷ others)
first_of true true p q rest h = absurd (true≢false (h refl))
first_of true false p q rest h = (q, rest, refl)
first_of false c p q rest h = (p, (if not c then q ∷ rest else rest), refl)

pub others_of : (k mon : ℕ) → (q : ℕ) × (rest : List ℕ) × (filter (λ m. not (m == mon)) (range_with_len 1 (suc (suc k))) ≡ q ∷ rest)
others_of k mon =
    first_of (1 == mon) (2 == mon) 1 2 (filter (λ m. not (m == mon)) (range_with_len 3 k))
    (λ one. let e = eqb-true 1 mon one in ne_eqb 2 mon (λ two. omega (arith, e, two)))

here : (a mon q : ℕ) (rest : List ℕ) → (a ≡ mon → ⊥) → a ≡ q → is_in (if not (a == mon) then a ∷ rest else rest) q ≡ true
here a mon q rest apart e =
    ap (λ b. is_in (if not b then a ∷ rest else rest) q) (ne_eqb a mon apart) ∙ ap (λ b. b || is_in rest q) (eq-eqb a q e)

skip : (b : Bool) (a q : ℕ) (rest : List ℕ) → is_in (if not b then a ∷ rest else rest) q ≡ false → is_in rest q ≡ false
skip true a q rest none = none
skip false a q rest none = neither_right (a == q) (is_in rest q) none

-- whoever is none of the others is the one
pub not_other : (a k mon q : ℕ) → a ≤ q → q < a + k → is_in (filter (λ m. not (m == mon)) (range_with_len a k)) q ≡ false → q ≡ mon
not_other a zero mon q low high none = absurd (omega (arith, low, high))
not_other a (suc k) mon q low high none =
    elim (cases_eq a q) [
      | inl e ↦ elim (cases_eq a mon) [
        | inl same ↦ sym e ∙ same
        | inr apart ↦ absurd (true≢false (sym (here a mon q (filter (λ m. not (m == mon)) (range_with_len (a + 1) k)) apart e) ∙ none))
      ]
      | inr ne ↦ not_other (a + 1) k mon q (omega (arith, low, ne)) (omega (arith, high)) (skip (a == mon) a q (filter (λ m. not (m == mon)) (range_with_len (a + 1) k)) none)
    ]
