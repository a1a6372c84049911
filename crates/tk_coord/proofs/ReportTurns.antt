-- The turn of a fresh Report that finds no round open.
use Rattle.std.proofs.Common.{◌≡◌, ℕ, ◌+◌, ◌<◌, ◌≤◌, ◌==◌, not, Bool, true, false, List, [], ◌∷◌, length, drop, filter, refl, sym, ap, ◌∙◌, subst, arith}
use Rattle.std.specs.Prelude.{nat_lt, if◌then◌else◌}
use Rattle.std.specs.List.{All}
use Rattle.std.proofs.lemmas.Bool.{le-ltb, eqb-false}
use Rattle.tk_base.specs.Pairs.{objects_of}
use Rattle.tk_base.specs.Settings.{Setup}
use Rattle.tk_rows.specs.Factors.{Grid}
use Rattle.tk_alloc.specs.declared.reported.Reported.{Reported}
use Rattle.tk_frames.specs.declared.frame.Frame.{Frame}
use Rattle.tk_journal.specs.Deciding.{Decided, short_decides, full_decides, is_within_limit, passes_short_test}
use Rattle.tk_journal.specs.Entries.{IsEntryOf}
use Rattle.tk_journal.specs.Readings.{monitors, assigns_sent, table_at}
use Rattle.tk_journal.specs.Turns.{assigns, collects, demanded, full_at, full_end, full_turn, passes_at, report_demands, rounds, short_at, streak, wide_collects}
use Rattle.tk_journal.specs.declared.turn.TurnKind.{TurnKind}
use Rattle.tk_journal.specs.declared.turn.TurnKind.TheVariants.{Short, Wide, Full}
use Rattle.tk_journal.specs.declared.noted.Noted.{Noted}
use Rattle.tk_journal.proofs.Turning.{closed_got}
use Rattle.tk_coord.specs.Dealing.{Ends, OpensOrEnds, OpensWide}
use Rattle.tk_coord.specs.Grounds.{IsAnswered, IsGrounded}
use Rattle.tk_coord.specs.Steps.{Follows, report_frame, with_got}
use Rattle.tk_coord.specs.declared.outcomes.Grounds.{Grounds}
use Rattle.tk_coord.specs.declared.step.TurnOutcome.{TurnOutcome}
use Rattle.tk_coord.proofs.AskedLemmas.{CanAsk, can_ask, fresh_report}
use Rattle.tk_coord.proofs.DealtLemmas.{full_deals, short_deals}
use Rattle.tk_coord.proofs.DemandLemmas.{report_demanded, report_kind}
use Rattle.tk_coord.proofs.FollowLemmas.{assigned_follows, full_follows, wide_follows}
use Rattle.tk_coord.proofs.GroundLemmas.{force_large, grounds_are, over_fields, taken_at}
use Rattle.tk_coord.proofs.StandLemmas.{IsBetween, IsTaken, frame_between}

-- no number is behind itself
pub late_never : (n : ℕ) → nat_lt n n ≡ false
late_never n = le-ltb n n (omega arith)

-- what is known where a Report is answered: it is taken, it ends no round, and a round can open behind it
record IsFresh (s : Setup) (j : List Noted) (g : Grounds) (report : Reported) (frame : Frame) : Type 0 where
  taken : IsTaken s j report.mon frame
  asks : CanAsk s (with_got j report.mon frame) (rounds s j)
  between : IsBetween s j report.mon frame g.phase
  going : g.phase.stopped ≡ false

-- that is so of the fresh Report
fresh_at : (s : Setup) (j : List Noted) (g : Grounds) (report : Reported) (frame : Frame) → IsGrounded s j g → (a : IsAnswered s j frame report) → IsFresh s j g report (report_frame j report a.failed)
fresh_at s j g report frame h a =
    let fresh = report_frame j report a.failed in
    let taken = taken_at s j report.mon fresh h.journal a.range a.taken in
    record {
      taken = taken;
      asks = can_ask s j report.mon fresh taken.order a.taken a.closed;
      between = frame_between s j report.mon fresh g.phase (closed_got s j report.mon fresh a.closed ∙ sym a.closed) h.stands;
      going = h.stands.stopped ∙ taken.going;
    }

-- what it demands, by the tests
demands_by : (s : Setup) (j : List Noted) (report : Reported) (frame : Frame) (passes within few : Bool) (kind : TurnKind) → (a : IsAnswered s j frame report) → passes_at s j report ≡ passes
    → is_within_limit (short_at s j report) ≡ within → nat_lt (streak s j) 8 ≡ few → (if passes then (if within then Short else Wide) else (if few then Full else Wide)) ≡ kind
    → demanded s j report.mon.0 (report_frame j report a.failed) ≡ report_demands s j report kind
demands_by s j report frame passes within few kind a passed fits left is =
    let seq = assigns_sent report.mon.0 j in
    report_demanded s j report.mon.0 seq report.border a.failed report.values kind
    (report_kind s j report.mon.0 seq report.border a.failed report.values passes within few (late_never seq) a.closed passed fits left ∙ is)

-- ---- by the fields as by the journal

-- the test
pub same_test : (s : Setup) (j : List Noted) (g : Grounds) (report : Reported) → IsGrounded s j g → passes_short_test g.phase.settings g.board.now.table g.board.now.members report ≡ passes_at s j report
same_test s j g report h = over_fields (λ q t ms. passes_short_test q t ms report) s j g.phase.settings g.board.now.table g.board.now.members (grounds_are s j g h)

-- what the short round decides
pub same_short : (s : Setup) (j : List Noted) (g : Grounds) (report : Reported) → IsGrounded s j g → short_decides g.phase.settings g.board.now.table g.board.now.members report ≡ short_at s j report
same_short s j g report h = over_fields (λ q t ms. short_decides q t ms report) s j g.phase.settings g.board.now.table g.board.now.members (grounds_are s j g h)

-- what a full round decides
pub same_full : (s : Setup) (j : List Noted) (g : Grounds) (reports : List Reported) → IsGrounded s j g → full_decides g.phase.settings g.board.now.table g.board.now.members reports ≡ full_at s j reports
same_full s j g reports h = over_fields (λ q t ms. full_decides q t ms reports) s j g.phase.settings g.board.now.table g.board.now.members (grounds_are s j g h)

-- what ends by the fields ends by the journal
ends_by : (s : Setup) (j : List Noted) (g : Grounds) (rounds : ℕ) (decided d : Decided) (outcome : TurnOutcome) → IsGrounded s j g → decided ≡ d
    → Ends g.board.now.table g.peers.now g.phase rounds decided outcome → Ends (table_at s j) g.peers.now g.phase rounds d outcome
ends_by s j g rounds decided d outcome h is ends =
    subst (λ (q : Decided). Ends (table_at s j) g.peers.now g.phase rounds q outcome) is (subst (λ (t : Grid). Ends t g.peers.now g.phase rounds decided outcome) h.dealt ends)

-- ---- the rounds that open or end

-- a wide round opens, where so many rounds were opened by the fields and by the journal
wide_as : (s : Setup) (j : List Noted) (g : Grounds) (report : Reported) (frame : Frame) (kept count : ℕ) (outcome : TurnOutcome) → IsGrounded s j g → (a : IsAnswered s j frame report)
    → OpensWide g.phase kept outcome → kept ≡ count → rounds s j ≤ count → demanded s j report.mon.0 (report_frame j report a.failed) ≡ wide_collects s (count + 1)
    → All (IsEntryOf s.monitors s.objects) outcome.entries.items → Follows s j report.mon (report_frame j report a.failed) outcome
wide_as s j g report frame kept count outcome h a opens is high demands range =
    let fresh = fresh_at s j g report frame h a in
    wide_follows s j report.mon (report_frame j report a.failed) g.phase kept (rounds s j) outcome fresh.taken opens (force_large s j g.phase.settings h.stands.settings)
    (demands ∙ ap (λ (k : ℕ). wide_collects s (k + 1)) (sym is)) fresh.asks (omega (arith, is, high)) range fresh.between fresh.going

-- Assigns end one
assigns_as : (s : Setup) (j : List Noted) (g : Grounds) (report : Reported) (frame : Frame) (rounds : ℕ) (decided : Decided) (outcome : TurnOutcome) → IsGrounded s j g → (a : IsAnswered s j frame report)
    → Ends (table_at s j) g.peers.now g.phase rounds decided outcome → is_within_limit decided ≡ true → demanded s j report.mon.0 (report_frame j report a.failed) ≡ assigns j decided
    → 0 < length (drop 1 decided.dealt) → All (IsEntryOf s.monitors s.objects) outcome.entries.items → Follows s j report.mon (report_frame j report a.failed) outcome
assigns_as s j g report frame rounds decided outcome h a ends fits demands some range =
    let fresh = fresh_at s j g report frame h a in
    assigned_follows s j report.mon (report_frame j report a.failed) decided g.peers.now g.phase outcome fresh.taken h.are_peers (ends.within fits) demands fresh.asks.closed some range fresh.between fresh.going

-- ---- the short test passes

-- what follows then, by whether the factors are within their limit
short_as : (s : Setup) (j : List Noted) (g : Grounds) (report : Reported) (frame : Frame) (outcome : TurnOutcome) (within : Bool) → IsGrounded s j g → (a : IsAnswered s j frame report)
    → passes_at s j report ≡ true → is_within_limit (short_at s j report) ≡ within → Ends (table_at s j) g.peers.now g.phase g.rounds (short_at s j report) outcome
    → All (IsEntryOf s.monitors s.objects) outcome.entries.items → Follows s j report.mon (report_frame j report a.failed) outcome
short_as s j g report frame outcome true h a passed fits ends =
    assigns_as s j g report frame g.rounds (short_at s j report) outcome h a ends fits (demands_by s j report frame true true (nat_lt (streak s j) 8) Short a passed fits refl refl) (short_deals s j report)
short_as s j g report frame outcome false h a passed fits ends =
    wide_as s j g report frame g.rounds (rounds s j) outcome h a (ends.past fits) h.counted (omega arith) (demands_by s j report frame true false (nat_lt (streak s j) 8) Wide a passed fits refl refl)

-- what follows then
pub short_follows : (s : Setup) (j : List Noted) (g : Grounds) (report : Reported) (frame : Frame) (outcome : TurnOutcome) → IsGrounded s j g → (a : IsAnswered s j frame report) → passes_at s j report ≡ true
    → Ends g.board.now.table g.peers.now g.phase g.rounds (short_decides g.phase.settings g.board.now.table g.board.now.members report) outcome
    → All (IsEntryOf s.monitors s.objects) outcome.entries.items → Follows s j report.mon (report_frame j report a.failed) outcome
short_follows s j g report frame outcome h a passed ends =
    short_as s j g report frame outcome (is_within_limit (short_at s j report)) h a passed refl
    (ends_by s j g g.rounds (short_decides g.phase.settings g.board.now.table g.board.now.members report) (short_at s j report) outcome h (same_short s j g report h) ends)

-- ---- it fails, and eight have failed before

pub tired_follows : (s : Setup) (j : List Noted) (g : Grounds) (report : Reported) (frame : Frame) (outcome : TurnOutcome) → IsGrounded s j g → (a : IsAnswered s j frame report) → passes_at s j report ≡ false
    → nat_lt (streak s j) 8 ≡ false → OpensWide g.phase g.rounds outcome → All (IsEntryOf s.monitors s.objects) outcome.entries.items
    → Follows s j report.mon (report_frame j report a.failed) outcome
tired_follows s j g report frame outcome h a failed many opens =
    wide_as s j g report frame g.rounds (rounds s j) outcome h a opens h.counted (omega arith) (demands_by s j report frame false (is_within_limit (short_at s j report)) false Wide a failed refl many refl)

-- ---- it fails, and fewer have failed before

-- with one monitor the round ends at once
alone_as : (s : Setup) (j : List Noted) (g : Grounds) (report : Reported) (frame : Frame) (outcome : TurnOutcome) (within : Bool) → IsGrounded s j g → (a : IsAnswered s j frame report)
    → is_within_limit (full_at s j (report ∷ [])) ≡ within → demanded s j report.mon.0 (report_frame j report a.failed) ≡ full_end s j (rounds s j + 1 + 1) (report ∷ [])
    → Ends (table_at s j) g.peers.now g.phase (g.rounds + 1) (full_at s j (report ∷ [])) outcome → All (IsEntryOf s.monitors s.objects) outcome.entries.items
    → Follows s j report.mon (report_frame j report a.failed) outcome
alone_as s j g report frame outcome true h a fits demands ends =
    let decided = full_at s j (report ∷ []) in
    assigns_as s j g report frame (g.rounds + 1) decided outcome h a ends fits
    (demands ∙ ap (λ b. if b then assigns j decided else wide_collects s (rounds s j + 1 + 1)) fits) (full_deals s j (report ∷ []) (omega arith))
alone_as s j g report frame outcome false h a fits demands ends =
    let decided = full_at s j (report ∷ []) in
    wide_as s j g report frame (g.rounds + 1) (rounds s j + 1) outcome h a (ends.past fits) (ap (λ (k : ℕ). k + 1) h.counted) (omega arith) (demands ∙ ap (λ b. if b then assigns j decided else wide_collects s (rounds s j + 1 + 1)) fits)

-- monitors that are not one are several
several_of : (s : Setup) → 0 < s.monitors → s.monitors == 1 ≡ false → 1 < s.monitors
several_of s some more = let ne = eqb-false s.monitors 1 more in omega (arith, some, ne)

-- what follows where a full round opens, by whether there is one monitor
full_as : (s : Setup) (j : List Noted) (g : Grounds) (report : Reported) (frame : Frame) (outcome : TurnOutcome) (one : Bool) → IsGrounded s j g → (a : IsAnswered s j frame report)
    → demanded s j report.mon.0 (report_frame j report a.failed) ≡ full_turn s j report → s.monitors == 1 ≡ one
    → OpensOrEnds g.board.now.table g.peers.now g.phase g.rounds g.board.now.members report outcome
    → All (IsEntryOf s.monitors s.objects) outcome.entries.items → Follows s j report.mon (report_frame j report a.failed) outcome
full_as s j g report frame outcome true h a demands one o range =
    let large = force_large s j g.phase.settings h.stands.settings in
    let next = rounds s j + 1 in
    alone_as s j g report frame outcome (is_within_limit (full_at s j (report ∷ []))) h a refl
    (demands ∙ ap (λ b. if b then full_end s j (next + 1) (report ∷ []) else collects next (objects_of report.values) (filter (λ mon. not (mon == report.mon.0)) (monitors s))) one)
    (ends_by s j g (g.rounds + 1) (full_decides g.phase.settings g.board.now.table g.board.now.members (report ∷ [])) (full_at s j (report ∷ [])) outcome h
    (same_full s j g (report ∷ []) h) (o.alone (ap (λ (k : ℕ). k == 1) large.monitors ∙ one))) range
full_as s j g report frame outcome false h a demands one o range =
    let large = force_large s j g.phase.settings h.stands.settings in
    let next = rounds s j + 1 in
    let fresh = fresh_at s j g report frame h a in
    let few : rounds s j ≤ g.rounds = (let e = h.counted in omega (arith, e)) in
    full_follows s j report.mon (report_frame j report a.failed) g.phase g.rounds report (rounds s j) outcome fresh.taken (o.others (ap (λ (k : ℕ). k == 1) large.monitors ∙ one)) large
    (demands
    ∙ ap (λ b. if b then full_end s j (next + 1) (report ∷ []) else collects next (objects_of report.values) (filter (λ mon. not (mon == report.mon.0)) (monitors s))) one
    ∙ ap (λ (k : ℕ). collects (k + 1) (objects_of report.values) (filter (λ mon. not (mon == report.mon.0)) (monitors s))) (sym h.counted))
    (several_of s fresh.taken.limits.some_monitor one) a.range (fresh_report j report.mon (assigns_sent report.mon.0 j) report.border a.failed report.values refl)
    fresh.asks few range fresh.between fresh.going

-- what follows then
pub open_follows : (s : Setup) (j : List Noted) (g : Grounds) (report : Reported) (frame : Frame) (outcome : TurnOutcome) → IsGrounded s j g → (a : IsAnswered s j frame report) → passes_at s j report ≡ false
    → nat_lt (streak s j) 8 ≡ true → OpensOrEnds g.board.now.table g.peers.now g.phase g.rounds g.board.now.members report outcome → All (IsEntryOf s.monitors s.objects) outcome.entries.items
    → Follows s j report.mon (report_frame j report a.failed) outcome
open_follows s j g report frame outcome h a failed few o =
    full_as s j g report frame outcome (s.monitors == 1) h a (demands_by s j report frame false (is_within_limit (short_at s j report)) true Full a failed refl few refl) refl o
