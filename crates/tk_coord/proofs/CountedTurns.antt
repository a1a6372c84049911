-- How the turn of a taken frame counts: its kind, whether its Report fails the short test, and whether it opens a wide round.
use Rattle.std.proofs.Common.{◌≡◌, ℕ, ◌+◌, ◌&&◌, Bool, true, false, not, ℤ, List, [], ◌∷◌, None, refl, sym, ap, ◌∙◌, subst, arith}
use Rattle.std.specs.Prelude.{nat_lt, ◌==◌, if◌then◌else◌}
use Rattle.std.proofs.lemmas.Bool.{ltb-true, ne_eqb}
use Rattle.tk_base.specs.Settings.{Setup}
use Rattle.tk_base.specs.declared.ids.Mon.{Mon}
use Rattle.tk_frames.specs.declared.frame.Frame.{Frame}
use Rattle.tk_frames.specs.declared.frame.Frame.TheVariants as f
use Rattle.tk_rows.specs.Factors.{Grid}
use Rattle.tk_alloc.specs.declared.reported.Reported.{Reported}
use Rattle.tk_journal.specs.Deciding.{Decided, full_decides, is_within_limit, reports_at, short_decides, wide_decides}
use Rattle.tk_journal.specs.Kinds.{opens_wide, report_widens, values_widen}
use Rattle.tk_journal.specs.Readings.{assigns_sent, is_open}
use Rattle.tk_journal.specs.Refusal.{refusal_of}
use Rattle.tk_journal.specs.Turns.{fails_at, full_at, is_wide, kind_of, kind_of_report, passes_at, reported, short_at, streak}
use Rattle.tk_journal.specs.declared.noted.Noted.{Noted}
use Rattle.tk_journal.specs.declared.turn.Turn.{Turn}
use Rattle.tk_journal.specs.declared.turn.TurnKind.{TurnKind}
use Rattle.tk_journal.specs.declared.turn.TurnKind.TheVariants.{Stale, Note, Short, Wide, Full, End}
use Rattle.tk_coord.specs.Dealing.{Ends, IsAssigned, OpensOrEnds, OpensWide, closed}
use Rattle.tk_coord.specs.Grounds.{IsAnswered, IsGrounded}
use Rattle.tk_coord.specs.Steps.{IsCounted, asks_wide, quiet_turn, report_frame}
use Rattle.tk_coord.specs.declared.peer.Peer.{Peer}
use Rattle.tk_coord.specs.declared.outcomes.Grounds.{Grounds}
use Rattle.tk_coord.specs.declared.phase.Phase.{Phase}
use Rattle.tk_coord.specs.declared.step.TurnOutcome.{TurnOutcome}
use Rattle.tk_coord.proofs.DemandLemmas.{fails_fresh, report_kind, with_values}
use Rattle.tk_coord.proofs.GroundLemmas.{force_large}
use Rattle.tk_coord.proofs.ReportTurns.{late_never, same_full, same_short}
use Rattle.tk_coord.proofs.ValuesTurns.{AreLast, Values, frame_of, full_same, heard}

-- ---- by the kind

-- a turn that counts as a quiet one of a kind
pub counts_quiet : (s : Setup) (j : List Noted) (mon : ℕ) (frame : Frame) (turn : Turn) (kind : TurnKind) → turn ≡ quiet_turn kind → IsCounted s j mon frame kind false false
    → IsCounted s j mon frame turn.kind turn.fails turn.widens
counts_quiet s j mon frame turn kind is counted = subst (λ (t : Turn). IsCounted s j mon frame t.kind t.fails t.widens) (sym is) counted

-- whether the turn of a Report opens a wide round, by its kind
report_wide : (s : Setup) (j : List Noted) (mon seq : ℕ) (border : ℤ) (failed : List ℕ) (values : List (ℕ × ℤ)) (kind : TurnKind) → kind_of s j mon (f.Report seq border failed values) ≡ kind
    → opens_wide s j mon (f.Report seq border failed values) ≡ report_widens s j (reported mon border values) kind
unfolding opens_wide
report_wide s j mon seq border failed values kind is = ap (report_widens s j (reported mon border values)) is

-- a stale Report
pub stale_report_counts : (s : Setup) (j : List Noted) (mon seq : ℕ) (border : ℤ) (failed : List ℕ) (values : List (ℕ × ℤ)) → nat_lt seq (assigns_sent mon j) ≡ true
    → IsCounted s j mon (f.Report seq border failed values) Stale false false
unfolding kind_of
stale_report_counts s j mon seq border failed values late =
    let report = reported mon border values in
    let kind = ap (λ b. if b then Stale else (if is_open s j then Note else kind_of_report s j report)) late in
    let low = ltb-true seq (assigns_sent mon j) late in
    record {
      kind_is = sym kind;
      fails_is = sym (ap (λ b. b && not (is_open s j) && not (passes_at s j report)) (ne_eqb seq (assigns_sent mon j) (λ e. omega (arith, low, e))));
      wide_is = sym (report_wide s j mon seq border failed values Stale kind);
    }

-- a fresh Report while a round is open
pub noted_report_counts : (s : Setup) (j : List Noted) (mon : Mon) (seq : ℕ) (border : ℤ) (failed : List ℕ) (values : List (ℕ × ℤ)) → refusal_of s j mon.0 (f.Report seq border failed values) ≡ None
    → nat_lt seq (assigns_sent mon.0 j) ≡ false → is_open s j ≡ true → IsCounted s j mon.0 (f.Report seq border failed values) Note false false
unfolding kind_of
noted_report_counts s j mon seq border failed values none late opened =
    let report = reported mon.0 border values in
    let kind = ap (λ b. if b then Stale else (if is_open s j then Note else kind_of_report s j report)) late ∙ ap (λ b. if b then Note else kind_of_report s j report) opened in
    record {
      kind_is = sym kind;
      fails_is = sym (fails_fresh s j mon seq border failed values none late ∙ ap (λ b. not b && not (passes_at s j report)) opened);
      wide_is = sym (report_wide s j mon.0 seq border failed values Note kind);
    }

-- a stale Settled, and a fresh one
pub stale_settled_counts : (s : Setup) (j : List Noted) (mon seq : ℕ) (last : Bool) (places : List ℕ) → nat_lt seq (assigns_sent mon j) ≡ true → IsCounted s j mon (f.Settled seq last places) Stale false false
unfolding kind_of opens_wide
stale_settled_counts s j mon seq last places late = record { kind_is = sym (ap (λ b. if b then Stale else Note) late); fails_is = refl; wide_is = refl }

pub settled_counts : (s : Setup) (j : List Noted) (mon seq : ℕ) (last : Bool) (places : List ℕ) → nat_lt seq (assigns_sent mon j) ≡ false → IsCounted s j mon (f.Settled seq last places) Note false false
unfolding kind_of opens_wide
settled_counts s j mon seq last places late = record { kind_is = sym (ap (λ b. if b then Stale else Note) late); fails_is = refl; wide_is = refl }

-- Values that leave a round open
pub more_counts : (s : Setup) (j : List Noted) (mon : Mon) (number seq : ℕ) (border : ℤ) (values : List (ℕ × ℤ)) → is_open s (with_values j mon number seq border values) ≡ true
    → IsCounted s j mon.0 (f.Values number seq border values) Note false false
unfolding kind_of opens_wide
more_counts s j mon number seq border values opened =
    let kind = ap (λ b. if b then Note else End) opened in
    record { kind_is = sym kind; fails_is = refl; wide_is = sym (ap (values_widen s (with_values j mon number seq border values)) kind) }

-- Values that end one
pub end_counts : (s : Setup) (j : List Noted) (mon : Mon) (number seq : ℕ) (border : ℤ) (values : List (ℕ × ℤ)) (wide : Bool) → is_open s (with_values j mon number seq border values) ≡ false
    → wide ≡ (not (is_wide s (with_values j mon number seq border values))
    && not (is_within_limit (full_at s (with_values j mon number seq border values) (reports_at s (with_values j mon number seq border values)))))
    → IsCounted s j mon.0 (f.Values number seq border values) End false wide
unfolding kind_of opens_wide
end_counts s j mon number seq border values wide closed is =
    let kind = ap (λ b. if b then Note else End) closed in
    record { kind_is = sym kind; fails_is = refl; wide_is = is ∙ sym (ap (values_widen s (with_values j mon number seq border values)) kind) }

-- ---- a fresh Report that finds no round open

-- the end of a round opens a wide one where a factor would be past its limit
ends_wide : (grid : Grid) (peers : List Peer) (phase : Phase) (rounds : ℕ) (decided : Decided) (outcome : TurnOutcome) (within : Bool) → is_within_limit decided ≡ within
    → Ends grid peers phase rounds decided outcome → asks_wide outcome.reply ≡ not within
ends_wide grid peers phase rounds decided outcome true fits ends = ap asks_wide (ends.within fits).reply
ends_wide grid peers phase rounds decided outcome false fits ends = ap asks_wide (ends.past fits).reply

-- it fails the short test where it does not pass it
fails_by : (s : Setup) (j : List Noted) (report : Reported) (frame : Frame) (passes : Bool) → (a : IsAnswered s j frame report) → passes_at s j report ≡ passes
    → fails_at s j report.mon.0 (report_frame j report a.failed) ≡ not passes
fails_by s j report frame passes a passed =
    fails_fresh s j report.mon (assigns_sent report.mon.0 j) report.border a.failed report.values a.taken (late_never (assigns_sent report.mon.0 j))
    ∙ ap (λ b. not b && not (passes_at s j report)) a.closed ∙ ap not passed

-- how it counts, by its kind
answered_counts : (s : Setup) (j : List Noted) (report : Reported) (frame : Frame) (passes within few wide : Bool) (kind : TurnKind) → (a : IsAnswered s j frame report) → passes_at s j report ≡ passes
    → is_within_limit (short_at s j report) ≡ within → nat_lt (streak s j) 8 ≡ few → (if passes then (if within then Short else Wide) else (if few then Full else Wide)) ≡ kind
    → wide ≡ report_widens s j report kind → IsCounted s j report.mon.0 (report_frame j report a.failed) kind (not passes) wide
answered_counts s j report frame passes within few wide kind a passed fits left is widens =
    let seq = assigns_sent report.mon.0 j in
    let same = report_kind s j report.mon.0 seq report.border a.failed report.values passes within few (late_never seq) a.closed passed fits left ∙ is in
    record {
      kind_is = sym same;
      fails_is = sym (fails_by s j report frame passes a passed);
      wide_is = widens ∙ sym (report_wide s j report.mon.0 seq report.border a.failed report.values kind same);
    }

-- it passes the short test
short_counts_as : (s : Setup) (j : List Noted) (report : Reported) (frame : Frame) (wide within : Bool) → (a : IsAnswered s j frame report) → passes_at s j report ≡ true
    → is_within_limit (short_at s j report) ≡ within → wide ≡ not within → IsCounted s j report.mon.0 (report_frame j report a.failed) (if wide then Wide else Short) false wide
short_counts_as s j report frame true true a passed fits is = absurd (cc)
short_counts_as s j report frame false true a passed fits is = answered_counts s j report frame true true (nat_lt (streak s j) 8) false Short a passed fits refl refl refl
short_counts_as s j report frame true false a passed fits is = answered_counts s j report frame true false (nat_lt (streak s j) 8) true Wide a passed fits refl refl refl
short_counts_as s j report frame false false a passed fits is = absurd (cc)

pub short_counts : (s : Setup) (j : List Noted) (g : Grounds) (report : Reported) (frame : Frame) (outcome : TurnOutcome) → IsGrounded s j g → (a : IsAnswered s j frame report) → passes_at s j report ≡ true
    → Ends g.board.now.table g.peers.now g.phase g.rounds (short_decides g.phase.settings g.board.now.table g.board.now.members report) outcome
    → IsCounted s j report.mon.0 (report_frame j report a.failed) (if asks_wide outcome.reply then Wide else Short) false (asks_wide outcome.reply)
short_counts s j g report frame outcome h a passed ends =
    short_counts_as s j report frame (asks_wide outcome.reply) (is_within_limit (short_at s j report)) a passed refl
    (ends_wide g.board.now.table g.peers.now g.phase g.rounds (short_decides g.phase.settings g.board.now.table g.board.now.members report) outcome (is_within_limit (short_at s j report))
    (ap is_within_limit (same_short s j g report h)) ends)

-- it fails, and eight have failed before
pub tired_counts : (s : Setup) (j : List Noted) (g : Grounds) (report : Reported) (frame : Frame) (outcome : TurnOutcome) → (a : IsAnswered s j frame report) → passes_at s j report ≡ false
    → nat_lt (streak s j) 8 ≡ false → OpensWide g.phase g.rounds outcome → IsCounted s j report.mon.0 (report_frame j report a.failed) Wide true (asks_wide outcome.reply)
tired_counts s j g report frame outcome a failed many o =
    answered_counts s j report frame false (is_within_limit (short_at s j report)) false (asks_wide outcome.reply) Wide a failed refl many refl (ap asks_wide o.reply)

-- it fails, and fewer have failed before: with one monitor its full round ends at once
full_wide : (s : Setup) (j : List Noted) (g : Grounds) (report : Reported) (outcome : TurnOutcome) (one : Bool) → IsGrounded s j g → s.monitors == 1 ≡ one
    → OpensOrEnds g.board.now.table g.peers.now g.phase g.rounds g.board.now.members report outcome
    → asks_wide outcome.reply ≡ ((s.monitors == 1) && not (is_within_limit (full_at s j (report ∷ []))))
full_wide s j g report outcome true h one o =
    let large = force_large s j g.phase.settings h.stands.settings in
    ends_wide g.board.now.table g.peers.now g.phase (g.rounds + 1) (full_decides g.phase.settings g.board.now.table g.board.now.members (report ∷ [])) outcome (is_within_limit (full_at s j (report ∷ [])))
    (ap is_within_limit (same_full s j g (report ∷ []) h)) (o.alone (ap (λ (k : ℕ). k == 1) large.monitors ∙ one))
    ∙ sym (ap (λ b. b && not (is_within_limit (full_at s j (report ∷ [])))) one)
full_wide s j g report outcome false h one o =
    let large = force_large s j g.phase.settings h.stands.settings in
    ap asks_wide (o.others (ap (λ (k : ℕ). k == 1) large.monitors ∙ one)).reply ∙ sym (ap (λ b. b && not (is_within_limit (full_at s j (report ∷ [])))) one)

pub full_counts : (s : Setup) (j : List Noted) (g : Grounds) (report : Reported) (frame : Frame) (outcome : TurnOutcome) → IsGrounded s j g → (a : IsAnswered s j frame report) → passes_at s j report ≡ false
    → nat_lt (streak s j) 8 ≡ true → OpensOrEnds g.board.now.table g.peers.now g.phase g.rounds g.board.now.members report outcome
    → IsCounted s j report.mon.0 (report_frame j report a.failed) Full true (asks_wide outcome.reply)
full_counts s j g report frame outcome h a failed few o =
    answered_counts s j report frame false (is_within_limit (short_at s j report)) true (asks_wide outcome.reply) Full a failed refl few refl (full_wide s j g report outcome (s.monitors == 1) h refl o)

-- ---- the end of a round

-- the end of a wide round sends Assigns, and so does that of a full one, or it opens a wide one
pub end_is_counted : (s : Setup) (j : List Noted) (g : Grounds) (v : Values) (reports : List Reported) (wide : Bool) (outcome : TurnOutcome) → AreLast s j g v reports wide
    → (wide ≡ true → IsAssigned g.board.now.table g.peers.now (closed g.phase) (wide_decides g.phase.next g.board.now.table g.board.now.members reports) outcome)
    → (wide ≡ false → Ends g.board.now.table g.peers.now (closed g.phase) g.rounds (full_decides g.phase.next g.board.now.table g.board.now.members reports) outcome)
    → IsCounted s j v.mon.0 (frame_of v) End false (asks_wide outcome.reply)
end_is_counted s j g v reports true outcome l all some =
    end_counts s j v.mon v.round v.seq v.border v.values (asks_wide outcome.reply) l.closed
    (ap asks_wide (all refl).reply ∙ ap (λ b. not b && not (is_within_limit (full_at s (heard j v) (reports_at s (heard j v))))) l.wide_is)
end_is_counted s j g v reports false outcome l all some =
    let decided = full_at s (heard j v) (reports_at s (heard j v)) in
    end_counts s j v.mon v.round v.seq v.border v.values (asks_wide outcome.reply) l.closed
    (ends_wide g.board.now.table g.peers.now (closed g.phase) g.rounds (full_decides g.phase.next g.board.now.table g.board.now.members reports) outcome (is_within_limit decided)
    (ap is_within_limit (full_same s j g v reports false l)) (some refl)
    ∙ ap (λ b. not b && not (is_within_limit decided)) l.wide_is)
