-- What follows a taken frame, by what was prepared for it: nothing, Assigns or Collects.
use Rattle.std.proofs.Common.{◌≡◌, ℕ, Bool, Option, ◌+◌, ◌≤◌, ◌<◌, ◌==◌, not, true, false, List, [], ◌∷◌, ◌++◌, length, drop, filter, Some, None, refl, sym, ap, ◌∙◌, subst, arith}
use Rattle.std.specs.List.{All, range_with_len}
use Rattle.std.specs.Prelude.{if◌then◌else◌}
use Rattle.std.proofs.lemmas.Bool.{eq-eqb}
use Rattle.std.proofs.lemmas.List.{append-nil}
use Rattle.std.proofs.lemmas.List.Elements.{All-head}
use Rattle.tk_base.specs.Objects.{objects}
use Rattle.tk_base.specs.Pairs.{objects_of}
use Rattle.tk_base.specs.Settings.{Setup}
use Rattle.tk_base.specs.declared.ids.Mon.{Mon}
use Rattle.tk_frames.specs.declared.frame.Frame.{Frame}
use Rattle.tk_alloc.specs.declared.reported.Reported.{Reported}
use Rattle.tk_journal.specs.Deciding.{Decided, answered_report}
use Rattle.tk_journal.specs.Entries.{IsEntryOf}
use Rattle.tk_journal.specs.Laws.{IsMonitor}
use Rattle.tk_journal.specs.Publishing.{closing}
use Rattle.tk_journal.specs.Readings.{monitors, answer_of, assigns_sent, is_calm, is_open, is_stopped, settled_in, table_at}
use Rattle.tk_journal.specs.Turns.{assigns, collects, demanded, wide_collects}
use Rattle.tk_journal.specs.declared.noted.Noted.{Noted}
use Rattle.tk_journal.proofs.Counting.{AreCounted}
use Rattle.tk_journal.proofs.Batches.{named_answer}
use Rattle.tk_journal.proofs.Orderly.{Row, assigns_got}
use Rattle.tk_journal.proofs.LastLemmas.{open_nothing}
use Rattle.tk_coord.specs.Dealing.{IsAssigned, OpensFull, OpensWide}
use Rattle.tk_coord.specs.State.{ArePeers, Stands}
use Rattle.tk_coord.specs.Steps.{Follows, IsAsked, IsReply, with_got}
use Rattle.tk_coord.specs.declared.peer.Peer.{Peer}
use Rattle.tk_coord.specs.declared.round.Round.{Round}
use Rattle.tk_coord.specs.declared.phase.Phase.{Phase}
use Rattle.tk_coord.specs.declared.step.TurnOutcome.{TurnOutcome}
use Rattle.tk_coord.specs.declared.step.Reply.TheVariants as reply
use Rattle.tk_coord.proofs.AskedLemmas.{CanAsk, asked_open, full_is_asked, wide_is_asked}
use Rattle.tk_coord.proofs.ClosingLemmas.{uncalm_closing, uncalm_unsettled}
use Rattle.tk_coord.proofs.DealtLemmas.{assigns_by_peers, decided_nodes, demanded_assigned, room_by_peers}
use Rattle.tk_coord.proofs.StandLemmas.{IsBetween, IsTaken, frame_between, nothing_stops, said, turned_stands}

-- where what is prepared is what is demanded, and nothing ends the turn
follows_whole : (s : Setup) (j : List Noted) (mon : Mon) (frame : Frame) (outcome : TurnOutcome) → IsTaken s j mon frame → outcome.entries.items ≡ demanded s j mon.0 frame → closing s (said s j mon frame) ≡ []
    → IsReply s (with_got j mon frame) (demanded s j mon.0 frame) outcome.reply → All (IsEntryOf s.monitors s.objects) outcome.entries.items
    → IsBetween s j mon frame outcome.phase → outcome.phase.stopped ≡ false → Follows s j mon frame outcome
follows_whole s j mon frame outcome taken is none reply range between going = record {
  reply = reply;
  entries = is ∙ sym (ap (λ xs. demanded s j mon.0 frame ++ xs) none ∙ append-nil (demanded s j mon.0 frame));
  range = range;
  phase = turned_stands s j mon frame outcome.phase taken between (going ∙ sym (nothing_stops s (said s j mon frame) none));
}

-- ---- nothing

-- where nothing is demanded, all that was said is the frame
nothing_said : (s : Setup) (j : List Noted) (mon : Mon) (frame : Frame) → demanded s j mon.0 frame ≡ [] → said s j mon frame ≡ with_got j mon frame
nothing_said s j mon frame none = ap (λ xs. with_got j mon frame ++ xs) none ∙ append-nil (with_got j mon frame)

-- no entries are all about monitors and objects that there are
none_of : (s : Setup) (entries : List Noted) → entries ≡ [] → All (IsEntryOf s.monitors s.objects) entries
none_of s entries is = subst (All (IsEntryOf s.monitors s.objects)) (sym is) (λ k d below. absurd (omega (arith, below)))

-- nothing follows a frame that demands nothing, ends no round, and after which nothing ends the turn
pub quiet_follows : (s : Setup) (j : List Noted) (mon : Mon) (frame : Frame) (outcome : TurnOutcome) → IsTaken s j mon frame → is_open s (with_got j mon frame) ≡ is_open s j → demanded s j mon.0 frame ≡ []
    → closing s (with_got j mon frame) ≡ [] → outcome.entries.items ≡ [] → outcome.reply ≡ reply.Nothing → Stands s j outcome.phase → Follows s j mon frame outcome
quiet_follows s j mon frame outcome taken same demands ends none reply stands =
    follows_whole s j mon frame outcome taken (none ∙ sym demands) (ap (closing s) (nothing_said s j mon frame demands) ∙ ends)
    (subst (λ r. IsReply s (with_got j mon frame) (demanded s j mon.0 frame) r) (sym reply) demands)
    (none_of s outcome.entries.items none) (frame_between s j mon frame outcome.phase same stands) (stands.stopped ∙ taken.going)

-- the end of a turn in which all have settled
pub calm_follows : (s : Setup) (j : List Noted) (mon : Mon) (frame : Frame) (phase : Phase) (ends : Bool) (outcome : TurnOutcome) → IsTaken s j mon frame
    → is_open s (with_got j mon frame) ≡ is_open s j → demanded s j mon.0 frame ≡ [] → outcome.entries.items ≡ closing s (with_got j mon frame)
    → outcome.reply ≡ reply.Nothing → All (IsEntryOf s.monitors s.objects) outcome.entries.items → is_stopped outcome.entries.items ≡ ends → outcome.phase ≡ record phase { stopped = ends }
    → Stands s j phase → Follows s j mon frame outcome
calm_follows s j mon frame phase ends outcome taken same demands is reply range stopped holds stands =
    let between = frame_between s j mon frame phase same stands in
    let end : closing s (said s j mon frame) ≡ closing s (with_got j mon frame) = ap (closing s) (nothing_said s j mon frame demands) in
    record {
      reply = subst (λ r. IsReply s (with_got j mon frame) (demanded s j mon.0 frame) r) (sym reply) demands;
      entries = is ∙ sym (ap (λ xs. xs ++ closing s (said s j mon frame)) demands ∙ end);
      range = range;
      phase = turned_stands s j mon frame outcome.phase taken
          (subst (IsBetween s j mon frame) (sym holds) (record { settings = between.settings; next = between.next }))
          (ap (λ (x : Phase). x.stopped) holds ∙ sym stopped ∙ ap is_stopped (is ∙ sym end));
    }

-- ---- Assigns

-- the first of the monitors that are sent Assigns has no answer
first_cleared : (b : List Noted) (decided : Decided) (d : Row) (rows : List Row) → drop 1 decided.dealt ≡ d ∷ rows → answer_of d.0 (b ++ assigns b decided) ≡ None
first_cleared b decided d rows is =
    named_answer d.0 b (λ (e : Row). e.0) (λ e. assigns_sent e.0 b + 1) decided.members (λ e. e.1) (drop 1 decided.dealt) d (filter (λ (e : Row). e.0 == d.0) rows)
    (ap (filter (λ (e : Row). e.0 == d.0)) is ∙ ap (λ c. if c then d ∷ filter (λ (e : Row). e.0 == d.0) rows else filter (λ (e : Row). e.0 == d.0) rows) (eq-eqb d.0 d.0 refl))

-- so it is not calm
assigned_calm : (s : Setup) (now : List Noted) (decided : Decided) (rows : List Row) → drop 1 decided.dealt ≡ rows → 0 < length rows → All (λ (d : Row). IsMonitor s d.0) rows
    → is_calm s (now ++ assigns now decided) ≡ false
assigned_calm s now decided [] is some range = absurd (omega (arith, some))
assigned_calm s now decided (d ∷ rows) is some range =
    uncalm_unsettled s (now ++ assigns now decided) d.0 (All-head (λ (e : Row). IsMonitor s e.0) d rows range) (ap settled_in (first_cleared now decided d rows is))

-- what follows where a round ends in Assigns
pub assigned_follows : (s : Setup) (j : List Noted) (mon : Mon) (frame : Frame) (decided : Decided) (peers : List Peer) (phase : Phase) (outcome : TurnOutcome) → IsTaken s j mon frame
    → ArePeers s j peers
    → IsAssigned (table_at s j) peers phase decided outcome → demanded s j mon.0 frame ≡ assigns j decided → is_open s (with_got j mon frame) ≡ false → 0 < length (drop 1 decided.dealt)
    → All (IsEntryOf s.monitors s.objects) outcome.entries.items → IsBetween s j mon frame phase → phase.stopped ≡ false → Follows s j mon frame outcome
assigned_follows s j mon frame decided peers phase outcome t are a demands closed some range between going =
    let now = with_got j mon frame in
    let nodes = decided_nodes s j decided a.change a.decides in
    let calm : is_calm s (said s j mon frame) ≡ false =
    ap (λ xs. is_calm s (now ++ xs)) (demands ∙ assigns_got j mon frame decided) ∙ assigned_calm s now decided (drop 1 decided.dealt) refl some nodes in
    follows_whole s j mon frame outcome t (a.sends ∙ assigns_by_peers s j peers decided are nodes ∙ sym demands) (uncalm_closing s (said s j mon frame) calm)
    (subst (λ r. IsReply s now (demanded s j mon.0 frame) r) (sym a.reply)
    (demanded_assigned s j mon frame decided a.change t.limits t.range t.accepted t.order t.firm demands closed a.decides (room_by_peers s j peers a.change are a.decides.fits a.room) some))
    range (subst (IsBetween s j mon frame) (sym a.holds) between) (ap (λ (x : Phase). x.stopped) a.holds ∙ going)

-- ---- Collects

-- the setup has the sizes of another
pub record IsAsLarge (a b : Setup) : Type 0 where
  pub objects : a.objects ≡ b.objects
  pub monitors : a.monitors ≡ b.monitors

-- their wide rounds are the same
pub wide_over : (a b : Setup) (number : ℕ) → IsAsLarge a b → wide_collects a number ≡ wide_collects b number
wide_over a b number same = ap (λ (k : ℕ). collects number (objects k) (monitors a)) same.objects ∙ ap (λ (k : ℕ). collects number (objects b.objects) (range_with_len 1 k)) same.monitors

-- what follows where Collects were prepared
asked_follows : (s : Setup) (j : List Noted) (mon : Mon) (frame : Frame) (round : Round) (opener : Option Reported) (phase : Phase) (outcome : TurnOutcome) → IsTaken s j mon frame
    → AreCounted s (with_got j mon frame)
    → IsAsked s (with_got j mon frame) (demanded s j mon.0 frame) round opener → outcome.reply ≡ reply.Ask round opener → outcome.entries.items ≡ demanded s j mon.0 frame
    → All (IsEntryOf s.monitors s.objects) outcome.entries.items → outcome.phase ≡ phase → IsBetween s j mon frame phase → phase.stopped ≡ false → Follows s j mon frame outcome
asked_follows s j mon frame round opener phase outcome t counted asked reply sends range holds between going =
    let now = with_got j mon frame in
    follows_whole s j mon frame outcome t sends (open_nothing s (said s j mon frame) (asked_open s now (demanded s j mon.0 frame) round opener counted asked))
    (subst (λ r. IsReply s now (demanded s j mon.0 frame) r) (sym reply) asked) range
    (subst (IsBetween s j mon frame) (sym holds) between) (ap (λ (x : Phase). x.stopped) holds ∙ going)

-- what follows where a wide round is opened
pub wide_follows : (s : Setup) (j : List Noted) (mon : Mon) (frame : Frame) (phase : Phase) (rounds most : ℕ) (outcome : TurnOutcome) → IsTaken s j mon frame → OpensWide phase rounds outcome
    → IsAsLarge phase.settings s → demanded s j mon.0 frame ≡ wide_collects s (rounds + 1) → CanAsk s (with_got j mon frame) most → most ≤ rounds
    → All (IsEntryOf s.monitors s.objects) outcome.entries.items → IsBetween s j mon frame phase → phase.stopped ≡ false → Follows s j mon frame outcome
wide_follows s j mon frame phase rounds most outcome t o large demands can few range between going =
    let now = with_got j mon frame in
    let number = rounds + 1 in
    let round : Round = record { number = number; waiting = true; wide = true; asked = objects s.objects } in
    let asked = wide_is_asked s now number t.limits.some_monitor can.closed can.counted (let l = can.last in omega (arith, l, few)) in
    asked_follows s j mon frame round None phase outcome t can.counted (subst (λ xs. IsAsked s now xs round None) (sym demands) asked)
    (o.reply ∙ ap (λ (k : ℕ). reply.Ask (record { number = number; waiting = true; wide = true; asked = objects k }) None) large.objects)
    (o.sends ∙ wide_over phase.settings s number large ∙ sym demands) range o.holds between going

-- what follows where a full round is opened
pub full_follows : (s : Setup) (j : List Noted) (mon : Mon) (frame : Frame) (phase : Phase) (rounds : ℕ) (report : Reported) (most : ℕ) (outcome : TurnOutcome) → IsTaken s j mon frame
    → OpensFull phase rounds report outcome
    → IsAsLarge phase.settings s → demanded s j mon.0 frame ≡ collects (rounds + 1) (objects_of report.values) (filter (λ q. not (q == report.mon.0)) (monitors s)) → 1 < s.monitors
    → IsMonitor s report.mon.0
    → answered_report report.mon.0 (answer_of report.mon.0 (with_got j mon frame)) ≡ Some report → CanAsk s (with_got j mon frame) most → most ≤ rounds
    → All (IsEntryOf s.monitors s.objects) outcome.entries.items → IsBetween s j mon frame phase → phase.stopped ≡ false → Follows s j mon frame outcome
full_follows s j mon frame phase rounds report most outcome t o large demands several m answered can few range between going =
    let now = with_got j mon frame in
    let number = rounds + 1 in
    let all = objects_of report.values in
    let round : Round = record { number = number; waiting = true; wide = false; asked = all } in
    let asked = full_is_asked s now number all report several can.closed can.counted (let l = can.last in omega (arith, l, few)) m answered in
    asked_follows s j mon frame round (Some report) phase outcome t can.counted (subst (λ xs. IsAsked s now xs round (Some report)) (sym demands) asked) o.reply
    (o.sends ∙ ap (λ (k : ℕ). collects number all (filter (λ q. not (q == report.mon.0)) (range_with_len 1 k))) large.monitors ∙ sym demands)
    range o.holds between going
