-- What is kept of a journal that has only begun.
use Rattle.std.proofs.Common.{◌≡◌, ℕ, suc, Bool, false, ◌+◌, ◌≤◌, ◌<◌, ℤ, List, [], ◌∷◌, length, Option, None, refl, sym, ap, ◌∙◌, subst, arith}
use Rattle.std.specs.Prelude.{IfOk, Result}
use Rattle.std.specs.List.{All, range_with_len, enumerate_from}
use Rattle.std.proofs.lemmas.Bool.{true≢false}
use Rattle.std.proofs.lemmas.List.Elements.{All-cons, All-nil}
use Rattle.std.proofs.lemmas.Option.{slice_get_within}
use Rattle.std.proofs.lemmas.Result.{IfOk-weaker}
use Rattle.tk_base.specs.Objects.{objects}
use Rattle.tk_base.specs.Settings.{Setup}
use Rattle.tk_frames.specs.declared.frame.Frame.{Frame}
use Rattle.tk_frames.specs.declared.frame.Frame.TheVariants as f
use Rattle.tk_rows.specs.Factors.{Grid}
use Rattle.tk_journal.specs.Entries.{IsEntryOf}
use Rattle.tk_journal.specs.Laws.{IsMonitor, IsSetUp}
use Rattle.tk_journal.specs.Legal.{IsLegal, Opening, opened}
use Rattle.tk_journal.specs.Readings.{Progress, assigns_sent, tuned_to, last_round, members_at, progress_of, answer_of, table_at, waits_for}
use Rattle.tk_base.specs.History.{last_of}
use Rattle.tk_journal.specs.declared.noted.Noted.{Noted}
use Rattle.tk_journal.specs.declared.noted.Noted.TheVariants as n
use Rattle.tk_journal.proofs.Batches.{named, named_answer, named_members}
use Rattle.tk_journal.proofs.Counting.{named_round}
use Rattle.tk_journal.proofs.Ending.{sent_tunings}
use Rattle.tk_journal.proofs.HeardLemmas.{first_sent}
use Rattle.tk_journal.proofs.LegalLemmas.{numbered_factors, opened_closed}
use Rattle.tk_journal.proofs.Naming.{one_row}
use Rattle.tk_journal.proofs.Pieces.{batch, batch_progress}
use Rattle.tk_journal.proofs.Reports.{closed_waits}
use Rattle.tk_journal.proofs.SoundLemmas.{opened_firm}
use Rattle.tk_journal.proofs.Tables.{rows_count}
use Rattle.tk_journal.proofs.Tuning.{force_closed}
use Rattle.tk_journal.proofs.WholeLemmas.{opened_legal}
use Rattle.tk_coord.specs.Board.{BoardView}
use Rattle.tk_coord.specs.Coordinator.{Begins, IsJournal, CoordinatorView}
use Rattle.tk_coord.specs.Keeping.{HasBegun, first_peer}
use Rattle.tk_coord.specs.State.{Holds, Stands, kind_in, peer_at, next_settings}
use Rattle.tk_coord.specs.declared.round.Round.{Round}
use Rattle.tk_coord.specs.declared.phase.Phase.{Phase}
use Rattle.tk_coord.specs.declared.state.State.{State}
use Rattle.tk_coord.proofs.BatchLemmas.{opened_running}
use Rattle.tk_coord.proofs.BeginLemmas.{Given, changes_in}

-- ---- the readings of a journal that has only begun

-- some Assigns name the members
some_named : (factors : List (List (ℕ × ℤ))) (members : List ℕ) → 0 < length factors → members_at (batch (λ (p : Given). p.0) (named (λ _. 1) members changes_in) (enumerate_from 1 factors)) ≡ members
some_named [] members some = absurd (omega (arith, some))
some_named (x ∷ factors) members some = named_members [] (λ (p : Given). p.0) (λ _. 1) members changes_in (1, x) (enumerate_from (1 + 1) factors)

-- the members are those that it names
begun_members : (o : Opening) → IsSetUp o → members_at (opened o) ≡ o.members
begun_members o set = some_named o.factors o.members (let l = set.factors in let m = set.limits.some_monitor in omega (arith, l, m))

-- at first nobody told anything
none_told : (mon : ℕ) → progress_of mon [] ≡ None
unfolding progress_of
none_told mon = refl

-- at first no round was opened
none_asked : last_round [] ≡ 0
unfolding last_round
none_asked = refl

-- the first Assigns open no round
begun_round : (o : Opening) → last_round (opened o) ≡ 0
begun_round o = named_round [] (λ (p : Given). p.0) (λ _. 1) o.members changes_in (enumerate_from 1 o.factors) ∙ none_asked

-- no round waits for a monitor
begun_waits : (o : Opening) (mon : ℕ) → IsMonitor o.settings mon → waits_for (last_round (opened o)) mon (opened o) ≡ false
begun_waits o mon m = closed_waits o.settings (opened o) (opened_closed o) mon m

-- of a monitor that was sent one Assign the journal says no more
begun_peer : (o : Opening) (mon : ℕ) → IsSetUp o → IsMonitor o.settings mon → first_peer ≡ peer_at (opened o) mon
begun_peer o mon set m =
    let rows = enumerate_from 1 o.factors in
    let high = m.within in
    let one = one_row (λ (p : Given). p.0) 1 o.settings.monitors rows mon (numbered_factors 1 o.factors ∙ ap (range_with_len 1) set.factors) m.from_one (omega (arith, high)) in
    let answer : answer_of mon (opened o) ≡ None = named_answer mon [] (λ (p : Given). p.0) (λ _. 1) o.members changes_in rows one.row [] one.alone in
    let progress : progress_of mon (opened o) ≡ None = batch_progress mon [] (λ (p : Given). p.0) (named (λ _. 1) o.members changes_in) rows ∙ none_told mon in
    let sent = first_sent o mon set m in
    let waits = begun_waits o mon m in
    ap (λ (k : ℕ). record { assigns = k; answer = None; progress = None; waits = false }) (sym sent)
    ∙ ap (λ (a : Option Frame). record { assigns = assigns_sent mon (opened o); answer = kind_in a; progress = None; waits = false }) (sym answer)
    ∙ ap (λ (p : Option Progress). record { assigns = assigns_sent mon (opened o); answer = kind_in (answer_of mon (opened o)); progress = p; waits = false }) (sym progress)
    ∙ ap (λ (w : Bool). record { assigns = assigns_sent mon (opened o); answer = kind_in (answer_of mon (opened o)); progress = progress_of mon (opened o); waits = w }) (sym waits)

-- ---- what is kept

-- what is kept over the first Assigns
opened_holds : (o : Opening) (board : BoardView) (state : State) → IsSetUp o → board.members ≡ o.members → board.table ≡ table_at o.settings (opened o)
    → HasBegun o.settings.monitors board state → Holds o.settings (opened o) state
opened_holds o board state set members table new =
    let s = o.settings in
    let j = opened o in
    let closed = opened_closed o in
    record {
      members = ap (λ (b : BoardView). b.members) new.board ∙ members ∙ sym (begun_members o set);
      table = ap (λ (b : BoardView). b.table) new.board ∙ table;
      peers = record {
        count = new.count;
        each = λ i l there.
            let inside = slice_get_within state.peers.items i l there in
            new.peers i l there ∙ begun_peer o (suc i) set (record { from_one = omega arith; within = (let c = new.count in omega (arith, inside, c)) });
      };
      round = record {
        number = ap (λ (r : Round). r.number) new.round ∙ sym (begun_round o);
        waiting = ap (λ (r : Round). r.waiting) new.round ∙ sym closed;
        wide = λ is. absurd (true≢false (sym is ∙ closed));
        asked = λ mon m waits. absurd (true≢false (sym waits ∙ begun_waits o mon m));
        count = new.reports;
        told = λ is i r there waits. absurd (true≢false (sym is ∙ closed));
      };
    }

-- what is kept of the frames at the beginning
pub begun_holds : (s : Setup) (board : BoardView) (j : List Noted) (state : State) → Begins s board.members board.table j
    → HasBegun s.monitors board state → Holds s j state
begun_holds s board j state b new =
    let o = b.opening in
    subst (λ (x : Setup). Holds x j state) b.settings
    (subst (λ (l : List Noted). Holds o.settings l state) (sym b.is)
    (opened_holds o board state b.set_up b.named
    (b.dealt ∙ ap (λ (x : Setup). table_at x j) (sym b.settings) ∙ ap (table_at o.settings) b.is)
    (subst (λ (x : Setup). HasBegun x.monitors board state) (sym b.settings) new)))

-- ---- what stands

-- no retune stands among them
begun_next : (o : Opening) → next_settings o.settings (opened o) ≡ o.settings
unfolding assigns_sent
begun_next o = ap (λ ts. tuned_to o.settings (last_of ts)) (sent_tunings [] o.members (enumerate_from 1 o.factors))

-- what stands over the first Assigns
opened_stands : (o : Opening) → IsSetUp o → Stands o.settings (opened o) (record { settings = o.settings; next = o.settings; stopped = false })
opened_stands o set = record {
  settings = sym (force_closed o.settings (opened o) (opened_closed o) (opened_firm o set).tuned ∙ begun_next o);
  next = sym (begun_next o);
  stopped = sym (opened_running o);
}

-- what stands at the beginning
pub begun_stands : (s : Setup) (members : List ℕ) (table : Grid) (j : List Noted) (phase : Phase) → Begins s members table j
    → phase ≡ record { settings = s; next = s; stopped = false } → Stands s j phase
begun_stands s members table j phase b is =
    let o = b.opening in
    subst (Stands s j) (sym is)
    (subst (λ (x : Setup). Stands x j (record { settings = x; next = x; stopped = false })) b.settings
    (subst (λ (l : List Noted). Stands o.settings l (record { settings = o.settings; next = o.settings; stopped = false })) (sym b.is) (opened_stands o b.set_up)))

-- ---- the entries

-- Assigns to monitors of a range
in_range : (m objects first : ℕ) (members : List ℕ) (factors : List (List (ℕ × ℤ))) → 0 < first → first + length factors ≤ m + 1
    → All (IsEntryOf m objects) (batch (λ (p : Given). p.0) (named (λ _. 1) members changes_in) (enumerate_from first factors))
in_range m objects first members [] low high = All-nil (IsEntryOf m objects)
in_range m objects first members (x ∷ factors) low high =
    All-cons (IsEntryOf m objects) (n.Sent (record { 0 = first }) (f.Assign 1 members x)) (batch (λ (p : Given). p.0) (named (λ _. 1) members changes_in) (enumerate_from (first + 1) factors))
    (low, omega (arith, high)) (in_range m objects (first + 1) members factors (omega arith) (omega (arith, high)))

-- each entry at the beginning is about one of the monitors
pub begun_entries : (s : Setup) (members : List ℕ) (table : Grid) (j : List Noted) → Begins s members table j → All (IsEntryOf s.monitors s.objects) j
begun_entries s members table j b =
    let o = b.opening in
    let size : length o.factors ≡ s.monitors = b.set_up.factors ∙ ap (λ (x : Setup). x.monitors) b.settings in
    subst (λ (l : List Noted). All (IsEntryOf s.monitors s.objects) l) (sym b.is) (in_range s.monitors s.objects 1 o.members o.factors (omega arith) (omega (arith, size)))

-- the journal with which a coordinator begins
pub begun_journal : (s : Setup) (members : List ℕ) (table : Grid) (j : List Noted) → Begins s members table j → IsJournal s j
begun_journal s members table j b = record {
  opening = b.opening;
  settings = b.settings;
  set_up = b.set_up;
  legal = subst (IsLegal b.opening) (sym b.is) (opened_legal b.opening);
}

-- what holds of a coordinator with these holds of the one that begins with them
pub begun_so : {E : Type 0} (r : Result CoordinatorView E) (seen : CoordinatorView) (Q : CoordinatorView → Type 0) → IfOk r (λ x. x ≡ seen) → Q seen → IfOk r Q
begun_so r seen Q is q = IfOk-weaker r (λ x. x ≡ seen) Q (λ x e. subst Q (sym e) q) is

-- ---- the rank

-- the table has as many objects as the settings
pub begun_rows : (s : Setup) (members : List ℕ) (table : Grid) (j : List Noted) → Begins s members table j → length table.rows ≡ s.objects
begun_rows s members table j b = ap (λ (g : Grid). length g.rows) b.dealt ∙ rows_count s j
