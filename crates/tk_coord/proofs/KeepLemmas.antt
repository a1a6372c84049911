-- What is kept of a journal: it is kept of each that reads the same, and has room for what is sent.
use Rattle.std.proofs.Common.{◌≡◌, ℕ, suc, List, length, Some, None, refl, sym, ap, ◌∙◌, subst, arith}
use Rattle.std.specs.Prelude.{is_some, if◌then◌else◌}
use Rattle.tk_base.specs.Settings.{Setup}
use Rattle.tk_border.specs.Levels.{AreMembers}
use Rattle.tk_rows.specs.Factors.{Grid}
use Rattle.tk_rows.specs.Replacing.{IsReplacement}
use Rattle.tk_rows.specs.declared.mon_change.MonChange.{MonChange}
use Rattle.tk_alloc.specs.declared.reported.Reported.{Reported}
use Rattle.tk_journal.specs.Laws.{IsMonitor}
use Rattle.tk_journal.specs.Deciding.{report_of, answered_report}
use Rattle.tk_journal.specs.Readings.{assigns_to, assigns_sent, members_at, answer_of, progress_of, last_round, asked_of, values_of, waits_for}
use Rattle.tk_journal.specs.declared.noted.Noted.{Noted}
use Rattle.tk_journal.proofs.Same.{AreSame, table_by, waits_by, open_by}
use Rattle.tk_journal.proofs.Tables.{rows_count}
use Rattle.tk_journal.proofs.Tuning.{wide_by}
use Rattle.tk_coord.specs.Checks.{AreNamed}
use Rattle.tk_coord.specs.declared.round.Round.{Round}
use Rattle.tk_coord.specs.declared.state.State.{State}
use Rattle.tk_coord.specs.declared.step.Reply.{Reply}
use Rattle.tk_coord.specs.declared.step.Reply.TheVariants as reply
use Rattle.tk_coord.specs.Keeping.{HasPlace, CanReply}
use Rattle.tk_coord.specs.State.{kind_in, peer_at, IsRound, Holds}
use Rattle.tk_coord.specs.Steps.{IsReply}
use Rattle.tk_coord.proofs.PeerLemmas.{same_peer}

-- ---- journals that read the same

-- the readings of which something is kept
pub record ReadsAs (a b : List Noted) : Type 0 where
  pub assigns : (mon : ℕ) → assigns_to mon b ≡ assigns_to mon a
  pub members : members_at b ≡ members_at a
  pub answer : (mon : ℕ) → answer_of mon b ≡ answer_of mon a
  pub progress : (mon : ℕ) → progress_of mon b ≡ progress_of mon a
  pub round : last_round b ≡ last_round a
  pub asked : (round mon : ℕ) → asked_of round mon b ≡ asked_of round mon a
  pub values : (round mon : ℕ) → values_of round mon b ≡ values_of round mon a

-- such a journal waits for the same monitors
waits_same : (a b : List Noted) → ReadsAs a b → (mon : ℕ) → waits_for (last_round b) mon b ≡ waits_for (last_round a) mon a
waits_same a b e mon = ap (λ r. waits_for r mon b) e.round ∙ waits_by a b e.asked e.values (last_round a) mon

-- and has the same of each as its report
told_same : (a b : List Noted) → ReadsAs a b → (mon : ℕ) → report_of mon b ≡ report_of mon a
unfolding report_of
told_same a b e mon =
    ap (λ r. if is_some (asked_of r mon b) then values_of r mon b else answered_report mon (answer_of mon b)) e.round
    ∙ ap (λ x. if is_some x then values_of (last_round a) mon b else answered_report mon (answer_of mon b)) (e.asked (last_round a) mon)
    ∙ ap (λ y. if is_some (asked_of (last_round a) mon a) then y else answered_report mon (answer_of mon b)) (e.values (last_round a) mon)
    ∙ ap (λ z. if is_some (asked_of (last_round a) mon a) then values_of (last_round a) mon a else answered_report mon z) (e.answer mon)

-- what such a journal says of one monitor
peer_same : (a b : List Noted) → ReadsAs a b → (mon : ℕ) → peer_at b mon ≡ peer_at a mon
unfolding assigns_sent
peer_same a b e mon =
    same_peer (peer_at b mon) (peer_at a mon) (ap length (e.assigns mon)) (ap kind_in (e.answer mon)) (e.progress mon) (waits_same a b e mon)

-- the round is that of such a journal
round_same : (s : Setup) (a b : List Noted) (round : Round) (gathered : List Reported) → ReadsAs a b → IsRound s a round gathered → IsRound s b round gathered
round_same s a b round gathered e h =
    let same = open_by s a b e.round e.asked e.values in
    record {
      number = h.number ∙ sym e.round;
      waiting = h.waiting ∙ sym same;
      wide = λ is. h.wide (sym same ∙ is) ∙ sym (wide_by s a b e.round e.asked);
      asked = λ mon m w. ap (λ r. asked_of r mon b) e.round ∙ e.asked (last_round a) mon ∙ h.asked mon m (sym (waits_same a b e mon) ∙ w);
      count = h.count;
      told = λ is i r at w. told_same a b e (suc i) ∙ h.told (sym same ∙ is) i r at (sym (waits_same a b e (suc i)) ∙ w);
    }

-- what is kept of a journal is kept of each that reads the same
pub holds_as : (s : Setup) (a b : List Noted) (state : State) → ReadsAs a b → Holds s a state → Holds s b state
holds_as s a b state e h = record {
  members = h.members ∙ sym e.members;
  table = h.table ∙ sym (table_by s a b e.assigns);
  peers = record { count = h.peers.count; each = λ i l is. h.peers.each i l is ∙ sym (peer_same a b e (suc i)) };
  round = round_same s a b state.round state.gathered.items e h.round;
}

-- journals that are the same in all read the same
pub holds_same : (s : Setup) (a b : List Noted) (state : State) → AreSame s a b → Holds s a state → Holds s b state
holds_same s a b state e h =
    let reads : ReadsAs a b = record { assigns = e.assigns; members = e.members; answer = e.answer; progress = e.progress; round = e.round; asked = e.asked; values = e.values } in
    holds_as s a b state reads h

-- ---- room for what is sent

-- each monitor has its places
pub has_place : (s : Setup) (j : List Noted) (state : State) (mon : ℕ) → IsMonitor s mon → Holds s j state → HasPlace state mon
has_place s j state mon m h =
    let high = m.within in
    let peers = h.peers.count in
    let reports = h.round.count in
    record { some = m.from_one; peer = omega (arith, high, peers); report = omega (arith, high, reports) }

-- changes for monitors are changes for their peers
all_named : (monitors count : ℕ) (at : List MonChange) → count ≡ monitors → AreNamed monitors at → AreNamed count at
all_named monitors count at same named = subst (λ n. AreNamed n at) (sym same) named

-- what follows a frame can be noted
pub can_reply : (s : Setup) (j entries : List Noted) (state : State) (r : Reply) → IsReply s j entries r → Holds s j state → CanReply state r
can_reply s j entries state reply.Nothing sent h = tt
can_reply s j entries state (reply.Ask round None) sent h = tt
can_reply s j entries state (reply.Ask round (Some report)) sent h = has_place s j state report.mon.0 (sent.report report refl).0 h
can_reply s j entries state (reply.Assign change) sent h = (
  subst (λ (g : Grid). IsReplacement g change) (sym h.table) sent.fits,
  all_named s.monitors (length state.peers.items) change.at.items h.peers.count sent.named,
  subst (λ n. AreMembers n change.members) (sym (ap (λ (g : Grid). length g.rows) h.table ∙ rows_count s j)) sent.chosen,
)
