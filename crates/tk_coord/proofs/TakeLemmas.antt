-- A taken frame: what it tells is what is kept then.
use Rattle.std.proofs.Common.{◌≡◌, ◌≢◌, ◌⊎◌, ℕ, suc, ◌-◌, ◌<◌, ◌≤◌, Bool, true, false, List, length, Option, Some, None, set, refl, sym, ap, ◌∙◌, subst, arith, inl, inr}
use Rattle.std.specs.Prelude.{slice_get}
use Rattle.std.proofs.lemmas.Bool.{cases_eq}
use Rattle.std.proofs.lemmas.List.{length-set}
use Rattle.std.proofs.lemmas.Option.{slice_get_within}
use Rattle.tk_base.specs.Settings.{Setup}
use Rattle.tk_base.specs.declared.ids.Mon.{Mon}
use Rattle.tk_frames.specs.declared.frame.Frame.{Frame}
use Rattle.tk_alloc.specs.declared.reported.Reported.{Reported}
use Rattle.tk_journal.specs.Laws.{IsMonitor}
use Rattle.tk_journal.specs.Readings.{last_round, asked_of, waits_for, is_open}
use Rattle.tk_journal.specs.Deciding.{report_of}
use Rattle.tk_journal.specs.declared.noted.Noted.{Noted}
use Rattle.tk_journal.proofs.Pieces.{got_assigns, got_members, got_round, got_asked}
use Rattle.tk_journal.proofs.Same.{table_by}
use Rattle.tk_journal.proofs.Rounding.{open_got}
use Rattle.tk_journal.proofs.Tuning.{wide_by}
use Rattle.tk_coord.specs.declared.peer.Peer.{Peer}
use Rattle.tk_coord.specs.declared.round.Round.{Round}
use Rattle.tk_coord.specs.declared.state.State.{State}
use Rattle.tk_coord.specs.declared.step.Statement.{Statement}
use Rattle.tk_coord.specs.declared.step.Statement.TheVariants as stated
use Rattle.tk_coord.specs.Board.{BoardView}
use Rattle.tk_coord.specs.State.{peer_at, ArePeers, IsRound, Holds}
use Rattle.tk_coord.specs.Steps.{Tells, told_at, values_in, open_after, with_got}
use Rattle.tk_coord.proofs.ElementLemmas.{read_set}

-- the reports after one monitor has told its values, if it has
abbrev pub gathered_after : ℕ → Option Reported → List Reported → List Reported
gathered_after place None gathered = gathered
gathered_after place (Some report) gathered = set gathered place report

-- what a monitor tells does not make a round wait for it
waits_less : (t : Statement) (peer : Peer) → (told_at t peer).waits ≡ true → peer.waits ≡ true
waits_less stated.Nothing peer h = h
waits_less stated.Report peer h = h
waits_less (stated.Settled progress) peer h = h
waits_less (stated.Values report) peer h = cc
waits_less stated.LastValues peer h = cc

-- while a round is open, only its values end the waiting
waits_kept : (t : Statement) (peer : Peer) (was : Bool) → open_after t was ≡ true → values_in t ≡ None → (told_at t peer).waits ≡ peer.waits
waits_kept stated.Nothing peer was opened none = refl
waits_kept stated.Report peer was opened none = refl
waits_kept (stated.Settled progress) peer was opened none = refl
waits_kept (stated.Values report) peer was opened none = cc
waits_kept stated.LastValues peer was opened none = cc

-- the peers after a frame
peers_got : (s : Setup) (j : List Noted) (mon : Mon) (frame : Frame) (t : Statement) (peers : List Peer) (l m : Peer) → Tells s j mon frame t → 0 < mon.0
    → slice_get peers (mon.0 - 1) ≡ Some l → m ≡ told_at t l → ArePeers s j peers → ArePeers s (with_got j mon frame) (set peers (mon.0 - 1) m)
peers_got s j mon frame t peers l m tells some at new h =
    let within = slice_get_within peers (mon.0 - 1) l at in
    let here : suc (mon.0 - 1) ≡ mon.0 = omega (arith, some) in
    record {
      count = length-set peers (mon.0 - 1) m ∙ h.count;
      each = λ i x is. elim (read_set peers (mon.0 - 1) i m x within is) [
        | inl same ↦
            let own : suc i ≡ mon.0 = ap suc same.0 ∙ here in
            same.1 ∙ new ∙ ap (told_at t) (h.each (mon.0 - 1) l at ∙ ap (peer_at j) here) ∙ sym tells.peer ∙ ap (peer_at (with_got j mon frame)) (sym own)
        | inr other ↦ h.each i x other.1 ∙ sym (tells.others (suc i) (λ e. other.0 (omega (arith, e))))
      ];
    }

-- a round that waits after a frame has waited before it
waited : (s : Setup) (j : List Noted) (mon : Mon) (frame : Frame) (t : Statement) (q : ℕ) → Tells s j mon frame t
    → waits_for (last_round (with_got j mon frame)) q (with_got j mon frame) ≡ true → waits_for (last_round j) q j ≡ true
waited s j mon frame t q tells h = elim (cases_eq q mon.0) [
  | inl own ↦
      let e : peer_at (with_got j mon frame) q ≡ told_at t (peer_at j q) = ap (peer_at (with_got j mon frame)) own ∙ tells.peer ∙ ap (λ k. told_at t (peer_at j k)) (sym own) in
      waits_less t (peer_at j q) (sym (ap (λ (l : Peer). l.waits) e) ∙ h)
  | inr other ↦ sym (ap (λ (l : Peer). l.waits) (tells.others q other)) ∙ h
]

-- whoever told no values is waited for as before
not_waited : (s : Setup) (j : List Noted) (mon : Mon) (frame : Frame) (t : Statement) (q : ℕ) → Tells s j mon frame t → is_open s (with_got j mon frame) ≡ true → (values_in t ≡ None) ⊎ (q ≢ mon.0)
    → waits_for (last_round (with_got j mon frame)) q (with_got j mon frame) ≡ waits_for (last_round j) q j
not_waited s j mon frame t q tells is (inl none) = elim (cases_eq q mon.0) [
  | inl own ↦
      let e : peer_at (with_got j mon frame) q ≡ told_at t (peer_at j q) = ap (peer_at (with_got j mon frame)) own ∙ tells.peer ∙ ap (λ k. told_at t (peer_at j k)) (sym own) in
      ap (λ (l : Peer). l.waits) e ∙ waits_kept t (peer_at j q) (is_open s j) (sym tells.waiting ∙ is) none
  | inr other ↦ ap (λ (l : Peer). l.waits) (tells.others q other)
]
not_waited s j mon frame t q tells is (inr other) = ap (λ (l : Peer). l.waits) (tells.others q other)

-- what was told before the frame stands
report_kept : (s : Setup) (j : List Noted) (mon : Mon) (frame : Frame) (t : Statement) (round : Round) (gathered : List Reported) (i : ℕ) (r : Reported)
    → Tells s j mon frame t → IsRound s j round gathered
    → is_open s (with_got j mon frame) ≡ true → (values_in t ≡ None) ⊎ (suc i ≢ mon.0) → slice_get gathered i ≡ Some r
    → waits_for (last_round (with_got j mon frame)) (suc i) (with_got j mon frame) ≡ false → report_of (suc i) (with_got j mon frame) ≡ Some r
report_kept s j mon frame t round gathered i r tells h is apart at w =
    let was = open_got s j mon frame is in
    let before : waits_for (last_round j) (suc i) j ≡ false = sym (not_waited s j mon frame t (suc i) tells is apart) ∙ w in
    let range : IsMonitor s (suc i) = record { from_one = omega arith; within = (let k = slice_get_within gathered i r at in let c = h.count in omega (arith, k, c)) } in
    tells.kept was (suc i) range apart before ∙ h.told was i r at before

-- what is gathered after the frame was told
told_got : (s : Setup) (j : List Noted) (mon : Mon) (frame : Frame) (t : Statement) (round : Round) (gathered : List Reported) (v : Option Reported) (i : ℕ) (r : Reported)
    → Tells s j mon frame t → IsRound s j round gathered
    → 0 < mon.0 → mon.0 ≤ length gathered → values_in t ≡ v → is_open s (with_got j mon frame) ≡ true → slice_get (gathered_after (mon.0 - 1) v gathered) i ≡ Some r
    → waits_for (last_round (with_got j mon frame)) (suc i) (with_got j mon frame) ≡ false → report_of (suc i) (with_got j mon frame) ≡ Some r
told_got s j mon frame t round gathered None i r tells h some place values is at w = report_kept s j mon frame t round gathered i r tells h is (inl values) at w
told_got s j mon frame t round gathered (Some v) i r tells h some place values is at w =
    elim (read_set gathered (mon.0 - 1) i v r (omega (arith, some, place)) at) [
      | inl same ↦
          let own : suc i ≡ mon.0 = (let e = same.0 in omega (arith, e, some)) in
          ap (λ q. report_of q (with_got j mon frame)) own ∙ tells.report v values ∙ ap Some (sym same.1)
      | inr other ↦ report_kept s j mon frame t round gathered i r tells h is (inr (λ e. other.0 (omega (arith, e)))) other.1 w
    ]

-- there are as many reports as before
gathered_count : (place : ℕ) (v : Option Reported) (gathered : List Reported) → length (gathered_after place v gathered) ≡ length gathered
gathered_count place None gathered = refl
gathered_count place (Some r) gathered = length-set gathered place r

-- the round after a frame
round_got : (s : Setup) (j : List Noted) (mon : Mon) (frame : Frame) (t : Statement) (round : Round) (gathered : List Reported) (v : Option Reported) → Tells s j mon frame t
    → 0 < mon.0 → mon.0 ≤ length gathered
    → values_in t ≡ v → IsRound s j round gathered → IsRound s (with_got j mon frame) (record round { waiting = open_after t round.waiting }) (gathered_after (mon.0 - 1) v gathered)
round_got s j mon frame t round gathered v tells some place values h =
    let after = with_got j mon frame in
    record {
      number = h.number ∙ sym (got_round j mon frame);
      waiting = ap (open_after t) h.waiting ∙ sym tells.waiting;
      wide = λ is. h.wide (open_got s j mon frame is) ∙ sym (wide_by s j after (got_round j mon frame) (λ r q. got_asked r q j mon frame));
      asked = λ q m w. ap (λ k. asked_of k q after) (got_round j mon frame) ∙ got_asked (last_round j) q j mon frame ∙ h.asked q m (waited s j mon frame t q tells w);
      count = gathered_count (mon.0 - 1) v gathered ∙ h.count;
      told = λ is i r at w. told_got s j mon frame t round gathered v i r tells h some place values is at w;
    }

-- what a taken frame leaves of the state
pub record IsTold (mon : Mon) (t : Statement) (old new : State) : Type 0 where
  pub board : new.board ≡ old.board
  pub peer : Peer
  pub was : slice_get old.peers.items (mon.0 - 1) ≡ Some peer
  pub now : Peer
  pub tells : now ≡ told_at t peer
  pub peers : new.peers.items ≡ set old.peers.items (mon.0 - 1) now
  pub round : new.round ≡ record old.round { waiting = open_after t old.round.waiting }
  pub values : Option Reported
  pub are : values_in t ≡ values
  pub gathered : new.gathered.items ≡ gathered_after (mon.0 - 1) values old.gathered.items

-- a state that holds what a journal says holds what it says with one more frame
pub holds_got : (s : Setup) (j : List Noted) (mon : Mon) (frame : Frame) (t : Statement) (old new : State)
    → Tells s j mon frame t → 0 < mon.0 → mon.0 ≤ length old.gathered.items → IsTold mon t old new
    → Holds s j old → Holds s (with_got j mon frame) new
holds_got s j mon frame t old new tells some place k h =
    let after = with_got j mon frame in
    record {
      members = ap (λ (b : BoardView). b.members) k.board ∙ h.members ∙ sym (got_members j mon frame);
      table = ap (λ (b : BoardView). b.table) k.board ∙ h.table ∙ sym (table_by s j after (λ q. got_assigns q j mon frame));
      peers = subst (λ (ls : List Peer). ArePeers s after ls) (sym k.peers) (peers_got s j mon frame t old.peers.items k.peer k.now tells some k.was k.tells h.peers);
      round = subst (λ (r : Round). IsRound s after r new.gathered.items) (sym k.round)
          (subst (λ (g : List Reported). IsRound s after (record old.round { waiting = open_after t old.round.waiting }) g) (sym k.gathered)
          (round_got s j mon frame t old.round old.gathered.items k.values tells some place k.are h.round));
    }
