-- The Collects of a new round: whoever is asked is waited for, and whoever is not has reported.
use Rattle.std.proofs.Common.{◌≡◌, ℕ, suc, ◌-◌, ◌<◌, ◌&&◌, Bool, true, false, not, List, ◌∷◌, ◌++◌, length, Option, Some, None, set, refl, sym, ap, ◌∙◌, subst, arith, inl, inr, eq-eqb, ne_eqb}
use Rattle.std.specs.Prelude.{slice_get, is_some, if◌then◌else◌}
use Rattle.std.proofs.lemmas.Bool.{cases_eq, eqb-true, not-false}
use Rattle.std.proofs.lemmas.List.{length-set}
use Rattle.std.proofs.lemmas.Option.{slice_get_within}
use Rattle.tk_base.specs.Objects.{is_in}
use Rattle.tk_base.specs.Settings.{Setup}
use Rattle.tk_border.proofs.RisingLemmas.{is_in-filter}
use Rattle.tk_frames.specs.declared.frame.Frame.TheVariants as f
use Rattle.tk_alloc.specs.declared.reported.Reported.{Reported}
use Rattle.tk_journal.specs.Laws.{IsMonitor, AreRoundsCounted}
use Rattle.tk_journal.specs.Readings.{monitors, assigns_to, assigns_sent, answer_of, last_round, asked_of, values_of, waits_for, is_open}
use Rattle.tk_journal.specs.Deciding.{report_of, answered_report}
use Rattle.tk_journal.specs.Turns.{collects, is_wide}
use Rattle.tk_journal.specs.declared.noted.Noted.{Noted}
use Rattle.tk_journal.proofs.Pieces.{batch_progress}
use Rattle.tk_journal.proofs.Batches.{plain_answer, plain_assigns, plain_members, collects_round}
use Rattle.tk_journal.proofs.Counting.{AreCounted}
use Rattle.tk_journal.proofs.Same.{table_by}
use Rattle.tk_journal.proofs.Rounding.{is_in_range}
use Rattle.tk_journal.proofs.Sound.{new_values, new_asked}
use Rattle.tk_journal.proofs.AskedLemmas.{some_if}
use Rattle.tk_coord.specs.declared.peer.Peer.{Peer}
use Rattle.tk_coord.specs.declared.round.Round.{Round}
use Rattle.tk_coord.specs.declared.state.State.{State}
use Rattle.tk_coord.specs.Board.{BoardView}
use Rattle.tk_coord.specs.Keeping.{AreChanged, is_but}
use Rattle.tk_coord.specs.State.{kind_in, peer_at, ArePeers, IsRound, Holds}
use Rattle.tk_coord.specs.Steps.{IsAsked, is_opener, asked_mons}
use Rattle.tk_coord.proofs.AskedLemmas.{asked_open}
use Rattle.tk_coord.proofs.ElementLemmas.{read_set}
use Rattle.tk_coord.proofs.PeerLemmas.{same_peer}

-- ---- who is asked

-- a monitor is asked but for the one with whose Report the round begins
asked_one : (s : Setup) (opener : Option Reported) (mon : ℕ) → IsMonitor s mon → is_in (asked_mons s opener) mon ≡ not (is_opener opener mon)
asked_one s opener mon m =
    is_in-filter (λ q. not (is_opener opener q)) (monitors s) mon
    ∙ ap (λ b. b && not (is_opener opener mon)) (is_in_range 1 s.monitors mon m.from_one (let w = m.within in omega (arith, w)))

-- ---- the readings over the Collects

-- the rounds are counted, in the words of lemmas
counted : (s : Setup) (j : List Noted) → AreRoundsCounted s j → AreCounted s j
counted s j c = record { last = c.last; asked = c.asked; values = c.values }

-- the new round waits for those that it asks
new_waits : (s : Setup) (j : List Noted) (round : ℕ) (asked : List ℕ) (mons : List ℕ) (mon : ℕ)
    → AreCounted s j → last_round j < round → waits_for round mon (j ++ collects round asked mons) ≡ is_in mons mon
unfolding waits_for
new_waits s j round asked mons mon c new =
    ap (λ x. is_some x && not (is_some (values_of round mon (j ++ collects round asked mons)))) (new_asked s j round asked mons mon c new)
    ∙ ap (λ y. is_some (if is_in mons mon then Some asked else None) && not (is_some y)) (new_values s j round asked mons mon c new)
    ∙ some_if (is_in mons mon) asked

-- what is known of the Collects
record IsNew (s : Setup) (j : List Noted) (round : ℕ) (asked mons : List ℕ) : Type 0 where
  count : AreCounted s j
  new : last_round j < round
  last : last_round (j ++ collects round asked mons) ≡ round

-- the round of the Collects is a new one
is_new : (s : Setup) (j : List Noted) (round : ℕ) (asked : List ℕ) (mons : List ℕ) (q : ℕ) (rest : List ℕ)
    → mons ≡ q ∷ rest → AreRoundsCounted s j → last_round j < round → IsNew s j round asked mons
is_new s j round asked mons q rest some c new = record {
  count = counted s j c;
  new = new;
  last = ap (λ (ms : List ℕ). last_round (j ++ collects round asked ms)) some ∙ collects_round j round asked q rest;
}

-- the last round waits for those that it asks
waits_now : (s : Setup) (j : List Noted) (round : ℕ) (asked mons : List ℕ) (mon : ℕ) → IsNew s j round asked mons
    → waits_for (last_round (j ++ collects round asked mons)) mon (j ++ collects round asked mons) ≡ is_in mons mon
waits_now s j round asked mons mon k =
    ap (λ r. waits_for r mon (j ++ collects round asked mons)) k.last ∙ new_waits s j round asked mons mon k.count k.new

-- the last round asks those that it is sent to
asked_now : (s : Setup) (j : List Noted) (round : ℕ) (asked mons : List ℕ) (mon : ℕ) → IsNew s j round asked mons
    → asked_of (last_round (j ++ collects round asked mons)) mon (j ++ collects round asked mons) ≡ (if is_in mons mon then Some asked else None)
asked_now s j round asked mons mon k =
    ap (λ r. asked_of r mon (j ++ collects round asked mons)) k.last ∙ new_asked s j round asked mons mon k.count k.new

-- the answers stand
answer_now : (j : List Noted) (round : ℕ) (asked mons : List ℕ) (mon : ℕ) → answer_of mon (j ++ collects round asked mons) ≡ answer_of mon j
answer_now j round asked mons mon = plain_answer mon j (λ m. m) (λ _. f.Collect round asked) mons (λ _. refl)

-- Collects send no Assign
assigns_now : (j : List Noted) (round : ℕ) (asked mons : List ℕ) (mon : ℕ) → assigns_to mon (j ++ collects round asked mons) ≡ assigns_to mon j
assigns_now j round asked mons mon = plain_assigns mon j (λ m. m) (λ _. f.Collect round asked) mons (λ _. refl)

-- and so they leave the counts
sent_now : (j : List Noted) (round : ℕ) (asked mons : List ℕ) (mon : ℕ) → assigns_sent mon (j ++ collects round asked mons) ≡ assigns_sent mon j
unfolding assigns_sent
sent_now j round asked mons mon = ap length (assigns_now j round asked mons mon)

-- a report to the round, of a monitor that it does not ask
report_now : (s : Setup) (j : List Noted) (round : ℕ) (asked mons : List ℕ) (mon : ℕ) → IsNew s j round asked mons → is_in mons mon ≡ false
    → report_of mon (j ++ collects round asked mons) ≡ answered_report mon (answer_of mon j)
unfolding report_of
report_now s j round asked mons mon k none =
    let after = j ++ collects round asked mons in
    ap (λ x. if is_some x then values_of (last_round after) mon after else answered_report mon (answer_of mon after)) (asked_now s j round asked mons mon k)
    ∙ ap (λ (b : Bool). if is_some (if b then Some asked else None) then values_of (last_round after) mon after else answered_report mon (answer_of mon after)) none
    ∙ ap (answered_report mon) (answer_now j round asked mons mon)

-- ---- the peers and the round

-- the peer of a monitor over the Collects: it is waited for, but for the one with whose Report the round begins
peer_asked : (s : Setup) (j : List Noted) (round : ℕ) (asked mons : List ℕ) (mon : ℕ) (opener : Option Reported) → IsNew s j round asked mons → is_in mons mon ≡ not (is_opener opener mon)
    → peer_at (j ++ collects round asked mons) mon ≡ record (peer_at j mon) { waits = not (is_opener opener mon) }
peer_asked s j round asked mons mon opener k is =
    same_peer (peer_at (j ++ collects round asked mons) mon) (record (peer_at j mon) { waits = not (is_opener opener mon) })
    (sent_now j round asked mons mon)
    (ap kind_in (answer_now j round asked mons mon))
    (batch_progress mon j (λ m. m) (λ _. f.Collect round asked) mons)
    (waits_now s j round asked mons mon k ∙ is)

-- the peers over the Collects
peers_asked : (s : Setup) (j : List Noted) (round : ℕ) (asked : List ℕ) (opener : Option Reported) (but : Option ℕ) (old new : List Peer) → IsNew s j round asked (asked_mons s opener)
    → ((i : ℕ) → is_but but i ≡ is_opener opener (suc i)) → length new ≡ length old → AreChanged (λ i l. record l { waits = not (is_but but i) }) old new
    → ArePeers s j old → ArePeers s (j ++ collects round asked (asked_mons s opener)) new
peers_asked s j round asked opener but old new k same count changed h = record {
  count = count ∙ h.count;
  each = λ i l is.
      let before = changed i l is in
      let range : IsMonitor s (suc i) = record { from_one = omega arith; within = (let w = slice_get_within new i l is in let c = h.count in omega (arith, w, c, count)) } in
      before.2
      ∙ ap (λ (m : Peer). record m { waits = not (is_but but i) }) (h.each i before.0 before.1)
      ∙ ap (λ (b : Bool). record (peer_at j (suc i)) { waits = not b }) (same i)
      ∙ sym (peer_asked s j round asked (asked_mons s opener) (suc i) opener k (asked_one s opener (suc i) range));
}

-- the reports, with that of the monitor with which the round begins
abbrev pub with_opener : Option Reported → List Reported → List Reported
with_opener None gathered = gathered
with_opener (Some report) gathered = set gathered (report.mon.0 - 1) report

-- there are as many reports as before
opener_count : (opener : Option Reported) (gathered : List Reported) → length (with_opener opener gathered) ≡ length gathered
opener_count None gathered = refl
opener_count (Some report) gathered = length-set gathered (report.mon.0 - 1) report

-- the monitor with which the round begins has its report in its place
opener_there : (opener : Option Reported) (gathered : List Reported) (i : ℕ) (r : Reported) → is_opener opener (suc i) ≡ true → slice_get (with_opener opener gathered) i ≡ Some r
    → i < length gathered → (suc i ≡ r.mon.0) × (opener ≡ Some r)
opener_there None gathered i r is at within = cc
opener_there (Some report) gathered i r is at within =
    let own : suc i ≡ report.mon.0 = eqb-true (suc i) report.mon.0 is in
    let place : report.mon.0 - 1 < length gathered = omega (arith, own, within) in
    elim (read_set gathered (report.mon.0 - 1) i report r place at) [
      | inl same ↦ (own ∙ ap (λ (x : Reported). x.mon.0) (sym same.1), ap Some (sym same.1))
      | inr other ↦ absurd (other.0 (omega (arith, own)))
    ]

-- what is chosen is asked
is_chosen : (b : Bool) (asked : List ℕ) → b ≡ true → (if b then Some asked else None) ≡ Some asked
is_chosen true asked is = refl
is_chosen false asked is = cc

-- the round that was opened
round_asked : (s : Setup) (j entries : List Noted) (round : Round) (opener : Option Reported) (old : Round) (gathered : List Reported) → IsAsked s j entries round opener
    → IsRound s j old gathered → IsRound s (j ++ collects round.number round.asked (asked_mons s opener)) round (with_opener opener gathered)
round_asked s j entries round opener old gathered a h =
    let mons = asked_mons s opener in
    let after = j ++ collects round.number round.asked mons in
    let k = is_new s j round.number round.asked mons a.some.0 a.some.1 a.some.2 a.counted a.new in
    record {
      number = sym k.last;
      waiting = a.waiting ∙ sym (ap (λ (es : List Noted). is_open s (j ++ es)) (sym a.sends) ∙ asked_open s j entries round opener k.count a);
      wide = λ is. a.wide ∙ ap (λ (es : List Noted). is_wide s (j ++ es)) a.sends;
      asked = λ mon m w.
          asked_now s j round.number round.asked mons mon k ∙ is_chosen (is_in mons mon) round.asked (sym (waits_now s j round.number round.asked mons mon k) ∙ w);
      count = opener_count opener gathered ∙ h.count;
      told = λ is i r at w.
          let within : i < length gathered = (let c = opener_count opener gathered in let l = slice_get_within (with_opener opener gathered) i r at in omega (arith, c, l)) in
          let range : IsMonitor s (suc i) = record { from_one = omega arith; within = (let c = h.count in omega (arith, within, c)) } in
          let none : is_in mons (suc i) ≡ false = sym (waits_now s j round.number round.asked mons (suc i) k) ∙ w in
          let own = opener_there opener gathered i r (not-false (is_opener opener (suc i)) (sym (asked_one s opener (suc i) range) ∙ none)) at within in
          report_now s j round.number round.asked mons (suc i) k none
          ∙ ap (λ q. answered_report q (answer_of q j)) own.0
          ∙ (a.report r own.1).1;
    }

-- what the Collects of a new round leave of the state
pub record IsAskedOf (asks : Round) (opener : Option Reported) (but : Option ℕ) (old new : State) : Type 0 where
  pub board : new.board ≡ old.board
  pub same : (i : ℕ) → is_but but i ≡ is_opener opener (suc i)
  pub peers : List Peer
  pub are : new.peers.items ≡ peers
  pub count : length peers ≡ length old.peers.items
  pub each : AreChanged (λ i l. record l { waits = not (is_but but i) }) old.peers.items peers
  pub round : new.round ≡ asks
  pub gathered : new.gathered.items ≡ with_opener opener old.gathered.items

-- a state that holds what a journal says holds what it says with the Collects
pub holds_asked : (s : Setup) (j entries : List Noted) (round : Round) (opener : Option Reported) (but : Option ℕ) (old new : State)
    → IsAsked s j entries round opener → IsAskedOf round opener but old new
    → Holds s j old → Holds s (j ++ entries) new
holds_asked s j entries round opener but old new a n h =
    let mons = asked_mons s opener in
    let after = j ++ collects round.number round.asked mons in
    let k = is_new s j round.number round.asked mons a.some.0 a.some.1 a.some.2 a.counted a.new in
    subst (λ (es : List Noted). Holds s (j ++ es) new) (sym a.sends) (record {
      members = ap (λ (b : BoardView). b.members) n.board ∙ h.members ∙ sym (plain_members j (λ m. m) (λ _. f.Collect round.number round.asked) mons (λ _. refl));
      table = ap (λ (b : BoardView). b.table) n.board ∙ h.table ∙ sym (table_by s j after (assigns_now j round.number round.asked mons));
      peers = subst (λ (ls : List Peer). ArePeers s after ls) (sym n.are) (peers_asked s j round.number round.asked opener but old.peers.items n.peers k n.same n.count n.each h.peers);
      round = subst (λ (r : Round). IsRound s after r new.gathered.items) (sym n.round)
          (subst (λ (g : List Reported). IsRound s after round g) (sym n.gathered) (round_asked s j entries round opener old.round old.gathered.items a h.round));
    })

-- the place of the monitor with which the round begins
pub but_opener : (report : Reported) (i : ℕ) → 0 < report.mon.0 → is_but (Some (report.mon.0 - 1)) i ≡ is_opener (Some report) (suc i)
but_opener report i some = elim (cases_eq (suc i) report.mon.0) [
  | inl e ↦ eq-eqb (report.mon.0 - 1) i (omega (arith, e)) ∙ sym (eq-eqb (suc i) report.mon.0 e)
  | inr ne ↦ ne_eqb (report.mon.0 - 1) i (λ e. ne (omega (arith, e, some))) ∙ sym (ne_eqb (suc i) report.mon.0 ne)
]
