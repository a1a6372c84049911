-- The Assigns of a round that has ended: each monitor with changes is sent one more, and no round is open.
use Rattle.std.proofs.Common.{◌≡◌, ◌⊎◌, ℕ, suc, ◌+◌, ◌-◌, ◌^◌, ◌<◌, ◌≤◌, ◌==◌, Bool, false, List, [], ◌∷◌, ◌++◌, length, map, min, refl, sym, ap, ◌∙◌, subst, arith, inl, inr, eq-eqb, ne_eqb, filter}
use Rattle.std.specs.Prelude.{ℤ, slice_index, if◌then◌else◌}
use Rattle.std.specs.List.{All, EachIndex}
use Rattle.std.proofs.lemmas.Bool.{cases_eq, true≢false}
use Rattle.std.proofs.lemmas.List.{append-nil, length-append}
use Rattle.std.proofs.lemmas.List.Elements.{All-tail}
use Rattle.tk_base.specs.Settings.{Setup}
use Rattle.tk_base.specs.Ascending.{IsAscending}
use Rattle.tk_rows.specs.Factors.{Grid}
use Rattle.tk_rows.specs.Replacing.{monitors_of}
use Rattle.tk_rows.specs.declared.mon_change.MonChange.{MonChange}
use Rattle.tk_rows.specs.declared.reallocation.Reallocation.{Reallocation}
use Rattle.tk_frames.specs.Assigns.{Assign}
use Rattle.tk_alloc.specs.Parts.{by_monitor}
use Rattle.tk_alloc.specs.declared.reported.Reported.{Reported}
use Rattle.tk_journal.specs.Readings.{assigns_to, assigns_sent, last_round, asked_of, waits_for, is_open}
use Rattle.tk_journal.specs.declared.noted.Noted.{Noted}
use Rattle.tk_journal.proofs.Pieces.{batch_values, batch_progress}
use Rattle.tk_journal.proofs.Batches.{named, named_assigns, named_answer, unnamed_answer}
use Rattle.tk_journal.proofs.Counting.{named_round, named_asked}
use Rattle.tk_journal.proofs.Same.{waits_by}
use Rattle.tk_journal.proofs.Orderly.{Row, sends, open_named}
use Rattle.tk_coord.specs.declared.peer.Peer.{Peer}
use Rattle.tk_coord.specs.declared.round.Round.{Round}
use Rattle.tk_coord.specs.declared.state.State.{State}
use Rattle.tk_coord.specs.Keeping.{AreChanged, one_more, assigned_at}
use Rattle.tk_coord.specs.State.{kind_in, peer_at, ArePeers, IsRound, Holds}
use Rattle.tk_coord.specs.Steps.{AreAssigned, IsReplaced}
use Rattle.tk_coord.proofs.PeerLemmas.{same_peer}

-- ---- the changes of one monitor

-- the monitors of changes are above a number, each above the one before
abbrev AreAbove : ℕ → List MonChange → Type 0
AreAbove low [] = Unit {0}
AreAbove low (c ∷ at) = (low < c.mon.0) × AreAbove c.mon.0 at

-- monitors that ascend are above each other
are_above : (low : ℕ) (at : List MonChange) → EachIndex (monitors_of at) (λ k. slice_index (low ∷ monitors_of at) k < slice_index (monitors_of at) k) → AreAbove low at
are_above low [] h = tt
are_above low (c ∷ at) h = (h 0 (omega arith), are_above c.mon.0 at (λ k within. h (suc k) (omega (arith, within))))

-- the changes of a monitor: none, and its peer stays
record IsUnnamed (at : List MonChange) (mon : ℕ) : Type 0 where
  none : filter (λ (d : Row). d.0 == mon) (by_monitor at) ≡ []
  same : (l : Peer) → assigned_at mon at l ≡ l

-- or those of one row, and its peer is that of one more Assign
record IsNamed (P : ℕ → Type 0) (at : List MonChange) (mon : ℕ) : Type 0 where
  row : Row
  alone : filter (λ (d : Row). d.0 == mon) (by_monitor at) ≡ row ∷ []
  next : (l : Peer) → assigned_at mon at l ≡ one_more l
  holds : P mon

-- a monitor that is not above the first is not named
below : (low : ℕ) (at : List MonChange) (mon : ℕ) → mon ≤ low → AreAbove low at → IsUnnamed at mon
below low [] mon under h = record { none = refl; same = λ l. refl }
below low (c ∷ at) mon under h =
    let up = h.0 in
    let rest = below c.mon.0 at mon (omega (arith, under, up)) h.1 in
    let other = ne_eqb c.mon.0 mon (λ e. omega (arith, under, up, e)) in
    record {
      none = ap (λ (b : Bool). if b then (c.mon.0, c.changes) ∷ filter (λ (d : Row). d.0 == mon) (by_monitor at) else filter (λ (d : Row). d.0 == mon) (by_monitor at)) other ∙ rest.none;
      same = λ l. ap (λ (b : Bool). assigned_at mon at (if b then one_more l else l)) other ∙ rest.same l;
    }

-- among monitors that ascend one is named once or not at all
named_or_not : (P : ℕ → Type 0) (low : ℕ) (at : List MonChange) (mon : ℕ) → AreAbove low at → All (λ c. P c.mon.0) at → IsUnnamed at mon ⊎ IsNamed P at mon
named_or_not P low [] mon h each = inl (record { none = refl; same = λ l. refl })
named_or_not P low (c ∷ at) mon h each = elim (cases_eq c.mon.0 mon) [
  | inl e ↦
      let here = eq-eqb c.mon.0 mon e in
      let rest = below c.mon.0 at mon (omega (arith, e)) h.1 in
      inr (record {
        row = (c.mon.0, c.changes);
        alone = ap (λ (b : Bool). if b then (c.mon.0, c.changes) ∷ filter (λ (d : Row). d.0 == mon) (by_monitor at) else filter (λ (d : Row). d.0 == mon) (by_monitor at)) here
            ∙ ap (λ (ds : List Row). (c.mon.0, c.changes) ∷ ds) rest.none;
        next = λ l. ap (λ (b : Bool). assigned_at mon at (if b then one_more l else l)) here ∙ rest.same (one_more l);
        holds = subst P e (each 0 c (omega arith));
      })
  | inr ne ↦
      let other = ne_eqb c.mon.0 mon ne in
      elim (named_or_not P c.mon.0 at mon h.1 (All-tail (λ (x : MonChange). P x.mon.0) c at each)) [
        | inl rest ↦ inl (record {
          none = ap (λ (b : Bool). if b then (c.mon.0, c.changes) ∷ filter (λ (d : Row). d.0 == mon) (by_monitor at) else filter (λ (d : Row). d.0 == mon) (by_monitor at)) other ∙ rest.none;
          same = λ l. ap (λ (b : Bool). assigned_at mon at (if b then one_more l else l)) other ∙ rest.same l;
        })
        | inr rest ↦ inr (record {
          row = rest.row;
          alone = ap (λ (b : Bool). if b then (c.mon.0, c.changes) ∷ filter (λ (d : Row). d.0 == mon) (by_monitor at) else filter (λ (d : Row). d.0 == mon) (by_monitor at)) other ∙ rest.alone;
          next = λ l. ap (λ (b : Bool). assigned_at mon at (if b then one_more l else l)) other ∙ rest.next l;
          holds = rest.holds;
        })
      ]
]

-- ---- the readings over the Assigns

-- the monitor of a row
abbrev to : Row → ℕ
to d = d.0

-- the number of the next Assign to the monitor of a row
abbrev seq : List Noted → Row → ℕ
seq j d = assigns_sent d.0 j + 1

-- the changes of a row
abbrev changes : Row → List (ℕ × ℤ)
changes d = d.1

-- Assigns let the last round wait for the same monitors
waits_sent : (j : List Noted) (members : List ℕ) (rows : List Row) (mon : ℕ)
    → waits_for (last_round (j ++ sends j members rows)) mon (j ++ sends j members rows) ≡ waits_for (last_round j) mon j
waits_sent j members rows mon =
    ap (λ r. waits_for r mon (j ++ sends j members rows)) (named_round j to (seq j) members changes rows)
    ∙ waits_by j (j ++ sends j members rows) (λ r q. named_asked r q j to (seq j) members changes rows) (λ r q. batch_values r q j to (named (seq j) members changes) rows) (last_round j) mon

-- and let it ask the same of them
asked_sent : (j : List Noted) (members : List ℕ) (rows : List Row) (mon : ℕ)
    → asked_of (last_round (j ++ sends j members rows)) mon (j ++ sends j members rows) ≡ asked_of (last_round j) mon j
asked_sent j members rows mon =
    ap (λ r. asked_of r mon (j ++ sends j members rows)) (named_round j to (seq j) members changes rows) ∙ named_asked (last_round j) mon j to (seq j) members changes rows

-- the count of a monitor grows by its rows
count_sent : (j : List Noted) (members : List ℕ) (rows : List Row) (mon : ℕ) (found : List Row) → filter (λ (d : Row). d.0 == mon) rows ≡ found
    → assigns_sent mon (j ++ sends j members rows) ≡ length (assigns_to mon j ++ map (λ (d : Row). record { members = members; changes = d.1 }) found)
unfolding assigns_sent
count_sent j members rows mon found is =
    ap length (named_assigns mon j to (seq j) members changes rows ∙ ap (λ (ds : List Row). assigns_to mon j ++ map (λ d. record { members = members; changes = d.1 }) ds) is)

-- a monitor that is sent nothing has the peer that it had
peer_unnamed : (j : List Noted) (members : List ℕ) (rows : List Row) (mon : ℕ) → filter (λ (d : Row). d.0 == mon) rows ≡ [] → peer_at (j ++ sends j members rows) mon ≡ peer_at j mon
unfolding assigns_sent
peer_unnamed j members rows mon none =
    same_peer (peer_at (j ++ sends j members rows) mon) (peer_at j mon)
    (count_sent j members rows mon [] none ∙ ap length (append-nil (assigns_to mon j)))
    (ap kind_in (unnamed_answer mon j to (seq j) members changes rows none))
    (batch_progress mon j to (named (seq j) members changes) rows)
    (waits_sent j members rows mon)

-- a count below its limit is one more
one_counted : (a : ℕ) → a < 2 ^ 64 - 1 → min (a + 1) (2 ^ 64 - 1) ≡ a + 1
one_counted a low = omega (arith, low)

-- a monitor that is sent one Assign has the peer of one more
peer_named : (j : List Noted) (members : List ℕ) (rows : List Row) (mon : ℕ) (row : Row) → filter (λ (d : Row). d.0 == mon) rows ≡ row ∷ [] → assigns_sent mon j < 2 ^ 64 - 1
    → peer_at (j ++ sends j members rows) mon ≡ one_more (peer_at j mon)
unfolding assigns_sent
peer_named j members rows mon row alone room =
    let assign : Assign = record { members = members; changes = row.1 } in
    same_peer (peer_at (j ++ sends j members rows) mon) (one_more (peer_at j mon))
    (count_sent j members rows mon (row ∷ []) alone ∙ length-append (assigns_to mon j) (assign ∷ []) ∙ sym (one_counted (assigns_sent mon j) room))
    (ap kind_in (named_answer mon j to (seq j) members changes rows row [] alone))
    (batch_progress mon j to (named (seq j) members changes) rows)
    (waits_sent j members rows mon)

-- the peer of each monitor over the Assigns
peer_sent : (j : List Noted) (members : List ℕ) (at : List MonChange) (mon : ℕ) → IsUnnamed at mon ⊎ IsNamed (λ q. assigns_sent q j < 2 ^ 64 - 1) at mon
    → peer_at (j ++ sends j members (by_monitor at)) mon ≡ assigned_at mon at (peer_at j mon)
peer_sent j members at mon (inl none) = peer_unnamed j members (by_monitor at) mon none.none ∙ sym (none.same (peer_at j mon))
peer_sent j members at mon (inr one) = peer_named j members (by_monitor at) mon one.row one.alone one.holds ∙ sym (one.next (peer_at j mon))

-- ---- the state

-- the peers after the Assigns
peers_sent : (s : Setup) (j : List Noted) (members : List ℕ) (at : List MonChange) (old new : List Peer) → IsAscending (monitors_of at) → All (λ c. assigns_sent c.mon.0 j < 2 ^ 64 - 1) at
    → length new ≡ length old → AreChanged (λ i l. assigned_at (suc i) at l) old new → ArePeers s j old → ArePeers s (j ++ sends j members (by_monitor at)) new
peers_sent s j members at old new order room count changed h = record {
  count = count ∙ h.count;
  each = λ i l is.
      let before = changed i l is in
      before.2
      ∙ ap (assigned_at (suc i) at) (h.each i before.0 before.1)
      ∙ sym (peer_sent j members at (suc i) (named_or_not (λ q. assigns_sent q j < 2 ^ 64 - 1) 0 at (suc i) (are_above 0 at order) room));
}

-- no round is open over the Assigns
round_sent : (s : Setup) (j : List Noted) (members : List ℕ) (rows : List Row) (round : Round) (gathered : List Reported) → is_open s j ≡ false → IsRound s j round gathered
    → IsRound s (j ++ sends j members rows) round gathered
round_sent s j members rows round gathered closed h =
    let same = open_named s j to (seq j) members changes rows in
    record {
      number = h.number ∙ sym (named_round j to (seq j) members changes rows);
      waiting = h.waiting ∙ sym same;
      wide = λ is. absurd (true≢false (sym is ∙ same ∙ closed));
      asked = λ mon m w. asked_sent j members rows mon ∙ h.asked mon m (sym (waits_sent j members rows mon) ∙ w);
      count = h.count;
      told = λ is i r at w. absurd (true≢false (sym is ∙ same ∙ closed));
    }

-- what the Assigns leave of the state
pub record AreAssignedOf (change : Reallocation) (old new : State) : Type 0 where
  pub members : new.board.members ≡ change.members
  pub table : IsReplaced old.board.table change new.board.table
  pub peers : List Peer
  pub are : new.peers.items ≡ peers
  pub count : length peers ≡ length old.peers.items
  pub each : AreChanged (λ i l. assigned_at (suc i) change.at.items l) old.peers.items peers
  pub round : new.round ≡ old.round
  pub gathered : new.gathered.items ≡ old.gathered.items

-- a state that holds what a journal says holds what it says with the Assigns
pub holds_assigned : (s : Setup) (j entries : List Noted) (change : Reallocation) (old new : State) → AreAssigned s j entries change → AreAssignedOf change old new
    → Holds s j old → Holds s (j ++ entries) new
holds_assigned s j entries change old new a n h =
    let after = j ++ sends j change.members (by_monitor change.at.items) in
    record {
      members = n.members ∙ sym a.members;
      table = a.table new.board.table (subst (λ (g : Grid). IsReplaced g change new.board.table) h.table n.table);
      peers = subst (λ (es : List Noted). ArePeers s (j ++ es) new.peers.items) (sym a.sends)
          (subst (λ (ls : List Peer). ArePeers s after ls) (sym n.are)
          (peers_sent s j change.members change.at.items old.peers.items n.peers a.fits.order a.room n.count n.each h.peers));
      round = subst (λ (es : List Noted). IsRound s (j ++ es) new.round new.gathered.items) (sym a.sends)
          (subst (λ (r : Round). IsRound s after r new.gathered.items) (sym n.round)
          (subst (λ (g : List Reported). IsRound s after old.round g) (sym n.gathered)
          (round_sent s j change.members (by_monitor change.at.items) old.round old.gathered.items a.closed h.round)));
    }
