-- What follows the Values of a monitor: nothing while their round is open, else its end.
use Rattle.std.proofs.Common.{◌≡◌, ◌≢◌, ℕ, suc, Bool, true, false, ◌+◌, ◌-◌, ◌<◌, ℤ, List, [], ◌∷◌, length, drop, map, Option, Some, None, set, refl, sym, ap, ◌∙◌, subst, arith, inl, inr}
use Rattle.std.specs.Prelude.{slice_get, if◌then◌else◌}
use Rattle.std.specs.List.{All, cons_option, filter_map, range_with_len}
use Rattle.std.proofs.lemmas.List.{length-map, length-set}
use Rattle.std.proofs.lemmas.List.FromFn.{length-range_with_len}
use Rattle.std.proofs.lemmas.Option.{slice_get_within}
use Rattle.tk_base.specs.Objects.{objects}
use Rattle.tk_base.specs.Settings.{Setup}
use Rattle.tk_base.specs.declared.ids.Mon.{Mon}
use Rattle.tk_frames.specs.declared.frame.Frame.{Frame}
use Rattle.tk_frames.specs.declared.frame.Frame.TheVariants as f
use Rattle.tk_alloc.specs.Rounds.{AreReports}
use Rattle.tk_alloc.specs.declared.reported.Reported.{Reported}
use Rattle.tk_journal.specs.Deciding.{Decided, full_decides, is_within_limit, report_of, reports_at, wide_decides}
use Rattle.tk_journal.specs.Entries.{IsEntryOf}
use Rattle.tk_journal.specs.Laws.{IsMonitor}
use Rattle.tk_journal.specs.Readings.{in_force, is_open, last_round, table_at, tuned_to, waits_for}
use Rattle.tk_journal.specs.Refusal.{refusal_of}
use Rattle.tk_journal.specs.Turns.{assigns, demanded, full_at, full_end, is_wide, rounds, wide_at, wide_collects, wide_end}
use Rattle.tk_base.specs.History.{last_of}
use Rattle.tk_journal.specs.declared.noted.Noted.{Noted}
use Rattle.tk_journal.proofs.Firm.{got_tuned, got_tunings}
use Rattle.tk_journal.proofs.FirmTurns.{full_at_end, takes_at_end}
use Rattle.tk_journal.proofs.Orderly.{IsEnding, assigns_got}
use Rattle.tk_journal.proofs.Pieces.{got_asked, got_assigns, got_members, got_round}
use Rattle.tk_journal.proofs.Same.{table_by}
use Rattle.tk_journal.proofs.Sound.{round_got}
use Rattle.tk_journal.proofs.Tables.{rows_count, table_size}
use Rattle.tk_journal.proofs.Tuning.{force_closed, force_monitors, force_objects, wide_by}
use Rattle.tk_journal.proofs.Turning.{values_ending, values_open}
use Rattle.tk_journal.proofs.LastLemmas.{open_nothing}
use Rattle.tk_coord.specs.Coordinator.{IsJournal}
use Rattle.tk_coord.specs.Dealing.{CanEndFull, CanEndWide, Ends, IsAssigned, closed}
use Rattle.tk_coord.specs.Grounds.{IsGrounded}
use Rattle.tk_coord.specs.State.{ArePeers, IsRound, Stands, peer_at}
use Rattle.tk_coord.specs.Steps.{Follows, with_got}
use Rattle.tk_coord.specs.declared.peer.Peer.{Peer}
use Rattle.tk_coord.specs.declared.round.Round.{Round}
use Rattle.tk_coord.specs.declared.outcomes.Grounds.{Grounds}
use Rattle.tk_coord.specs.declared.step.TurnOutcome.{TurnOutcome}
use Rattle.tk_coord.specs.declared.step.Reply.TheVariants as reply
use Rattle.tk_coord.proofs.AskedLemmas.{can_ask_again}
use Rattle.tk_coord.proofs.DealtLemmas.{full_deals, wide_deals}
use Rattle.tk_coord.proofs.FollowLemmas.{IsAsLarge, assigned_follows, quiet_follows, wide_follows}
use Rattle.tk_coord.proofs.GroundLemmas.{AreOf, force_large, holds_over, over_fields, taken_at}
use Rattle.tk_coord.proofs.GrowLemmas.{firm_at, limits_at, orderly_at}
use Rattle.tk_coord.proofs.ElementLemmas.{read_set}
use Rattle.tk_coord.proofs.PeerReadings.{peer_place, none_waits}
use Rattle.tk_coord.proofs.DemandLemmas.{values_count, values_demanded, with_values}
use Rattle.tk_coord.proofs.StandLemmas.{ended_between}
use Rattle.tk_coord.proofs.TellLemmas.{values_kept, values_told}

-- ---- Values that leave a round open

-- nothing follows Values while their round waits for more
pub more_follows : (s : Setup) (j : List Noted) (mon : Mon) (number seq : ℕ) (border : ℤ) (values : List (ℕ × ℤ)) (outcome : TurnOutcome)
    → IsJournal s j → IsMonitor s mon.0 → refusal_of s j mon.0 (f.Values number seq border values) ≡ None → is_open s (with_values j mon number seq border values) ≡ true
    → outcome.entries.items ≡ [] → outcome.reply ≡ reply.Nothing → Stands s j outcome.phase → Follows s j mon (f.Values number seq border values) outcome
more_follows s j mon number seq border values outcome journal range none opened empty silent stands =
    let frame = f.Values number seq border values in
    quiet_follows s j mon frame outcome (taken_at s j mon frame journal range none) (opened ∙ sym (values_open s j mon number seq border values range none))
    (values_demanded s j mon number seq border values true opened) (open_nothing s (with_got j mon frame) opened) empty silent stands

-- ---- the reports at the end of a round

-- what is read of each number of a range stands at its place in a list
read_by_places : (h : ℕ → Option Reported) (a : ℕ) (rs : List Reported) → ((i : ℕ) (r : Reported) (q : ℕ) → slice_get rs i ≡ Some r → q ≡ a + i → h q ≡ Some r)
    → rs ≡ filter_map h (range_with_len a (length rs))
read_by_places h a [] each = refl
read_by_places h a (r ∷ rs) each =
    ap (λ xs. r ∷ xs) (read_by_places h (a + 1) rs (λ i x q there is. each (suc i) x q there (omega (arith, is))))
    ∙ ap (λ o. cons_option o (filter_map h (range_with_len (a + 1) (length rs)))) (sym (each 0 r a refl (omega arith)))

-- once the last Values are in their place, what is kept of the reports is what was told to the round
pub reports_are : (s : Setup) (j : List Noted) (peers : List Peer) (round : Round) (gathered reports : List Reported) (mon : Mon) (number seq : ℕ) (border : ℤ) (values : List (ℕ × ℤ))
    → IsJournal s j → ArePeers s j peers → IsRound s j round gathered → IsMonitor s mon.0 → refusal_of s j mon.0 (f.Values number seq border values) ≡ None
    → ((i : ℕ) (l : Peer) → i ≢ mon.0 - 1 → slice_get peers i ≡ Some l → l.waits ≡ false)
    → reports ≡ set gathered (mon.0 - 1) (record { mon = mon; values = values; border = border }) → reports ≡ reports_at s (with_values j mon number seq border values)
unfolding reports_at
reports_are s j peers round gathered reports mon number seq border values journal are_peers kept range none others is =
    let now = with_values j mon number seq border values in
    let report : Reported = record { mon = mon; values = values; border = border } in
    let place = mon.0 - 1 in
    let from = range.from_one in
    let opened = values_open s j mon number seq border values range none in
    let within : place < length gathered = (let w = range.within in let c = kept.count in omega (arith, from, w, c)) in
    let size : length reports ≡ s.monitors = ap length is ∙ length-set gathered place report ∙ kept.count in
    let by_place : (i : ℕ) (r : Reported) → slice_get reports i ≡ Some r → report_of (suc i) now ≡ Some r =
    λ i r there. elim (read_set gathered place i report r within (ap (λ rs. slice_get rs i) (sym is) ∙ there)) [
      | inl here ↦
          let at = here.0 in
          let own : suc i ≡ mon.0 = omega (arith, at, from) in
          ap (λ q. report_of q now) own ∙ values_told s j mon number seq border values none ∙ ap Some (sym here.1)
      | inr other ↦
          let apart = other.0 in
          let below = slice_get_within reports i r there in
          let m : IsMonitor s (suc i) = record { from_one = omega arith; within = omega (arith, below, size) } in
          let quiet : waits_for (last_round j) (suc i) j ≡ false =
          others i (peer_at j (suc i)) apart (ap (slice_get peers) (let e : i ≡ suc i - 1 = omega arith in e) ∙ peer_place s j peers (suc i) are_peers m) in
          values_kept s j mon number seq border values (suc i) (orderly_at s j journal) none opened m quiet ∙ kept.told opened i r other.1 quiet
    ] in
    read_by_places (λ q. report_of q now) 1 reports (λ i r q there e. ap (λ p. report_of p now) (let u : q ≡ suc i = omega (arith, e) in u) ∙ by_place i r there)
    ∙ ap (λ k. filter_map (λ q. report_of q now) (range_with_len 1 k)) size

-- ---- Values that end their round

-- the Values of a monitor
pub record Values : Type 0 where
  pub mon : Mon
  pub round : ℕ
  pub seq : ℕ
  pub border : ℤ
  pub values : List (ℕ × ℤ)

-- as a frame
abbrev pub frame_of : Values → Frame
frame_of v = f.Values v.round v.seq v.border v.values

-- the journal with them
abbrev pub heard : List Noted → Values → List Noted
heard j v = with_got j v.mon (frame_of v)

-- Values that are taken and end their round, wide or not, over the fields that rounds are dealt over, with the reports to it
pub record AreLast (s : Setup) (j : List Noted) (g : Grounds) (v : Values) (reports : List Reported) (wide : Bool) : Type 0 where
  pub grounds : IsGrounded s j g
  pub range : IsMonitor s v.mon.0
  pub accepted : refusal_of s j v.mon.0 (frame_of v) ≡ None
  pub closed : is_open s (heard j v) ≡ false
  pub told : reports ≡ reports_at s (heard j v)
  pub wide_is : wide ≡ is_wide s (heard j v)

-- Values are the last of a round where no other peer waits
pub last_values : (s : Setup) (j : List Noted) (g : Grounds) (v : Values) (reports : List Reported) (peers : List Peer) (round : Round) (gathered : List Reported) → IsGrounded s j g → ArePeers s j peers
    → IsRound s j round gathered → IsMonitor s v.mon.0 → refusal_of s j v.mon.0 (frame_of v) ≡ None → ((i : ℕ) (l : Peer) → i ≢ v.mon.0 - 1 → slice_get peers i ≡ Some l → l.waits ≡ false)
    → reports ≡ set gathered (v.mon.0 - 1) (record { mon = v.mon; values = v.values; border = v.border }) → AreLast s j g v reports round.wide
last_values s j g v reports peers round gathered h are_peers kept range none others is = record {
  grounds = h;
  range = range;
  accepted = none;
  closed = none_waits s j peers v.mon v.round v.seq v.border v.values are_peers range none others;
  told = reports_are s j peers round gathered reports v.mon v.round v.seq v.border v.values h.journal are_peers kept range none others is;
  wide_is = kept.wide (values_open s j v.mon v.round v.seq v.border v.values range none)
      ∙ sym (wide_by s j (heard j v) (got_round j v.mon (frame_of v)) (λ r q. got_asked r q j v.mon (frame_of v)));
}

-- ---- the fields after them

-- with the next settings the fields are those over the journal with the Values
pub fields_after : (s : Setup) (j : List Noted) (g : Grounds) (v : Values) (reports : List Reported) (wide : Bool) → AreLast s j g v reports wide
    → AreOf s (heard j v) g.phase.next g.board.now.table g.board.now.members
fields_after s j g v reports wide l =
    let frame = frame_of v in
    let now = heard j v in
    let firm = firm_at s j l.grounds.journal in
    record {
      force = l.grounds.stands.next ∙ sym (ap (λ ts. tuned_to s (last_of ts)) (got_tunings j v.mon frame)) ∙ sym (force_closed s now l.closed (got_tuned s j v.mon frame firm.tuned));
      dealt = l.grounds.dealt ∙ sym (table_by s j now (λ q. got_assigns q j v.mon frame));
      named = l.grounds.named ∙ sym (got_members j v.mon frame);
    }

-- they have the sizes that the coordinator was made with
next_large : (s : Setup) (j : List Noted) (g : Grounds) (v : Values) (reports : List Reported) (wide : Bool) → AreLast s j g v reports wide → IsAsLarge g.phase.next s
next_large s j g v reports wide l = force_large s (heard j v) g.phase.next (fields_after s j g v reports wide l).force

-- ---- the calls that end the round

-- where all monitors have reported, some have
some_told : (s : Setup) (reports : List Reported) → 0 < s.monitors → map (λ (r : Reported). r.mon.0) reports ≡ range_with_len 1 s.monitors → 0 < length reports
some_told s reports some all =
    let a = length-map reports (λ (r : Reported). r.mon.0) in let b = ap length all in let c = length-range_with_len 1 s.monitors in omega (arith, a, b, c, some)

-- every monitor has reported
all_told : (s : Setup) (j : List Noted) (g : Grounds) (v : Values) (reports : List Reported) (wide : Bool) → AreLast s j g v reports wide → IsEnding s (heard j v) reports
all_told s j g v reports wide l =
    subst (IsEnding s (heard j v)) (sym l.told) (values_ending s j v.mon v.round v.seq v.border v.values l.range l.accepted (orderly_at s j l.grounds.journal) l.closed)

-- the end of a full round can be dealt
pub can_end_full : (s : Setup) (j : List Noted) (g : Grounds) (v : Values) (reports : List Reported) (wide : Bool) → AreLast s j g v reports wide → wide ≡ false
    → CanEndFull g.phase.next g.board.now.table g.board.now.members g.peers.now reports
can_end_full s j g v reports wide l full =
    let now = heard j v in
    let journal = l.grounds.journal in
    let opened = values_open s j v.mon v.round v.seq v.border v.values l.range l.accepted in
    let begins = full_at_end s j v.mon (frame_of v) (limits_at s j journal) l.range l.accepted (orderly_at s j journal) (firm_at s j journal) l.closed opened (sym l.wide_is ∙ full) reports l.told
    (all_told s j g v reports wide l) in
    let called = begins.called in
    holds_over (λ x t ms. CanEndFull x t ms g.peers.now reports) s now g.phase.next g.board.now.table g.board.now.members (fields_after s j g v reports wide l) (record {
      ready = called.ready;
      order = record { order = called.order; values = λ k d below. (called.take k d below).values };
      take = called.take;
      count = l.grounds.are_peers.count ∙ sym (force_monitors s now);
    })

-- the end of a wide round can be dealt
pub can_end_wide : (s : Setup) (j : List Noted) (g : Grounds) (v : Values) (reports : List Reported) (wide : Bool) → AreLast s j g v reports wide → wide ≡ true
    → CanEndWide g.phase.next g.board.now.table g.peers.now reports
can_end_wide s j g v reports wide l whole =
    let frame = frame_of v in
    let now = heard j v in
    let journal = l.grounds.journal in
    let opened = values_open s j v.mon v.round v.seq v.border v.values l.range l.accepted in
    let had = (firm_at s j journal).round opened in
    let over = round_got s j had.0 v.mon frame l.range l.accepted opened (orderly_at s j journal).openers had.1 in
    let all : had.0 ≡ objects (in_force s now).objects = over.wide (sym l.wide_is ∙ whole) ∙ ap objects (sym (force_objects s now)) in
    let takes = takes_at_end s j v.mon frame had.0 reports l.told over in
    let ending = all_told s j g v reports wide l in
    holds_over (λ x t ms. CanEndWide x t g.peers.now reports) s now g.phase.next g.board.now.table g.board.now.members (fields_after s j g v reports wide l) (record {
      size = record { objects = rows_count s now ∙ sym (force_objects s now); monitors = table_size s now ∙ sym (force_monitors s now) };
      order = subst (λ os. AreReports (in_force s now).monitors os reports) all
          (record { order = ending.all ∙ ap (range_with_len 1) (sym (force_monitors s now)); values = λ k d below. (takes k d below).values });
      count = l.grounds.are_peers.count ∙ sym (force_monitors s now);
    })

-- ---- what follows the end of the round

-- Assigns follow it
assigns_end : (s : Setup) (j : List Noted) (g : Grounds) (v : Values) (reports : List Reported) (wide : Bool) (decided : Decided) (outcome : TurnOutcome) → AreLast s j g v reports wide
    → IsAssigned (table_at s j) g.peers.now (closed g.phase) decided outcome → demanded s j v.mon.0 (frame_of v) ≡ assigns (heard j v) decided → 0 < length (drop 1 decided.dealt)
    → All (IsEntryOf s.monitors s.objects) outcome.entries.items → Follows s j v.mon (frame_of v) outcome
assigns_end s j g v reports wide decided outcome l assigned demands some range =
    let taken = taken_at s j v.mon (frame_of v) l.grounds.journal l.range l.accepted in
    assigned_follows s j v.mon (frame_of v) decided g.peers.now (closed g.phase) outcome taken l.grounds.are_peers assigned (demands ∙ sym (assigns_got j v.mon (frame_of v) decided)) l.closed some range
    (ended_between s j v.mon (frame_of v) g.phase taken l.closed l.grounds.stands) (l.grounds.stands.stopped ∙ taken.going)

-- some reports were told to it
some_at : (s : Setup) (j : List Noted) (g : Grounds) (v : Values) (reports : List Reported) (wide : Bool) → AreLast s j g v reports wide → 0 < length (reports_at s (heard j v))
some_at s j g v reports wide l =
    subst (λ (rs : List Reported). 0 < length rs) l.told (some_told s reports (limits_at s j l.grounds.journal).some_monitor (all_told s j g v reports wide l).all)

-- the end of a wide round sends its Assigns
wide_end_follows : (s : Setup) (j : List Noted) (g : Grounds) (v : Values) (reports : List Reported) (wide : Bool) (outcome : TurnOutcome) → AreLast s j g v reports wide → wide ≡ true
    → IsAssigned g.board.now.table g.peers.now (closed g.phase) (wide_decides g.phase.next g.board.now.table g.board.now.members reports) outcome
    → All (IsEntryOf s.monitors s.objects) outcome.entries.items → Follows s j v.mon (frame_of v) outcome
wide_end_follows s j g v reports wide outcome l whole assigned =
    let now = heard j v in
    let told = reports_at s now in
    let decided = wide_at s now told in
    let same : wide_decides g.phase.next g.board.now.table g.board.now.members reports ≡ decided =
    over_fields (λ x t ms. wide_decides x t ms reports) s now g.phase.next g.board.now.table g.board.now.members (fields_after s j g v reports wide l) ∙ ap (wide_at s now) l.told in
    assigns_end s j g v reports wide decided outcome l
    (subst (λ t. IsAssigned t g.peers.now (closed g.phase) decided outcome) l.grounds.dealt (subst (λ d. IsAssigned g.board.now.table g.peers.now (closed g.phase) d outcome) same assigned))
    (values_demanded s j v.mon v.round v.seq v.border v.values false l.closed ∙ ap (λ b. if b then wide_end s now told else full_end s now (rounds s now + 1) told) (sym l.wide_is ∙ whole))
    (wide_deals s now told (some_at s j g v reports wide l))

-- the end of a full round, by whether each new factor is within its limit
full_end_as : (s : Setup) (j : List Noted) (g : Grounds) (v : Values) (reports : List Reported) (wide : Bool) (outcome : TurnOutcome) (within : Bool) → AreLast s j g v reports wide → wide ≡ false
    → is_within_limit (full_at s (heard j v) (reports_at s (heard j v))) ≡ within
    → Ends (table_at s j) g.peers.now (closed g.phase) g.rounds (full_at s (heard j v) (reports_at s (heard j v))) outcome
    → All (IsEntryOf s.monitors s.objects) outcome.entries.items → Follows s j v.mon (frame_of v) outcome
full_end_as s j g v reports wide outcome true l full within ends range =
    let now = heard j v in
    let told = reports_at s now in
    let decided = full_at s now told in
    assigns_end s j g v reports wide decided outcome l (ends.within within)
    (values_demanded s j v.mon v.round v.seq v.border v.values false l.closed
    ∙ ap (λ b. if b then wide_end s now told else full_end s now (rounds s now + 1) told) (sym l.wide_is ∙ full)
    ∙ ap (λ b. if b then assigns now decided else wide_collects s (rounds s now + 1)) within)
    (full_deals s now told (some_at s j g v reports wide l)) range
full_end_as s j g v reports wide outcome false l full past ends range =
    let frame = frame_of v in
    let now = heard j v in
    let taken = taken_at s j v.mon frame l.grounds.journal l.range l.accepted in
    let told = reports_at s now in
    let count : g.rounds ≡ rounds s now = l.grounds.counted ∙ sym (values_count s j v.mon v.round v.seq v.border v.values) in
    wide_follows s j v.mon frame (closed g.phase) g.rounds (rounds s now) outcome taken (ends.past past) (next_large s j g v reports wide l)
    (values_demanded s j v.mon v.round v.seq v.border v.values false l.closed
    ∙ ap (λ b. if b then wide_end s now told else full_end s now (rounds s now + 1) told) (sym l.wide_is ∙ full)
    ∙ ap (λ b. if b then assigns now (full_at s now told) else wide_collects s (rounds s now + 1)) past
    ∙ ap (λ k. wide_collects s (k + 1)) (sym count))
    (can_ask_again s j v.mon frame taken.order l.accepted l.closed) (omega (arith, count)) range
    (ended_between s j v.mon frame g.phase taken l.closed l.grounds.stands) (l.grounds.stands.stopped ∙ taken.going)

-- what a full round decides by the fields is what it decides over the journal
pub full_same : (s : Setup) (j : List Noted) (g : Grounds) (v : Values) (reports : List Reported) (wide : Bool) → AreLast s j g v reports wide
    → full_decides g.phase.next g.board.now.table g.board.now.members reports ≡ full_at s (heard j v) (reports_at s (heard j v))
full_same s j g v reports wide l =
    over_fields (λ x t ms. full_decides x t ms reports) s (heard j v) g.phase.next g.board.now.table g.board.now.members (fields_after s j g v reports wide l) ∙ ap (full_at s (heard j v)) l.told

-- the end of a full round sends its Assigns, or opens a wide round where a factor is past its limit
full_end_follows : (s : Setup) (j : List Noted) (g : Grounds) (v : Values) (reports : List Reported) (wide : Bool) (outcome : TurnOutcome) → AreLast s j g v reports wide → wide ≡ false
    → Ends g.board.now.table g.peers.now (closed g.phase) g.rounds (full_decides g.phase.next g.board.now.table g.board.now.members reports) outcome
    → All (IsEntryOf s.monitors s.objects) outcome.entries.items → Follows s j v.mon (frame_of v) outcome
full_end_follows s j g v reports wide outcome l full ends =
    let now = heard j v in
    let decided = full_at s now (reports_at s now) in
    full_end_as s j g v reports wide outcome (is_within_limit decided) l full refl
    (subst (λ t. Ends t g.peers.now (closed g.phase) g.rounds decided outcome) l.grounds.dealt
    (subst (λ d. Ends g.board.now.table g.peers.now (closed g.phase) g.rounds d outcome) (full_same s j g v reports wide l) ends))

-- what is sent at its end is sent to monitors, by the next settings
range_by : (s setup : Setup) (entries : List Noted) → IsAsLarge setup s → ((k : ℕ) → All (IsEntryOf setup.monitors k) entries) → All (IsEntryOf s.monitors s.objects) entries
range_by s setup entries large each = subst (λ m. All (IsEntryOf m s.objects) entries) large.monitors (each s.objects)

-- the end of the round, wide or full
end_as : (s : Setup) (j : List Noted) (g : Grounds) (v : Values) (reports : List Reported) (wide : Bool) (outcome : TurnOutcome) → AreLast s j g v reports wide
    → (wide ≡ true → IsAssigned g.board.now.table g.peers.now (closed g.phase) (wide_decides g.phase.next g.board.now.table g.board.now.members reports) outcome)
    → (wide ≡ false → Ends g.board.now.table g.peers.now (closed g.phase) g.rounds (full_decides g.phase.next g.board.now.table g.board.now.members reports) outcome)
    → All (IsEntryOf s.monitors s.objects) outcome.entries.items → Follows s j v.mon (frame_of v) outcome
end_as s j g v reports true outcome l all some = wide_end_follows s j g v reports true outcome l refl (all refl)
end_as s j g v reports false outcome l all some = full_end_follows s j g v reports false outcome l refl (some refl)

-- what follows the end of the round, as the call that ends it tells
pub end_follows : (s : Setup) (j : List Noted) (g : Grounds) (v : Values) (reports : List Reported) (wide : Bool) (outcome : TurnOutcome) → AreLast s j g v reports wide
    → (wide ≡ true → IsAssigned g.board.now.table g.peers.now (closed g.phase) (wide_decides g.phase.next g.board.now.table g.board.now.members reports) outcome)
    → (wide ≡ false → Ends g.board.now.table g.peers.now (closed g.phase) g.rounds (full_decides g.phase.next g.board.now.table g.board.now.members reports) outcome)
    → ((k : ℕ) → All (IsEntryOf g.phase.next.monitors k) outcome.entries.items) → Follows s j v.mon (frame_of v) outcome
end_follows s j g v reports wide outcome l all some range =
    end_as s j g v reports wide outcome l all some (range_by s g.phase.next outcome.entries.items (next_large s j g v reports wide l) range)
