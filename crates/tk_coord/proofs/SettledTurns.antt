-- What follows a Settled, a stale Report, and a Report while a round is open.
use Rattle.std.proofs.Common.{◌≡◌, ◌≢◌, ◌⊎◌, ℕ, suc, zero, Bool, true, false, not, ◌+◌, ◌-◌, ◌≤◌, ◌<◌, ◌&&◌, ◌||◌, ℤ, List, [], ◌∷◌, length, map, Option, Some, None, refl, sym, ap, ◌∙◌, subst, arith, inl, inr}
use Rattle.std.specs.Prelude.{nat_lt, is_some, slice_get, unwrap_or, filter_map, fold, if◌then◌else◌}
use Rattle.std.specs.List.{All, cons_option, list_all, range_with_len}
use Rattle.std.proofs.lemmas.Option.{slice_get_within}
use Rattle.std.proofs.lemmas.Bool.{eq-eqb, ne_eqb, ltb-false, ltb-true, cases_eq}
use Rattle.tk_base.specs.Settings.{Setup}
use Rattle.tk_base.specs.declared.ids.Mon.{Mon}
use Rattle.tk_frames.specs.declared.frame.Frame.{Frame}
use Rattle.tk_frames.specs.declared.frame.Frame.TheVariants as f
use Rattle.tk_base.specs.History.{last_of}
use Rattle.tk_journal.specs.Entries.{IsEntryOf}
use Rattle.tk_journal.specs.Laws.{IsMonitor}
use Rattle.tk_journal.specs.Readings.{Progress, assigns_sent, settled_in, settled_of, is_open, is_calm, in_force, members_at, is_stopped}
use Rattle.tk_journal.specs.Turns.{demanded}
use Rattle.tk_journal.specs.Refusal.{refusal_of, refusal_of_cut, shown_by}
use Rattle.tk_journal.specs.Publishing.{publications, settled_at, differs, is_due, closing, stops}
use Rattle.tk_journal.specs.declared.noted.Noted.{Noted}
use Rattle.tk_journal.specs.declared.noted.Noted.TheVariants as n
use Rattle.tk_journal.specs.declared.publication.Publication.{Publication}
use Rattle.tk_journal.proofs.Accepted.{accepted_answer, accepted_kind}
use Rattle.tk_journal.proofs.Pieces.{got_members}
use Rattle.tk_journal.proofs.Firm.{open_force}
use Rattle.tk_journal.proofs.Published.{none_more}
use Rattle.tk_journal.proofs.Same.{AreSame, open_same}
use Rattle.tk_journal.proofs.StandLemmas.{nothing_stays_due, open_not_calm}
use Rattle.tk_journal.proofs.Tuning.{force_monitors}
use Rattle.tk_coord.specs.declared.peer.Peer.{Peer}
use Rattle.tk_coord.specs.declared.phase.Phase.{Phase}
use Rattle.tk_coord.specs.declared.step.TurnOutcome.{TurnOutcome}
use Rattle.tk_coord.specs.declared.step.Reply.TheVariants as reply
use Rattle.tk_coord.specs.Closing.{settled_by, said_at, said_by, are_last, closing_by}
use Rattle.tk_coord.specs.Coordinator.{IsJournal}
use Rattle.tk_coord.specs.State.{ArePeers, Stands, peer_at}
use Rattle.tk_coord.specs.Steps.{Follows, with_got}
use Rattle.tk_journal.proofs.SoundLemmas.{all_of_range}
use Rattle.tk_journal.proofs.LastLemmas.{open_nothing}
use Rattle.tk_coord.proofs.ClosingLemmas.{closing_unchanged, uncalm_closing, uncalm_unsettled}
use Rattle.tk_coord.proofs.DemandLemmas.{report_demands_none, settled_demands}
use Rattle.tk_coord.proofs.FollowLemmas.{calm_follows, quiet_follows}
use Rattle.tk_coord.proofs.PeerReadings.{peer_place, says_as}
use Rattle.tk_coord.proofs.GroundLemmas.{taken_at}
use Rattle.tk_coord.proofs.TellLemmas.{answer_other, fresh_answered, open_stays, report_changes_nothing, settled_changes_nothing}

-- ---- stale frames

-- nothing is due over a journal over which a frame is taken
undue_at : (s : Setup) (j : List Noted) (mon : Mon) (frame : Frame) → IsJournal s j → refusal_of s j mon.0 frame ≡ None → is_due s j ≡ false
undue_at s j mon frame h none =
    subst (λ (q : Setup). is_due q j ≡ false) h.settings (nothing_stays_due h.opening j h.set_up h.legal (accepted_kind s j mon.0 frame none).0)

-- nothing follows a frame that changes no reading and demands nothing
unchanged_follows : (s : Setup) (j : List Noted) (mon : Mon) (frame : Frame) (outcome : TurnOutcome) → IsJournal s j → IsMonitor s mon.0 → refusal_of s j mon.0 frame ≡ None
    → AreSame s j (with_got j mon frame) → demanded s j mon.0 frame ≡ [] → outcome.entries.items ≡ [] → outcome.reply ≡ reply.Nothing → Stands s j outcome.phase → Follows s j mon frame outcome
unchanged_follows s j mon frame outcome h m none same demands =
    quiet_follows s j mon frame outcome (taken_at s j mon frame h m none) (open_same s j (with_got j mon frame) same) demands (closing_unchanged s j mon frame same (undue_at s j mon frame h none))

-- nothing follows a stale Report
pub stale_report_follows : (s : Setup) (j : List Noted) (mon : Mon) (seq : ℕ) (border : ℤ) (failed : List ℕ) (values : List (ℕ × ℤ)) (outcome : TurnOutcome) → IsJournal s j → IsMonitor s mon.0
    → refusal_of s j mon.0 (f.Report seq border failed values) ≡ None → nat_lt seq (assigns_sent mon.0 j) ≡ true → outcome.entries.items ≡ [] → outcome.reply ≡ reply.Nothing
    → Stands s j outcome.phase → Follows s j mon (f.Report seq border failed values) outcome
stale_report_follows s j mon seq border failed values outcome h m none late =
    unchanged_follows s j mon (f.Report seq border failed values) outcome h m none
    (report_changes_nothing s j mon seq border failed values (ltb-true seq (assigns_sent mon.0 j) late)) (report_demands_none s j mon.0 seq border failed values true late (λ e. cc))

-- nothing follows a stale Settled
pub stale_settled_follows : (s : Setup) (j : List Noted) (mon : Mon) (seq : ℕ) (last : Bool) (places : List ℕ) (outcome : TurnOutcome) → IsJournal s j → IsMonitor s mon.0
    → refusal_of s j mon.0 (f.Settled seq last places) ≡ None → nat_lt seq (assigns_sent mon.0 j) ≡ true → outcome.entries.items ≡ [] → outcome.reply ≡ reply.Nothing
    → Stands s j outcome.phase → Follows s j mon (f.Settled seq last places) outcome
stale_settled_follows s j mon seq last places outcome h m none late =
    unchanged_follows s j mon (f.Settled seq last places) outcome h m none
    (settled_changes_nothing s j mon seq last places (ltb-true seq (assigns_sent mon.0 j) late)) (settled_demands s j mon.0 seq last places)

-- ---- frames that are noted

-- nothing follows a Report while a round is open
pub noted_report_follows : (s : Setup) (j : List Noted) (mon : Mon) (seq : ℕ) (border : ℤ) (failed : List ℕ) (values : List (ℕ × ℤ)) (outcome : TurnOutcome) → IsJournal s j → IsMonitor s mon.0
    → refusal_of s j mon.0 (f.Report seq border failed values) ≡ None → nat_lt seq (assigns_sent mon.0 j) ≡ false → is_open s j ≡ true → outcome.entries.items ≡ [] → outcome.reply ≡ reply.Nothing
    → Stands s j outcome.phase → Follows s j mon (f.Report seq border failed values) outcome
noted_report_follows s j mon seq border failed values outcome h m none fresh opened =
    let frame = f.Report seq border failed values in
    let same = open_stays s j mon frame (λ r q. refl) in
    quiet_follows s j mon frame outcome (taken_at s j mon frame h m none) same (report_demands_none s j mon.0 seq border failed values false fresh (λ _. opened))
    (open_nothing s (with_got j mon frame) (same ∙ opened))

-- what the others say is as before
others_say : (j : List Noted) (mon : Mon) (frame : Frame) (q : ℕ) → q ≢ mon.0 → settled_of q (with_got j mon frame) ≡ settled_by (Some (peer_at j q))
others_say j mon frame q other = ap settled_in (answer_other q j mon frame (ne_eqb mon.0 q (λ e. other (sym e)))) ∙ says_as j q

-- while a round is open, or another has not settled, it is not calm
stirred_by : (s : Setup) (j : List Noted) (peers : List Peer) (mon : Mon) (seq : ℕ) (last : Bool) (places : List ℕ) → ArePeers s j peers → IsMonitor s mon.0
    → (is_open s j ≡ true) ⊎ ((i : ℕ) × (l : Peer) × (i ≢ mon.0 - 1) × (slice_get peers i ≡ Some l) × (settled_by (Some l) ≡ None)) → is_calm s (with_got j mon (f.Settled seq last places)) ≡ false
stirred_by s j peers mon seq last places are m (inl opened) =
    let frame = f.Settled seq last places in open_not_calm s (with_got j mon frame) (open_stays s j mon frame (λ r q. refl) ∙ opened)
stirred_by s j peers mon seq last places are m (inr other) =
    let frame = f.Settled seq last places in
    let i = other.0 in
    let l = other.1 in
    let away = other.2 in
    let there = other.3 in
    let place = slice_get_within peers i l there in
    let count = are.count in
    let from = m.from_one in
    let apart : suc i ≢ mon.0 = λ e. away (omega (arith, e, from)) in
    uncalm_unsettled s (with_got j mon frame) (suc i) (record { from_one = omega arith; within = omega (arith, place, count) })
    (others_say j mon frame (suc i) apart ∙ sym (ap (λ (x : Peer). settled_by (Some x)) (are.each i l there)) ∙ other.4)

-- nothing follows a Settled after which not all have settled
pub stirred_follows : (s : Setup) (j : List Noted) (peers : List Peer) (mon : Mon) (seq : ℕ) (last : Bool) (places : List ℕ) (outcome : TurnOutcome) → IsJournal s j → ArePeers s j peers → IsMonitor s mon.0
    → refusal_of s j mon.0 (f.Settled seq last places) ≡ None → (is_open s j ≡ true) ⊎ ((i : ℕ) × (l : Peer) × (i ≢ mon.0 - 1) × (slice_get peers i ≡ Some l) × (settled_by (Some l) ≡ None))
    → outcome.entries.items ≡ [] → outcome.reply ≡ reply.Nothing → Stands s j outcome.phase → Follows s j mon (f.Settled seq last places) outcome
stirred_follows s j peers mon seq last places outcome h are m none which =
    let frame = f.Settled seq last places in
    quiet_follows s j mon frame outcome (taken_at s j mon frame h m none) (open_stays s j mon frame (λ r q. refl)) (settled_demands s j mon.0 seq last places)
    (uncalm_closing s (with_got j mon frame) (stirred_by s j peers mon seq last places are m which))

-- ---- where all have settled

-- the others' answers: every other monitor has settled
abbrev pub HaveOthersSettled : List Peer → ℕ → Type 0
HaveOthersSettled peers place = (i : ℕ) (l : Peer) → i ≢ place → slice_get peers i ≡ Some l → settled_by (Some l) ≢ None

-- what is there is what it is read as
there_is : (o : Option Progress) (here : Progress) → o ≢ None → o ≡ Some (unwrap_or o here)
there_is None here some = absurd (some refl)
there_is (Some p) here some = refl

-- a fresh Settled is what its monitor says
own_says : (j : List Noted) (mon : Mon) (seq : ℕ) (last : Bool) (places : List ℕ) → seq ≡ assigns_sent mon.0 j
    → settled_of mon.0 (with_got j mon (f.Settled seq last places)) ≡ Some (record { places = places; last = last })
own_says j mon seq last places fresh = ap settled_in (fresh_answered j mon (f.Settled seq last places) (eq-eqb seq (assigns_sent mon.0 j) fresh))

-- what each monitor says after a fresh Settled, by the peers
each_says : (s : Setup) (j : List Noted) (peers : List Peer) (mon : Mon) (seq : ℕ) (last : Bool) (places : List ℕ) (progress : Progress) (q : ℕ)
    → ArePeers s j peers → IsMonitor s mon.0 → IsMonitor s q → seq ≡ assigns_sent mon.0 j → progress ≡ record { places = places; last = last } → HaveOthersSettled peers (mon.0 - 1)
    → settled_of q (with_got j mon (f.Settled seq last places)) ≡ Some (said_at peers (mon.0 - 1) progress q)
each_says s j peers mon seq last places progress q are m each fresh is others =
    let frame = f.Settled seq last places in
    let now = with_got j mon frame in
    let from = m.from_one in
    let low = each.from_one in
    let back : mon.0 - 1 + 1 ≡ mon.0 = omega (arith, from) in
    let other = unwrap_or (settled_by (slice_get peers (q - 1))) progress in
    elim (cases_eq q mon.0) [
      | inl same ↦
          ap (λ (p : ℕ). settled_of p now) same ∙ own_says j mon seq last places fresh ∙ ap Some (sym is)
          ∙ ap (λ b. Some (if b then progress else other)) (sym (eq-eqb q (mon.0 - 1 + 1) (same ∙ sym back)))
      | inr apart ↦
          let away : q - 1 ≢ mon.0 - 1 = λ e. apart (omega (arith, e, low, from)) in
          let there = peer_place s j peers q are each in
          others_say j mon frame q apart ∙ there_is (settled_by (Some (peer_at j q))) progress (others (q - 1) (peer_at j q) away there)
          ∙ ap (λ (x : Option Peer). Some (unwrap_or (settled_by x) progress)) (sym there)
          ∙ ap (λ b. Some (if b then progress else other)) (sym (ne_eqb q (mon.0 - 1 + 1) (λ e. apart (e ∙ back))))
    ]

-- where each of a range gives something, all of it is there
all_given : {Y : Type 0} (g : ℕ → Option Y) (h : ℕ → Y) (b k : ℕ) → ((q : ℕ) → b ≤ q → q < b + k → g q ≡ Some (h q)) → filter_map g (range_with_len b k) ≡ map h (range_with_len b k)
all_given g h b zero each = refl
all_given g h b (suc k) each =
    ap (λ o. cons_option o (filter_map g (range_with_len (b + 1) k))) (each b (omega arith) (omega arith))
    ∙ ap (λ ys. h b ∷ ys) (all_given g h (b + 1) k (λ q low high. each q (omega (arith, low)) (omega (arith, high))))

-- the number of a monitor within a range
in_range : (s : Setup) (q : ℕ) → 1 ≤ q → q < 1 + s.monitors → IsMonitor s q
in_range s q low high = record { from_one = low; within = omega (arith, high) }

-- what all say after a fresh Settled, where all have settled
pub settled_now : (s : Setup) (j : List Noted) (peers : List Peer) (mon : Mon) (seq : ℕ) (last : Bool) (places : List ℕ) (progress : Progress) → ArePeers s j peers → IsMonitor s mon.0
    → seq ≡ assigns_sent mon.0 j → progress ≡ record { places = places; last = last } → HaveOthersSettled peers (mon.0 - 1)
    → settled_at s (with_got j mon (f.Settled seq last places)) ≡ said_by peers (mon.0 - 1) progress
settled_now s j peers mon seq last places progress are m fresh is others =
    let now = with_got j mon (f.Settled seq last places) in
    let say = said_at peers (mon.0 - 1) progress in
    all_given (λ q. settled_of q now) say 1 s.monitors (λ q low high. each_says s j peers mon seq last places progress q are m (in_range s q low high) fresh is others)
    ∙ ap (λ (k : ℕ). map say (range_with_len 1 k)) (sym are.count)

-- and it is calm
pub calm_now : (s : Setup) (j : List Noted) (peers : List Peer) (mon : Mon) (seq : ℕ) (last : Bool) (places : List ℕ) → ArePeers s j peers → IsMonitor s mon.0
    → seq ≡ assigns_sent mon.0 j → is_open s j ≡ false → HaveOthersSettled peers (mon.0 - 1) → is_calm s (with_got j mon (f.Settled seq last places)) ≡ true
unfolding is_calm
calm_now s j peers mon seq last places are m fresh closed others =
    let frame = f.Settled seq last places in
    let now = with_got j mon frame in
    ap (λ o. not o && list_all (λ q. is_some (settled_of q now)) (range_with_len 1 s.monitors)) (open_stays s j mon frame (λ r q. refl) ∙ closed)
    ∙ all_of_range (λ q. is_some (settled_of q now)) 1 s.monitors
    (λ q low high. ap is_some (each_says s j peers mon seq last places (record { places = places; last = last }) q are m (in_range s q low high) fresh refl others))

-- ---- what ends the turn

-- what ends a turn, by all that it reads
abbrev closing_with : List Noted → Bool → Setup → List ℕ → List Progress → Bool → ℕ → List Noted
closing_with ends calm setup members said news number =
    if calm && (news || are_last said) then n.Published (record {
      number = number;
      last = are_last said;
      k = setup.k;
      epsilon = setup.epsilon;
      members = members;
      cut = map (λ progress. progress.places) said;
    }) ∷ (if are_last said then ends else [])
    else []

-- that is how it reads
closing_reads : (s : Setup) (j : List Noted)
    → closing s j ≡ closing_with (stops s) (is_calm s j) (in_force s j) (members_at j) (settled_at s j) (differs (in_force s j) (members_at j) (last_of (publications j))) (length (publications j) + 1)
unfolding closing
closing_reads s j = refl

-- Stop goes to the same monitors by the settings in force
stops_same : (s : Setup) (j : List Noted) → stops s ≡ stops (in_force s j)
stops_same s j = ap (λ (k : ℕ). map (λ mon. n.Sent (record { 0 = mon }) f.Stop) (range_with_len 1 k)) (sym (force_monitors s j))

-- what is published, by what a journal says before a frame, is what ends the turn where all have settled
closing_over : (s : Setup) (j now : List Noted) (said : List Progress) → is_calm s now ≡ true → in_force s now ≡ in_force s j → members_at now ≡ members_at j
    → publications now ≡ publications j → settled_at s now ≡ said
    → closing s now ≡ closing_by (in_force s j) (members_at j) said (differs (in_force s j) (members_at j) (last_of (publications j))) (length (publications j) + 1)
closing_over s j now said calm force members published says =
    closing_reads s now
    ∙ ap (λ c. closing_with (stops s) c (in_force s now) (members_at now) (settled_at s now) (differs (in_force s now) (members_at now) (last_of (publications now)))
    (length (publications now) + 1)) calm
    ∙ ap (λ (x : Setup). closing_with (stops s) true x (members_at now) (settled_at s now) (differs x (members_at now) (last_of (publications now))) (length (publications now) + 1)) force
    ∙ ap (λ ms. closing_with (stops s) true (in_force s j) ms (settled_at s now) (differs (in_force s j) ms (last_of (publications now))) (length (publications now) + 1)) members
    ∙ ap (λ ps. closing_with (stops s) true (in_force s j) (members_at j) (settled_at s now) (differs (in_force s j) (members_at j) (last_of ps)) (length ps + 1)) published
    ∙ ap (λ xs. closing_with (stops s) true (in_force s j) (members_at j) xs (differs (in_force s j) (members_at j) (last_of (publications j))) (length (publications j) + 1)) says
    ∙ ap (λ ends. closing_with ends true (in_force s j) (members_at j) said (differs (in_force s j) (members_at j) (last_of (publications j))) (length (publications j) + 1)) (stops_same s j)

-- what is published, by fields that say what the journal says
closing_fields : (s : Setup) (j : List Noted) (setup : Setup) (members : List ℕ) (said : List Progress) (news : Bool) (number : ℕ) → setup ≡ in_force s j → members ≡ members_at j
    → news ≡ differs (in_force s j) (members_at j) (last_of (publications j)) → number ≡ length (publications j) + 1
    → closing_by setup members said news number ≡ closing_by (in_force s j) (members_at j) said (differs (in_force s j) (members_at j) (last_of (publications j))) (length (publications j) + 1)
closing_fields s j setup members said news number force named newer count =
    ap (λ (x : Setup). closing_by x members said news number) force
    ∙ ap (λ ms. closing_by (in_force s j) ms said news number) named
    ∙ ap (λ b. closing_by (in_force s j) (members_at j) said b number) newer
    ∙ ap (λ k. closing_by (in_force s j) (members_at j) said (differs (in_force s j) (members_at j) (last_of (publications j))) k) count

-- a Settled that is not refused and not stale is fresh
pub settled_seq : (s : Setup) (j : List Noted) (mon seq : ℕ) (last : Bool) (places : List ℕ) → refusal_of s j mon (f.Settled seq last places) ≡ None
    → nat_lt seq (assigns_sent mon j) ≡ false → seq ≡ assigns_sent mon j
settled_seq s j mon seq last places none late =
    elim (accepted_answer (shown_by mon j) seq (refusal_of_cut (shown_by mon j).progress last places) (accepted_kind s j mon (f.Settled seq last places) none).1) [
      | inl stale ↦ absurd (let l = ltb-false seq (assigns_sent mon j) late in omega (arith, stale, l))
      | inr fresh ↦ fresh.now
    ]

-- the end of a turn in which all have settled follows a Settled
pub calm_follows_settled : (s : Setup) (j : List Noted) (peers : List Peer) (mon : Mon) (seq : ℕ) (last : Bool) (places : List ℕ) (progress : Progress)
    (setup : Setup) (members : List ℕ) (news : Bool) (number : ℕ) (ends : Bool) (phase : Phase) (outcome : TurnOutcome)
    → IsJournal s j → ArePeers s j peers → IsMonitor s mon.0 → refusal_of s j mon.0 (f.Settled seq last places) ≡ None → nat_lt seq (assigns_sent mon.0 j) ≡ false
    → is_open s j ≡ false → HaveOthersSettled peers (mon.0 - 1) → progress ≡ record { places = places; last = last } → setup ≡ in_force s j → members ≡ members_at j
    → news ≡ differs (in_force s j) (members_at j) (last_of (publications j)) → number ≡ length (publications j) + 1 → Stands s j phase
    → outcome.entries.items ≡ closing_by setup members (said_by peers (mon.0 - 1) progress) news number → is_stopped outcome.entries.items ≡ ends → outcome.reply ≡ reply.Nothing
    → outcome.phase ≡ record phase { stopped = ends } → All (IsEntryOf s.monitors s.objects) outcome.entries.items
    → Follows s j mon (f.Settled seq last places) outcome
calm_follows_settled s j peers mon seq last places progress setup members news number ends phase outcome
    h are m none late closed others is force named newer count stands sends stopped replies holds range =
    let frame = f.Settled seq last places in
    let now = with_got j mon frame in
    let said = said_by peers (mon.0 - 1) progress in
    let fresh = settled_seq s j mon.0 seq last places none late in
    let same = open_stays s j mon frame (λ r q. refl) in
    let calm = calm_now s j peers mon seq last places are m fresh closed others in
    let end : outcome.entries.items ≡ closing s now =
    sends ∙ closing_fields s j setup members said news number force named newer count
    ∙ sym (closing_over s j now said calm (open_force s j mon frame same) (got_members j mon frame) (none_more j (n.Got mon frame ∷ []) refl)
    (settled_now s j peers mon seq last places progress are m fresh is others)) in
    calm_follows s j mon frame phase ends outcome (taken_at s j mon frame h m none) same (settled_demands s j mon.0 seq last places) end replies range stopped holds stands

-- ---- what was published last

-- the last entry of a list is the last of them
last_at : {A : Type 0} (start : Option A) (xs : List A) (i : ℕ) (x : A) → suc i ≡ length xs → slice_get xs i ≡ Some x → fold (λ _ e. Some e) start xs ≡ Some x
last_at start [] i x count there = absurd (omega (arith, count))
last_at start (y ∷ []) zero x count there = there
last_at start (y ∷ []) (suc i) x count there = absurd (omega (arith, count))
last_at start (y ∷ z ∷ xs) zero x count there = absurd (omega (arith, count))
last_at start (y ∷ z ∷ xs) (suc i) x count there = last_at (Some y) (z ∷ xs) i x (omega (arith, count)) there

-- the publication at the last place is the last
last_published : (j : List Noted) (count : ℕ) (p : Publication) → count ≡ length (publications j) → 0 < count → slice_get (publications j) (count - 1) ≡ Some p → last_of (publications j) ≡ Some p
last_published j count p is some there = last_at None (publications j) (count - 1) p (omega (arith, is, some)) there

-- what differs from the last publication, by its place, is news
pub news_is : (setup : Setup) (members : List ℕ) (j : List Noted) (count : ℕ) (p : Publication) → count ≡ length (publications j) → 0 < count → slice_get (publications j) (count - 1) ≡ Some p
    → differs setup members (Some p) ≡ differs setup members (last_of (publications j))
news_is setup members j count p is some there = ap (differs setup members) (sym (last_published j count p is some there))
