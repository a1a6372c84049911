-- What is kept of the monitors, as readings of the journal.
use Rattle.std.proofs.Common.{◌≡◌, ◌≢◌, ℕ, suc, Bool, true, false, ◌-◌, List, Option, Some, None, refl, sym, ap, ◌∙◌, arith, inl, inr}
use Rattle.std.specs.Prelude.{ℤ, slice_get, get_or, if◌then◌else◌}
use Rattle.std.specs.Option.{option_map}
use Rattle.std.proofs.lemmas.Bool.{ne_eqb, cases_eq}
use Rattle.std.proofs.lemmas.Option.{slice_get_within, slice_get-get_or}
use Rattle.tk_base.specs.Settings.{Setup}
use Rattle.tk_base.specs.declared.ids.Mon.{Mon}
use Rattle.tk_base.proofs.ListLemmas.{none_in_range, any_in_range}
use Rattle.tk_frames.specs.declared.frame.Frame.{Frame}
use Rattle.tk_frames.specs.declared.frame.Frame.TheVariants as f
use Rattle.tk_alloc.specs.declared.reported.Reported.{Reported}
use Rattle.tk_journal.specs.Readings.{Progress, answer_of, progress_of, settled_in, settled_of, last_round, asked_of, waits_for, is_open}
use Rattle.tk_journal.specs.Laws.{IsMonitor}
use Rattle.tk_journal.specs.Refusal.{refusal_of, is_report, waits_at}
use Rattle.tk_journal.specs.declared.noted.Noted.{Noted}
use Rattle.tk_journal.proofs.ProgressLemmas.{settled_progress}
use Rattle.tk_coord.specs.declared.peer.Peer.{Peer}
use Rattle.tk_coord.specs.declared.round.Round.{Round}
use Rattle.tk_coord.specs.State.{kind_in, peer_at, ArePeers, IsRound}
use Rattle.tk_coord.specs.Closing.{settled_as, settled_by}
use Rattle.tk_coord.specs.Refusals.{is_report_in}
use Rattle.tk_coord.specs.Steps.{with_got}
use Rattle.tk_coord.proofs.TellLemmas.{values_done, values_other, waits_kept}

-- ---- who is still waited for after the Values of a monitor

-- the peer of a monitor stands at its place
pub peer_place : (s : Setup) (j : List Noted) (peers : List Peer) (q : ℕ) → ArePeers s j peers → IsMonitor s q → slice_get peers (q - 1) ≡ Some (peer_at j q)
peer_place s j peers q kept m =
    let low = m.from_one in
    let high = m.within in
    let count = kept.count in
    let there = slice_get-get_or peers (q - 1) (peer_at j q) (omega (arith, low, high, count)) in
    let place : suc (q - 1) ≡ q = omega (arith, low) in
    there ∙ ap Some (kept.each (q - 1) (get_or peers (q - 1) (peer_at j q)) there ∙ ap (peer_at j) place)

-- the Values of a monitor leave nobody else waited for less
waits_other : (q : ℕ) (j : List Noted) (mon : Mon) (frame : Frame) → q ≢ mon.0 → waits_for (last_round (with_got j mon frame)) q (with_got j mon frame) ≡ waits_for (last_round j) q j
waits_other q j mon frame other =
    waits_kept q j mon frame (values_other (last_round j) q j mon frame (ne_eqb mon.0 q (λ e. other (sym e))))

-- the last Values that a round waits for end it
pub none_waits : (s : Setup) (j : List Noted) (peers : List Peer) (mon : Mon) (round seq : ℕ) (border : ℤ) (values : List (ℕ × ℤ)) → ArePeers s j peers → IsMonitor s mon.0
    → refusal_of s j mon.0 (f.Values round seq border values) ≡ None → ((i : ℕ) (l : Peer) → i ≢ mon.0 - 1 → slice_get peers i ≡ Some l → l.waits ≡ false)
    → is_open s (with_got j mon (f.Values round seq border values)) ≡ false
unfolding is_open
none_waits s j peers mon round seq border values kept m none others =
    let frame = f.Values round seq border values in
    let now = with_got j mon frame in
    none_in_range (λ q. waits_for (last_round now) q now) 1 s.monitors (λ q low high. elim (cases_eq q mon.0) [
      | inl same ↦ ap (λ p. waits_for (last_round now) p now) same ∙ values_done s j mon round seq border values none
      | inr other ↦
          let from = m.from_one in
          let place : q - 1 ≢ mon.0 - 1 = λ e. other (omega (arith, e, low, from)) in
          waits_other q j mon frame other
          ∙ others (q - 1) (peer_at j q) place (peer_place s j peers q kept (record { from_one = low; within = omega (arith, high) }))
    ])

-- while another is waited for the round stays open
pub one_waits : (s : Setup) (j : List Noted) (peers : List Peer) (mon : Mon) (round seq : ℕ) (border : ℤ) (values : List (ℕ × ℤ)) (i : ℕ) (l : Peer) → ArePeers s j peers → IsMonitor s mon.0
    → i ≢ mon.0 - 1 → slice_get peers i ≡ Some l → l.waits ≡ true → is_open s (with_got j mon (f.Values round seq border values)) ≡ true
unfolding is_open
one_waits s j peers mon round seq border values i l kept m other there waits =
    let frame = f.Values round seq border values in
    let now = with_got j mon frame in
    let place = slice_get_within peers i l there in
    let count = kept.count in
    let from = m.from_one in
    let apart : suc i ≢ mon.0 = λ e. other (omega (arith, e, from)) in
    any_in_range (λ q. waits_for (last_round now) q now) 1 s.monitors (suc i) (omega arith) (omega (arith, place, count))
    (waits_other (suc i) j mon frame apart ∙ sym (ap (λ (x : Peer). x.waits) (kept.each i l there)) ∙ waits)

-- ---- the kind of an answer

-- by the kinds of frames
report_by_kind : (answer : Option Frame) → is_report answer ≡ is_report_in (kind_in answer)
report_by_kind None = refl
report_by_kind (Some (f.Hello run version m)) = refl
report_by_kind (Some (f.Report seq border failed values)) = refl
report_by_kind (Some (f.Collect round asked)) = refl
report_by_kind (Some (f.Values round seq border values)) = refl
report_by_kind (Some (f.Assign seq members changes)) = refl
report_by_kind (Some (f.Settled seq last places)) = refl
report_by_kind (Some f.Stop) = refl

-- whether the answer is a Report shows in its kind
pub is_report_of : (mon : ℕ) (j : List Noted) → is_report (answer_of mon j) ≡ is_report_in (kind_in (answer_of mon j))
is_report_of mon j = report_by_kind (answer_of mon j)

-- the objects that a round asks for, with its number
abbrev of_round : ℕ → List ℕ → ℕ × List ℕ
of_round number asked = (number, asked)

-- by whether the round waits
awaited_by : (waits : Bool) (number number' : ℕ) (asked : Option (List ℕ)) (all : List ℕ) → number ≡ number' → (waits ≡ true → asked ≡ Some all)
    → (if waits then option_map (of_round number) asked else None) ≡ (if waits then Some (of_round number' all) else None)
awaited_by true number number' asked all same is = ap (option_map (of_round number)) (is refl) ∙ ap (λ k. Some (of_round k all)) same
awaited_by false number number' asked all same is = refl

-- the round that waits for a monitor, by the round that is kept
pub waits_of : (s : Setup) (j : List Noted) (round : Round) (gathered : List Reported) (mon : ℕ) → IsRound s j round gathered → IsMonitor s mon
    → waits_at mon j ≡ (if waits_for (last_round j) mon j then Some (round.number, round.asked) else None)
waits_of s j round gathered mon kept m =
    awaited_by (waits_for (last_round j) mon j) (last_round j) round.number (asked_of (last_round j) mon j) round.asked (sym kept.number) (λ waits. kept.asked mon m waits)

-- ---- what the current answer says, by the last progress

-- by the kinds of frames, an answer that is a Settled says the last progress
said_by_kind : (answer : Option Frame) (progress : Option Progress) → ((x : Progress) → settled_in answer ≡ Some x → progress ≡ Some x) → settled_in answer ≡ settled_as (kind_in answer) progress
said_by_kind None progress told = refl
said_by_kind (Some (f.Hello run version m)) progress told = refl
said_by_kind (Some (f.Report seq border failed values)) progress told = refl
said_by_kind (Some (f.Collect round asked)) progress told = refl
said_by_kind (Some (f.Values round seq border values)) progress told = refl
said_by_kind (Some (f.Assign seq members changes)) progress told = refl
said_by_kind (Some (f.Settled seq last places)) progress told = sym (told (record { places = places; last = last }) refl)
said_by_kind (Some f.Stop) progress told = refl

-- what the current answer of a monitor says is what its peer says
pub says_as : (j : List Noted) (mon : ℕ) → settled_of mon j ≡ settled_by (Some (peer_at j mon))
says_as j mon = said_by_kind (answer_of mon j) (progress_of mon j) (settled_progress mon j)
