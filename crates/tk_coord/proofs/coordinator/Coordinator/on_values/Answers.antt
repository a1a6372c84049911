use Rattle.std.proofs.Common.{FitsSigned, to_z, of_z, rules, ◌≡◌, ◌≢◌, ◌-◌, ◌<◌, ℕ, suc, ℤ, true, false, List, length, set, None, Some, refl, sym, ap, ◌∙◌, subst, arith, inl, inr}
use Rattle.std.specs.Global.{Vec}
use Rattle.std.specs.Int.{w128}
use Rattle.std.specs.Prelude.{slice_get}
use Rattle.std.specs.Vec.{with_item}
use Rattle.std.proofs.lemmas.Bool.{true≢false}
use Rattle.std.proofs.lemmas.Int.{to_z-of_z}
use Rattle.std.proofs.lemmas.List.{length-set}
use Rattle.tk_base.specs.Settings.{Setup}
use Rattle.tk_base.specs.declared.ids.Mon.{Mon}
use Rattle.tk_frames.specs.declared.frame.Frame.{Frame}
use Rattle.tk_frames.specs.declared.frame.Frame.TheVariants as f
use Rattle.tk_alloc.specs.declared.reported.Reported.{Reported}
use Rattle.tk_journal.specs.Laws.{IsMonitor}
use Rattle.tk_journal.specs.Readings.{last_round, waits_for}
use Rattle.tk_journal.specs.Refusal.{refusal_of}
use Rattle.tk_journal.specs.declared.noted.Noted.{Noted}
use Rattle.tk_journal.specs.declared.turn.TurnKind.TheVariants.{End, Note}
use Rattle.tk_journal.specs.declared.turn.Turn.{Turn}
use Rattle.tk_coord.specs.Coordinator.{CoordinatorView}
use Rattle.tk_coord.specs.Kept.{IsKept}
use Rattle.tk_coord.specs.State.{ArePeers, Holds, IsRound, Stands}
use Rattle.tk_coord.specs.Steps.{IsStep, Tells, step_with}
use Rattle.tk_coord.specs.declared.phase.Phase.{Phase}
use Rattle.tk_coord.specs.declared.state.State.{State}
use Rattle.tk_coord.specs.declared.step.Step.{Step}
use Rattle.tk_coord.specs.declared.step.Statement.TheVariants as stated
use Rattle.tk_coord.proofs.CountedTurns.{counts_quiet, end_is_counted, more_counts}
use Rattle.tk_coord.proofs.ElementLemmas.{read_set}
use Rattle.tk_coord.proofs.GrowLemmas.{orderly_at}
use Rattle.tk_coord.proofs.PeerReadings.{one_waits}
use Rattle.tk_coord.proofs.TellLemmas.{last_tells, more_tells, values_waited}
use Rattle.tk_coord.proofs.ValuesTurns.{AreLast, Values, can_end_full, can_end_wide, end_follows, frame_of, last_values, more_follows}
use Rattle.tk_coord.proofs.coordinator.Coordinator.on_values.Goals as goal
use Rattle.tk_coord.specs.Grounds.{IsGrounded}
use Rattle.tk_coord.specs.declared.peer.Peer.{Peer}
use Rattle.tk_coord.specs.declared.outcomes.Grounds.{Grounds}
use Rattle.tk_coord.specs.declared.round.Round.{Round}

-- a frame that is taken, as the coordinator keeps its settings and its journal
taken_in : (v w : CoordinatorView) (mon : ℕ) (frame now : Frame) → v ≡ w → now ≡ frame → refusal_of w.settings w.journal mon now ≡ None → refusal_of v.settings v.journal mon frame ≡ None
taken_in v w mon frame now see is none = ap (λ (x : CoordinatorView). refusal_of x.settings x.journal mon frame) see ∙ ap (refusal_of w.settings w.journal mon) (sym is) ∙ none

-- whose Values are taken, is waited for
waited : (mon : Mon) {v w : CoordinatorView} {round seq : ℕ} {border : ℤ} {values : List (ℕ × ℤ)} {now : Frame} → v ≡ w → now ≡ f.Values round seq border values
    → refusal_of w.settings w.journal mon.0 now ≡ None → waits_for (last_round v.journal) mon.0 v.journal ≡ true
waited mon {v} {w} {round} {seq} {border} {values} {now} see is none =
    values_waited v.settings v.journal mon round seq border values (taken_in v w mon.0 (f.Values round seq border values) now see is none)

-- a step, as contracts see it
step_in : (v w : CoordinatorView) (mon : Mon) (frame now : Frame) (step : Step) → v ≡ w → now ≡ frame → IsStep v.settings v.journal mon frame step → IsStep w.settings w.journal mon now step
step_in v w mon frame now step see is holds =
    subst (λ (x : CoordinatorView). IsStep x.settings x.journal mon now step) see (subst (λ y. IsStep v.settings v.journal mon y step) (sym is) holds)

-- the Values of a frame
abbrev values_in : Mon → ℕ → ℕ → ℤ → List (ℕ × ℤ) → Values
values_in mon round seq border values = record { mon = mon; round = round; seq = seq; border = border; values = values }

-- what a monitor reports
abbrev report_with : Mon → List (ℕ × ℤ) → ℤ → Reported
report_with mon values border = record { mon = mon; values = values; border = border }

-- a border that is passed on stays what it is
report_by : (mon : Mon) (values passed : List (ℕ × ℤ)) (border : ℤ) → passed ≡ values → FitsSigned w128 border
    → report_with mon passed (to_z w128 (of_z w128 border)) ≡ report_with mon values border
report_by mon values passed border same fits = ap (λ z. report_with mon passed z) (to_z-of_z w128 border fits) ∙ ap (λ vs. report_with mon vs border) same

-- the place of a monitor that the open round waits for is free to be written
holds_scratch : (s : Setup) (j : List Noted) (state : State) (gathered : Vec Reported) (mon : ℕ) (r : Reported) → IsMonitor s mon → waits_for (last_round j) mon j ≡ true
    → gathered.items ≡ set state.gathered.items (mon - 1) r → Holds s j state → Holds s j (record state { gathered = gathered })
holds_scratch s j state gathered mon r m waits is holds =
    let round = holds.round in
    let low = m.from_one in
    let within : mon - 1 < length state.gathered.items = (let high = m.within in let count = round.count in omega (arith, low, high, count)) in
    record {
      members = holds.members;
      table = holds.table;
      peers = holds.peers;
      round = record {
        number = round.number;
        waiting = round.waiting;
        wide = round.wide;
        asked = round.asked;
        count = ap length is ∙ length-set state.gathered.items (mon - 1) r ∙ round.count;
        told = λ opened i x at quiet. elim (read_set state.gathered.items (mon - 1) i r x within (ap (λ rs. slice_get rs i) (sym is) ∙ at)) [
          | inl here ↦
              let place = here.0 in
              let own : mon ≡ suc i = omega (arith, place, low) in
              absurd (true≢false (sym waits ∙ ap (λ q. waits_for (last_round j) q j) own ∙ quiet))
          | inr other ↦ round.told opened i x other.1 quiet
        ];
      };
    }

-- the report that is written there
abbrev written_in : Mon → List (ℕ × ℤ) → ℤ → Reported
written_in mon values border = record { mon = mon; values = values; border = to_z w128 (of_z w128 border) }

-- what is kept stands, with the last report in its place
kept_with : {seen now : CoordinatorView} {state : State} {phase : Phase} {turns : List Turn} {frame : Frame} (v : Values) (r : Reported) → seen ≡ now → frame ≡ frame_of v
    → refusal_of now.settings now.journal v.mon.0 frame ≡ None → IsMonitor now.settings v.mon.0 → IsKept seen.settings seen.journal state phase turns
    → IsKept seen.settings seen.journal (record state { gathered = with_item state.gathered (v.mon.0 - 1) r }) phase turns
kept_with {seen} {now} {state} v r see is none range k = record {
  journal = k.journal;
  holds = holds_scratch seen.settings seen.journal state (with_item state.gathered (v.mon.0 - 1) r) v.mon.0 r (subst (λ (x : CoordinatorView). IsMonitor x.settings v.mon.0) (sym see) range)
      (waited v.mon see is none) refl k.holds;
  stands = k.stands;
  entries = k.entries;
  turned = k.turned;
}

pub returns-then-not-waits_for_no_other-clause-step :
    goal.returns-then-not-waits_for_no_other-clause-step
returns-then-not-waits_for_no_other-clause-step c =
    let o = c.self.inside in
    let v : CoordinatorView = record { settings = o.settings; journal = o.journal.entries } in
    let mon = c.args.mon in
    let number = c.in-Values.round in
    let seq = c.in-Values.seq in
    let border = c.in-Values.border in
    let values = c.in-Values.values in
    let frame = f.Values number seq border values in
    let fits : FitsSigned w128 border = search rules in
    let range : IsMonitor o.settings mon.0 = subst (λ (x : CoordinatorView). IsMonitor x.settings mon.0) (sym c.self.view_is) c.requires.monitor in
    let none = taken_in v c.args.self.now mon.0 frame c.args.frame.now c.self.view_is c.in-Values.is c.requires.taken in
    let other = c.if-not-waits_for_no_other.ensures.some in
    let there = ap (λ ls. slice_get ls other.0) (sym c.as_slice.ensures.value) ∙ other.3 in
    let opened = one_waits o.settings o.journal.entries o.state.peers.items mon number seq border values other.0 other.1 c.self.invariant.0.holds.peers range other.2 there other.4 in
    let tells : c.quiet.result.statement ≡ stated.Values (report_with mon values border) =
    c.quiet.ensures.statement ∙ ap stated.Values (report_by mon values c.in_ok-try_clone.field-0 border c.in_ok-try_clone.ensures fits) in
    step_in v c.args.self.now mon frame c.args.frame.now c.quiet.result c.self.view_is c.in-Values.is (record {
      told = subst (Tells o.settings o.journal.entries mon frame) (sym tells)
          (more_tells o.settings o.journal.entries mon number seq border values (orderly_at o.settings o.journal.entries c.self.invariant.0.journal) none opened);
      outcome = more_follows o.settings o.journal.entries mon number seq border values c.quiet.result.outcome c.self.invariant.0.journal range none opened
          c.quiet.ensures.entries c.quiet.ensures.reply (subst (λ (x : CoordinatorView). Stands x.settings x.journal c.quiet.result.outcome.phase) (sym c.self.view_is) c.quiet.ensures.phase);
      counted = counts_quiet o.settings o.journal.entries mon.0 frame c.quiet.result.turn Note c.quiet.ensures.turn (more_counts o.settings o.journal.entries mon number seq border values opened);
    })

-- the Values that are taken, with the report in its place, are the last of their round
last_with : {seen now : CoordinatorView} {g : Grounds} (v : Values) {frame : Frame} {passed : List (ℕ × ℤ)} {reports : List Reported} {peers kept : List Peer} {round : Round} {gathered : List Reported}
    → seen ≡ now → frame ≡ frame_of v → refusal_of now.settings now.journal v.mon.0 frame ≡ None → IsMonitor now.settings v.mon.0 → passed ≡ v.values → FitsSigned w128 v.border
    → IsGrounded seen.settings seen.journal g → peers ≡ kept → ArePeers seen.settings seen.journal kept → IsRound seen.settings seen.journal round gathered
    → ((i : ℕ) (l : Peer) → i ≢ v.mon.0 - 1 → slice_get peers i ≡ Some l → l.waits ≡ false) → reports ≡ set gathered (v.mon.0 - 1) (written_in v.mon passed v.border)
    → AreLast seen.settings seen.journal g v reports round.wide
last_with {seen} {now} {g} v {frame} {passed} {reports} {peers} {kept} {round} {gathered} see is none range same fits grounds are are_peers told others written =
    last_values seen.settings seen.journal g v reports peers round gathered grounds (subst (ArePeers seen.settings seen.journal) (sym are) are_peers) told
    (subst (λ (x : CoordinatorView). IsMonitor x.settings v.mon.0) (sym see) range) (taken_in seen now v.mon.0 (frame_of v) frame see is none) others
    (written ∙ ap (λ r. set gathered (v.mon.0 - 1) r) (report_by v.mon v.values passed v.border same fits))

pub end_round-requires-clause-all : goal.end_round-requires-clause-all
end_round-requires-clause-all c =
    let fits : FitsSigned w128 c.in-Values.border = search rules in
    can_end_wide _ _ _ _ _ _ (last_with (values_in c.args.mon c.in-Values.round c.in-Values.seq c.in-Values.border c.in-Values.values) c.self.view_is c.in-Values.is c.requires.taken c.requires.monitor
    c.in_ok-try_clone.ensures fits c.grounds-grounds.ensures c.as_slice.ensures.value c.self.invariant.0.holds.peers c.self.invariant.0.holds.round
    c.if-not-waits_for_no_other.ensures.none c.as_slice-2.ensures.value)

pub end_round-requires-clause-some : goal.end_round-requires-clause-some
end_round-requires-clause-some c =
    let fits : FitsSigned w128 c.in-Values.border = search rules in
    can_end_full _ _ _ _ _ _ (last_with (values_in c.args.mon c.in-Values.round c.in-Values.seq c.in-Values.border c.in-Values.values) c.self.view_is c.in-Values.is c.requires.taken c.requires.monitor
    c.in_ok-try_clone.ensures fits c.grounds-grounds.ensures c.as_slice.ensures.value c.self.invariant.0.holds.peers c.self.invariant.0.holds.round
    c.if-not-waits_for_no_other.ensures.none c.as_slice-2.ensures.value)

pub invariant_of-self : goal.invariant_of-self
invariant_of-self c = (
  kept_with (values_in c.args.mon c.in-Values.round c.in-Values.seq c.in-Values.border c.in-Values.values) (written_in c.args.mon c.in_ok-try_clone.field-0 c.in-Values.border)
      c.self.view_is c.in-Values.is c.requires.taken c.requires.monitor c.self.invariant.0,
  c.self.invariant.1,
)

pub invariant_of-self-in_err-outcome : goal.invariant_of-self-in_err-outcome
invariant_of-self-in_err-outcome c = (
  kept_with (values_in c.args.mon c.in-Values.round c.in-Values.seq c.in-Values.border c.in-Values.values) (written_in c.args.mon c.in_ok-try_clone.field-0 c.in-Values.border)
      c.self.view_is c.in-Values.is c.requires.taken c.requires.monitor c.self.invariant.0,
  c.self.invariant.1,
)

pub invariant_of-self-2 : goal.invariant_of-self-2
invariant_of-self-2 c = (
  kept_with (values_in c.args.mon c.in-Values.round c.in-Values.seq c.in-Values.border c.in-Values.values) (written_in c.args.mon c.in_ok-try_clone.field-0 c.in-Values.border)
      c.self.view_is c.in-Values.is c.requires.taken c.requires.monitor c.self.invariant.0,
  c.self.invariant.1,
)

pub returns-clause-step : goal.returns-clause-step
returns-clause-step c =
    let o = c.self.inside in
    let s = o.settings in
    let j = o.journal.entries in
    let mon = c.args.mon in
    let v = values_in mon c.in-Values.round c.in-Values.seq c.in-Values.border c.in-Values.values in
    let fits : FitsSigned w128 v.border = search rules in
    let none = taken_in (record { settings = s; journal = j }) c.args.self.now mon.0 (frame_of v) c.args.frame.now c.self.view_is c.in-Values.is c.requires.taken in
    let last = last_with v c.self.view_is c.in-Values.is c.requires.taken c.requires.monitor
    c.in_ok-try_clone.ensures fits c.grounds-grounds.ensures c.as_slice.ensures.value c.self.invariant.0.holds.peers c.self.invariant.0.holds.round
    c.if-not-waits_for_no_other.ensures.none c.as_slice-2.ensures.value in
    let outcome = c.in_ok-outcome.outcome in
    let e = c.in_ok-outcome.ensures in
    subst (λ (x : Step). IsStep c.args.self.now.settings c.args.self.now.journal mon c.args.frame.now x) (sym c.step.ensures)
    (step_in (record { settings = s; journal = j }) c.args.self.now mon (frame_of v) c.args.frame.now (step_with outcome stated.LastValues End false) c.self.view_is c.in-Values.is (record {
      told = last_tells s j mon v.round v.seq v.border v.values (orderly_at s j c.self.invariant.0.journal) none last.closed;
      outcome = end_follows s j c.grounds-grounds.result v c.as_slice-2.result.now o.state.round.wide outcome last e.all e.some e.entries;
      counted = end_is_counted s j c.grounds-grounds.result v c.as_slice-2.result.now o.state.round.wide outcome last e.all e.some;
    }))
