use Rattle.std.proofs.Common.{refl, ◌≡◌, ◌+◌, Some, None, length, take, ap, sym, ◌∙◌, subst, arith}
use Rattle.std.specs.Prelude.{IfErr, filter_map, slice_get}
use Rattle.std.specs.Option.{option_copied}
use Rattle.std.proofs.lemmas.Bool.{true≢false}
use Rattle.std.proofs.lemmas.List.{take_all}
use Rattle.std.proofs.lemmas.Option.{slice_get_read}
use Rattle.tk_journal.specs.Links.{frames_to}
use Rattle.tk_trail.specs.Readings.{taken_in}
use Rattle.tk_story.specs.Comparing.{IsDifference}
use Rattle.tk_story.specs.Ends.{down_link, with_odd}
use Rattle.tk_story.specs.declared.ends.difference.Direction.TheVariants.{DownLink}
use Rattle.tk_story.specs.declared.ends.received.Received.TheVariants as r
use Rattle.tk_story.proofs.EndsLemmas.{Agrees, agrees_on, agrees_over, differs_here, finds_difference}
use Rattle.tk_story.proofs.ends.comparing.check_down.Goals as goal
use Rattle.tk_story.proofs.ends.comparing.check_down.Goals.{in-Some+else-not-is_sent, in_default}

pub returns-then-not-is_sent-clause-found : goal.returns-then-not-is_sent-clause-found
returns-then-not-is_sent-clause-found c =
    let entries = c.args.end.now.monitor.trail in
    let sent = frames_to c.args.mon.0 c.args.coordinator.now.journal in
    let place = c.loop-entry.place in
    let frame = c.in-Some.frame.now in
    let at : slice_get entries c.loop-entry.entry-index ≡ Some c.entry-item.result =
    subst (λ xs. slice_get xs c.loop-entry.entry-index ≡ Some c.entry-item.result) c.trail-entry-items.ensures.value (slice_get_read c.trail-entry-items.result.now (length c.trail-entry-items.result.now) c.loop-entry.entry-index c.entry-item.result refl c.loop-entry-test.true c.entry-item.is) in
    let some : taken_in c.entry-item.result ≡ Some frame = sym c.taken_in.ensures ∙ ap option_copied c.in-Some.is in
    let there = c.sent_down-sent.ensures in
    let other : slice_get sent place ≡ Some frame → ⊥ = λ e. true≢false (sym (c.is_sent.ensures.1 (there ∙ e)) ∙ c.if-not-is_sent.true) in
    let d = differs_here (taken_in) entries sent (c.args.end.now.odd) place c.loop-entry.entry-index c.entry-item.result frame at some other c.loop-entry.invariant in
    let fault = subst (λ x. IfErr c.differ.result (IsDifference c.args.mon DownLink place (option_copied c.sent_down-sent.result) (r.Frame x))) c.in_ok-try_clone.ensures c.differ.ensures.fault in
    finds_difference c.args.mon DownLink place (slice_get sent place) (r.Frame frame) (down_link c.args.mon.0 c.args.coordinator.now.journal c.args.end.now.monitor.trail c.args.end.now.odd) c.differ.result c.differ.ensures.never (subst (λ x. IfErr c.differ.result (IsDifference c.args.mon DownLink place x (r.Frame frame))) there fault) d

pub loop-entry-preserved : goal.loop-entry-preserved
loop-entry-preserved c =
    let entries = c.args.end.now.monitor.trail in
    let sent = frames_to c.args.mon.0 c.args.coordinator.now.journal in
    let place = c.loop-entry.place in
    let n = c.loop-entry.entry-index in
    let passed = filter_map (taken_in) (take (n + 1) entries) in
    let at : slice_get entries n ≡ Some c.entry-item.result =
    subst (λ xs. slice_get xs n ≡ Some c.entry-item.result) c.trail-entry-items.ensures.value (slice_get_read c.trail-entry-items.result.now (length c.trail-entry-items.result.now) n c.entry-item.result refl c.loop-entry-test.true c.entry-item.is) in
    elim c.match-taken_in.branch [
      | in-Some+else-not-is_sent w ↦
          let frame = w.in-Some.frame.now in
          let some : taken_in c.entry-item.result ≡ Some frame = sym c.taken_in.ensures ∙ ap option_copied w.in-Some.is in
          let there : slice_get sent place ≡ Some frame = sym w.sent_down-sent.ensures ∙ w.is_sent.ensures.0 w.if-not-is_sent.false in
          subst (λ k. Agrees sent passed k (n + 1)) (sym w.place-is) (agrees_on (taken_in) entries sent place n c.entry-item.result frame at some there c.loop-entry.invariant)
      | in_default w ↦
          let none : taken_in c.entry-item.result ≡ None = sym c.taken_in.ensures ∙ ap option_copied w.in_default.is in
          subst (λ k. Agrees sent passed k (n + 1)) (sym w.place-is) (agrees_over (taken_in) entries sent place n c.entry-item.result at none c.loop-entry.invariant)
    ]

pub returns-clause-found : goal.returns-clause-found
returns-clause-found c =
    let entries = c.args.end.now.monitor.trail in
    let h = c.loop-entry.invariant in
    let past = c.loop-entry-test.false in
    let all : take c.loop-entry.entry-index entries ≡ entries = take_all c.loop-entry.entry-index entries (let l = ap length c.trail-entry-items.ensures.value in omega (arith, past, l)) in
    let frames = filter_map (taken_in) (take c.loop-entry.entry-index entries) in
    c.check_odd.ensures (down_link c.args.mon.0 c.args.coordinator.now.journal c.args.end.now.monitor.trail c.args.end.now.odd) frames (record {
      received_is = ap (λ xs. with_odd (filter_map (taken_in) xs) (c.args.end.now.odd)) (sym all) ∙ ap (with_odd frames) (sym (c.as_ref.ensures.value));
      front = h.front;
      count = h.count;
      next_is = sym c.sent_down.ensures;
    })
