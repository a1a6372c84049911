use Rattle.std.proofs.Common.{refl, ◌≡◌, ◌+◌, Some, None, length, take, ap, sym, ◌∙◌, subst, arith}
use Rattle.std.specs.Prelude.{IfErr, filter_map, slice_get}
use Rattle.std.specs.Option.{option_copied}
use Rattle.std.proofs.lemmas.Bool.{true≢false}
use Rattle.std.proofs.lemmas.List.{take_all}
use Rattle.std.proofs.lemmas.Option.{slice_get_read}
use Rattle.tk_journal.specs.Links.{got_from}
use Rattle.tk_trail.specs.Readings.{sent_by}
use Rattle.tk_story.specs.Comparing.{IsDifference}
use Rattle.tk_story.specs.Ends.{up_link, with_odd, odd_from}
use Rattle.tk_story.specs.declared.ends.difference.Direction.TheVariants.{UpLink}
use Rattle.tk_story.specs.declared.ends.received.Received.TheVariants as r
use Rattle.tk_story.proofs.EndsLemmas.{Agrees, agrees_on, agrees_over, differs_here, finds_difference}
use Rattle.tk_story.proofs.ends.comparing.check_up.Goals as goal
use Rattle.tk_story.proofs.ends.comparing.check_up.Goals.{in-Some+else-not-is_sent, in_default}

pub returns-then-not-is_sent : goal.returns-then-not-is_sent
returns-then-not-is_sent c =
    let entries = c.args.end.now.coordinator.journal in
    let sent = sent_by c.args.monitor.now.trail in
    let place = c.loop-noted.place in
    let frame = c.in-Some.frame.now in
    let at : slice_get entries c.loop-noted.noted-index ≡ Some c.noted-item.result =
    subst (λ xs. slice_get xs c.loop-noted.noted-index ≡ Some c.noted-item.result) c.journal-noted-items.ensures.value (slice_get_read c.journal-noted-items.result.now (length c.journal-noted-items.result.now) c.loop-noted.noted-index c.noted-item.result refl c.loop-noted-test.true c.noted-item.is) in
    let some : got_from c.args.mon.0 c.noted-item.result ≡ Some frame = sym c.got_from.ensures ∙ ap option_copied c.in-Some.is in
    let there = c.sent_up-sent.ensures in
    let other : slice_get sent place ≡ Some frame → ⊥ = λ e. true≢false (sym (c.is_sent.ensures.1 (there ∙ e)) ∙ c.if-not-is_sent.true) in
    let d = differs_here (got_from c.args.mon.0) entries sent (odd_from c.args.mon.0 c.args.end.now.odd) place c.loop-noted.noted-index c.noted-item.result frame at some other c.loop-noted.invariant in
    let fault = subst (λ x. IfErr c.differ.result (IsDifference c.args.mon UpLink place (option_copied c.sent_up-sent.result) (r.Frame x))) c.in_ok-try_clone.ensures c.differ.ensures.fault in
    finds_difference c.args.mon UpLink place (slice_get sent place) (r.Frame frame) (up_link c.args.mon.0 c.args.end.now.coordinator.journal c.args.end.now.odd c.args.monitor.now.trail) c.differ.result c.differ.ensures.never (subst (λ x. IfErr c.differ.result (IsDifference c.args.mon UpLink place x (r.Frame frame))) there fault) d

pub loop-noted-preserved : goal.loop-noted-preserved
loop-noted-preserved c =
    let entries = c.args.end.now.coordinator.journal in
    let sent = sent_by c.args.monitor.now.trail in
    let place = c.loop-noted.place in
    let n = c.loop-noted.noted-index in
    let passed = filter_map (got_from c.args.mon.0) (take (n + 1) entries) in
    let at : slice_get entries n ≡ Some c.noted-item.result =
    subst (λ xs. slice_get xs n ≡ Some c.noted-item.result) c.journal-noted-items.ensures.value (slice_get_read c.journal-noted-items.result.now (length c.journal-noted-items.result.now) n c.noted-item.result refl c.loop-noted-test.true c.noted-item.is) in
    elim c.match-got_from.branch [
      | in-Some+else-not-is_sent w ↦
          let frame = w.in-Some.frame.now in
          let some : got_from c.args.mon.0 c.noted-item.result ≡ Some frame = sym c.got_from.ensures ∙ ap option_copied w.in-Some.is in
          let there : slice_get sent place ≡ Some frame = sym w.sent_up-sent.ensures ∙ w.is_sent.ensures.0 w.if-not-is_sent.false in
          subst (λ k. Agrees sent passed k (n + 1)) (sym w.place-is) (agrees_on (got_from c.args.mon.0) entries sent place n c.noted-item.result frame at some there c.loop-noted.invariant)
      | in_default w ↦
          let none : got_from c.args.mon.0 c.noted-item.result ≡ None = sym c.got_from.ensures ∙ ap option_copied w.in_default.is in
          subst (λ k. Agrees sent passed k (n + 1)) (sym w.place-is) (agrees_over (got_from c.args.mon.0) entries sent place n c.noted-item.result at none c.loop-noted.invariant)
    ]

pub returns : goal.returns
returns c =
    let entries = c.args.end.now.coordinator.journal in
    let h = c.loop-noted.invariant in
    let past = c.loop-noted-test.false in
    let all : take c.loop-noted.noted-index entries ≡ entries = take_all c.loop-noted.noted-index entries (let l = ap length c.journal-noted-items.ensures.value in omega (arith, past, l)) in
    let frames = filter_map (got_from c.args.mon.0) (take c.loop-noted.noted-index entries) in
    c.check_odd.ensures (up_link c.args.mon.0 c.args.end.now.coordinator.journal c.args.end.now.odd c.args.monitor.now.trail) frames (record {
      received_is = ap (λ xs. with_odd (filter_map (got_from c.args.mon.0) xs) (odd_from c.args.mon.0 c.args.end.now.odd)) (sym all) ∙ ap (with_odd frames) (sym (c.odd_from.ensures));
      front = h.front;
      count = h.count;
      next_is = sym c.sent_up.ensures;
    })
