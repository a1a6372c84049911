use Rattle.std.proofs.Common.{◌≡◌, ◌-◌, ◌≤◌, if◌then◌else◌, List, [], length, get_or, arith, ap, ◌∙◌}
use Rattle.std.proofs.lemmas.List.{get_or_default}
use Rattle.std.proofs.lemmas.Option.{get_or_from_slice_get}
use Rattle.tk_story.specs.Story.{trail_of}
use Rattle.tk_trail.specs.declared.entry.Entry.{Entry}
use Rattle.tk_world.proofs.SerializingLemmas.{none_ahead, place_most}
use Rattle.tk_world.proofs.serializing.go_to_end.Goals as goal

pub returns-clause-end : goal.returns-clause-end
returns-clause-end c =
    let s = c.args.story.now.story in
    let i = c.args.mon.0 - 1 in
    let places = c.loop-mon.walk.places.items in
    let w = c.loop-mon.invariant.walking in
    let place : c.index.result.now ≡ get_or places i 0 =
    c.index.ensures ∙ get_or_default places i c.index.result.now 0 (omega (arith, w.count, c.requires.monitor.from_one, c.requires.monitor.within)) in
    let trail : length (trail_of s c.args.mon.0) ≡ length c.trail.result.now = ap (λ (xs : List Entry). length xs) (get_or_from_slice_get s.trails i c.trail.result.now [] c.trail.ensures) in
    let most : get_or places i 0 ≤ length (trail_of s c.args.mon.0) = place_most s places c.loop-mon.walk.events.items [] 0 i w in
    omega (arith, place, trail, most, c.loop-mon-test.false)

pub loop-mon-preserved : goal.loop-mon-preserved
loop-mon-preserved c = record {
  walking = none_ahead c.args.story.now.story c.step.new.walk.places.items c.step.new.walk.events.items (if c.in_ok-step.field-0 then c.args.mon.0 else 0) (c.in_ok-step.ensures.walking [] c.loop-mon.invariant.walking tt);
  others = λ i apart. c.in_ok-step.ensures.others i apart ∙ c.loop-mon.invariant.others i apart;
}

pub step-requires-clause-can : goal.step-requires-clause-can
step-requires-clause-can c =
    let s = c.args.story.now.story in
    let i = c.args.mon.0 - 1 in
    let places = c.loop-mon.walk.places.items in
    let w = c.loop-mon.invariant.walking in
    let place : c.index.result.now ≡ get_or places i 0 =
    c.index.ensures ∙ get_or_default places i c.index.result.now 0 (omega (arith, w.count, c.requires.monitor.from_one, c.requires.monitor.within)) in
    let trail : length (trail_of s c.args.mon.0) ≡ length c.trail.result.now = ap (λ (xs : List Entry). length xs) (get_or_from_slice_get s.trails i c.trail.result.now [] c.trail.ensures) in
    record {
      left = [];
      walking = w;
      turn = tt;
      more = omega (arith, place, trail, c.loop-mon-test.true);
    }

pub loop-mon-smaller : goal.loop-mon-smaller
loop-mon-smaller c =
    let s = c.args.story.now.story in
    let i = c.args.mon.0 - 1 in
    let places = c.loop-mon.walk.places.items in
    let w = c.loop-mon.invariant.walking in
    let place : c.index.result.now ≡ get_or places i 0 =
    c.index.ensures ∙ get_or_default places i c.index.result.now 0 (omega (arith, w.count, c.requires.monitor.from_one, c.requires.monitor.within)) in
    let trail : length (trail_of s c.args.mon.0) ≡ length c.trail.result.now = ap (λ (xs : List Entry). length xs) (get_or_from_slice_get s.trails i c.trail.result.now [] c.trail.ensures) in
    let further = c.in_ok-step.ensures.further in
    omega (arith, place, trail, c.loop-mon-test.true, further)
