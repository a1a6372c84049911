use Rattle.std.proofs.Common.{◌≡◌, ℕ, ◌+◌, ◌-◌, ◌<◌, ◌∙◌, List, [], length, get_or, take, ap, arith}
use Rattle.std.specs.List.{zip}
use Rattle.std.proofs.lemmas.List.{take_all}
use Rattle.std.proofs.lemmas.Option.{slice_get-get_or}
use Rattle.std.proofs.lemmas.Slice.Zip.{length-zip}
use Rattle.tk_input.specs.Logs.{AreParts, ArePlaces, parts_of, places_of}
use Rattle.tk_monitor.proofs.PartsLemmas.{left_more, left_count}
use Rattle.tk_world.proofs.left.left_of.Goals as goal

pub loop-f-preserved : goal.loop-f-preserved
loop-f-preserved c =
    let f = c.loop-f.f in
    let mon = c.args.mon.0 in
    let parts = parts_of c.args.logs.now.logs mon in
    let places = places_of c.args.from.now mon in
    let are : ArePlaces parts places = c.requires.cut.each (mon - 1) in
    let shape = are.shape in
    let feeders = c.feeders-f-end.ensures.value in
    let below : f < length parts = omega (arith, c.loop-f-test.true, feeders) in
    let logs = c.feeders-f-end.ensures.limits in
    let limits : AreParts c.args.logs.now.objects parts = logs.each (mon - 1) [] (omega (arith, c.requires.monitor.0, c.requires.monitor.1)) in
    let here : c.at-places.result.now ≡ places = (
    let e = slice_get-get_or c.args.from.now (mon - 1) [] (let s = c.requires.cut.shape in omega (arith, s, c.requires.monitor.0, c.requires.monitor.1)) in
    let h = c.at-places.ensures in
    cc) in
    let place : c.at.result ≡ get_or places f 0 = c.at.ensures ∙ ap (λ (xs : List ℕ). get_or xs f 0) here in
    let size : c.length-length.result ≡ length (get_or parts f []) = c.length-length.ensures ∙ ap (λ (i : ℕ). length (get_or parts i [])) (let e : f + 1 - 1 ≡ f = omega arith in e) in
    let most = limits.lengths f [] below in
    let more = left_more parts places f below (omega (arith, below, shape)) in
    record {
      left = omega (arith, more, c.loop-f.invariant.left, place, size);
      few = omega (arith, size, most, c.loop-f.invariant.few);
    }

pub returns-clause-value : goal.returns-clause-value
returns-clause-value c =
    let mon = c.args.mon.0 in
    let parts = parts_of c.args.logs.now.logs mon in
    let places = places_of c.args.from.now mon in
    let feeders = c.feeders-f-end.ensures.value in
    let all : take c.loop-f.f (zip parts places) ≡ zip parts places = take_all c.loop-f.f (zip parts places) (omega (arith, length-zip parts places, c.loop-f-test.false, feeders)) in
    c.loop-f.invariant.left ∙ ap left_count all
