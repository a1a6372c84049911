use Rattle.std.proofs.Common.{◌∙◌, ◌<◌, ℕ, List, [], Some, Option, length, sym, ap, arith}
use Rattle.std.specs.List.{zip}
use Rattle.tk_window.specs.Expanded.{ends_shown}
use Rattle.tk_window.specs.Window.{tick_ending}
use Rattle.tk_window.proofs.TickEndsLemmas.{found_all, found_next, found_none, length-pairs, tick_here}
use Rattle.tk_window.proofs.tick_ends.ticks_in.Goals as goal

abbrev tick_of : List ℕ × ℕ → Option ℕ
tick_of p = tick_ending p.0 p.1

pub returns-in_default : goal.returns-in_default
returns-in_default c =
    let row = c.args.row.now in
    let places = c.args.places.now in
    let f = c.loop-f.f in
    let pairs = length-pairs row places in
    let inside : f < length row = omega arith in
    let within : f < length places = omega arith in
    sym (found_none tick_of (zip (ends_shown row) places) f ([], 0) (omega (arith, pairs))
    (tick_here row places f c.at.result c.index-row-f.result c.tick_at.result inside within c.index-row-f.is c.at.ensures c.tick_at.ensures ∙ c.in_default.is))

pub loop-f-preserved : goal.loop-f-preserved
loop-f-preserved c =
    let row = c.args.row.now in
    let places = c.args.places.now in
    let f = c.loop-f.f in
    let pairs = length-pairs row places in
    let inside : f < length row = omega arith in
    let within : f < length places = omega arith in
    found_next tick_of (zip (ends_shown row) places) f ([], 0) c.loop-f.list.items c.in-Some.tick (omega (arith, pairs)) c.loop-f.invariant
    (tick_here row places f c.at.result c.index-row-f.result c.tick_at.result inside within c.index-row-f.is c.at.ensures c.tick_at.ensures ∙ c.in-Some.is)
    ∙ ap (λ (ts : List ℕ). Some ts) (sym c.in_ok-push.ensures.items)

pub returns : goal.returns
returns c =
    let row = c.args.row.now in
    let places = c.args.places.now in
    let pairs = length-pairs row places in
    ap (λ (ts : List ℕ). Some ts) c.new.ensures
    ∙ sym (found_all tick_of (zip (ends_shown row) places) c.loop-f.f c.loop-f.list.items (omega (arith, pairs)) c.loop-f.invariant)
