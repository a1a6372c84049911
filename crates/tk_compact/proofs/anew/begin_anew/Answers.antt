use Rattle.std.proofs.Common.{◌≡◌, ℕ, ◌<◌, ◌∙◌, ◌++◌, ◌∷◌, [], Bool, List, length, sym, ap, ap₂, subst, arith}
use Rattle.std.specs.Prelude.{ℤ, IfOk}
use Rattle.tk_base.specs.Settings.{Setup}
use Rattle.tk_input.specs.Logs.{ArePlaces, AreParts}
use Rattle.tk_monitor.specs.Monitored.{MonitorView}
use Rattle.tk_compact.specs.Anew.{anew, closer, open_streams}
use Rattle.tk_compact.proofs.AnewLemmas.{anew_setup}
use Rattle.tk_compact.proofs.BeginLemmas.{base_few, begun_made, count_open, count_streams, parts_more, parts_whole, starts_more, starts_whole}
use Rattle.tk_compact.proofs.anew.begin_anew.Goals as goal

pub overflow_cast-i : goal.overflow_cast-i
overflow_cast-i c =
    let m = c.args.monitor.now in
    let low = c.loop-i-test.true in
    let count = count_streams m.setup m.trail c.len-streams.result c.in_ok-places.field-0 c.requires.setup c.len-streams.ensures c.in_ok-places.ensures in
    omega (arith, low, count, c.requires.setup.parts.feeders)

pub overflow_add-i : goal.overflow_add-i
overflow_add-i c =
    let m = c.args.monitor.now in
    let low = c.loop-i-test.true in
    let count = count_streams m.setup m.trail c.len-streams.result c.in_ok-places.field-0 c.requires.setup c.len-streams.ensures c.in_ok-places.ensures in
    omega (arith, low, count, c.requires.setup.parts.feeders)

pub is_open-opened-requires : goal.is_open-opened-requires
is_open-opened-requires c =
    let m = c.args.monitor.now in
    let low = c.loop-i-test.true in
    let count = count_streams m.setup m.trail c.len-streams.result c.in_ok-places.field-0 c.requires.setup c.len-streams.ensures c.in_ok-places.ensures in
    record { from_one = omega arith; within = omega (arith, low, count) }

pub add_part-requires : goal.add_part-requires
add_part-requires c =
    let m = c.args.monitor.now in
    let few = base_few m.setup m.trail c.loop-i.i c.requires.setup in
    let is = ap (λ (cs : List (ℕ × ℤ)). length cs) c.in_ok-base_at.ensures in
    omega (arith, few, is)

pub loop-i-preserved : goal.loop-i-preserved
loop-i-preserved c =
    let m = c.args.monitor.now in
    let i = c.loop-i.i in
    let low = c.loop-i-test.true in
    let count = count_streams m.setup m.trail c.len-streams.result c.in_ok-places.field-0 c.requires.setup c.len-streams.ensures c.in_ok-places.ensures in
    let inside : i < length m.setup.parts = omega (arith, low, count) in
    record {
      parts =
          c.in_ok-add_part.ensures.part
          ∙ ap₂ (λ (ps : List (List (ℕ × ℤ))) (p : List (ℕ × ℤ)). ps ++ p ∷ []) c.loop-i.invariant.parts (ap₂ (λ (cs : List (ℕ × ℤ)) (b : Bool). cs ++ closer b) c.in_ok-base_at.ensures c.is_open-opened.ensures)
          ∙ sym (parts_more m.setup m.trail i c.requires.setup inside);
      starts =
          c.in_ok-add_part.ensures.start
          ∙ ap₂ (λ (ns : List ℕ) (n : ℕ). ns ++ n ∷ []) c.loop-i.invariant.starts (ap (λ (cs : List (ℕ × ℤ)). length cs) c.in_ok-base_at.ensures)
          ∙ sym (starts_more m.setup m.trail i c.requires.setup inside);
    }

pub new-requires-clause-parts : goal.new-requires-clause-parts
new-requires-clause-parts c =
    let m = c.args.monitor.now in
    let is = c.requires.setup in
    let high = c.loop-i-test.false in
    let count = count_streams m.setup m.trail c.len-streams.result c.in_ok-places.field-0 is c.len-streams.ensures c.in_ok-places.ensures in
    let whole = parts_whole m.setup m.trail c.loop-i.i c.loop-i.parts.items is c.loop-i.invariant.parts (omega (arith, high, count)) in
    let begins = anew_setup m.setup m.trail (open_streams m.setup m.trail) is (count_open m.setup m.trail is) in
    let objects : m.setup.objects ≡ c.settings.result.now.objects = c.settings.ensures.objects ∙ ap (λ (s : Setup). s.objects) (sym c.settings.ensures.value) in
    subst (λ (n : ℕ). AreParts n c.loop-i.parts.items) objects (subst (AreParts m.setup.objects) (sym whole) begins.parts)

pub new-requires-clause-places : goal.new-requires-clause-places
new-requires-clause-places c =
    let m = c.args.monitor.now in
    let is = c.requires.setup in
    let high = c.loop-i-test.false in
    let count = count_streams m.setup m.trail c.len-streams.result c.in_ok-places.field-0 is c.len-streams.ensures c.in_ok-places.ensures in
    let whole = parts_whole m.setup m.trail c.loop-i.i c.loop-i.parts.items is c.loop-i.invariant.parts (omega (arith, high, count)) in
    let starts = c.new-start.ensures ∙ starts_whole m.setup m.trail c.loop-i.i c.loop-i.from.items is c.loop-i.invariant.starts (omega (arith, high, count)) in
    let begins = anew_setup m.setup m.trail (open_streams m.setup m.trail) is (count_open m.setup m.trail is) in
    subst (λ (ps : List (List (ℕ × ℤ))). ArePlaces ps c.new-start.result) (sym whole) (subst (ArePlaces (anew m.setup m.trail (open_streams m.setup m.trail)).parts) (sym starts) begins.from)

pub returns-clause-ok : goal.returns-clause-ok
returns-clause-ok c =
    let m = c.args.monitor.now in
    let is = c.requires.setup in
    let high = c.loop-i-test.false in
    let count = count_streams m.setup m.trail c.len-streams.result c.in_ok-places.field-0 is c.len-streams.ensures c.in_ok-places.ensures in
    let whole = parts_whole m.setup m.trail c.loop-i.i c.loop-i.parts.items is c.loop-i.invariant.parts (omega (arith, high, count)) in
    let starts = c.new-start.ensures ∙ starts_whole m.setup m.trail c.loop-i.i c.loop-i.from.items is c.loop-i.invariant.starts (omega (arith, high, count)) in
    subst (λ (made_one : MonitorView). IfOk c.new.result (λ n. n ≡ made_one))
    (begun_made m c.settings.result.now c.number.result.0 c.loop-i.parts.items c.new-start.result c.settings.ensures.value c.settings.ensures.objects c.number.ensures whole starts)
    c.new.ensures.ok
