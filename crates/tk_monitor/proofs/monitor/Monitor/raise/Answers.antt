use Rattle.std.proofs.Common.{◌≡◌, ℕ, ◌+◌, ◌-◌, ◌≤◌, ◌∙◌, ◌∷◌, ◌++◌, [], List, length, get_or, suc, Some, None, ap, ap₂, sym, subst, refl, arith}
use Rattle.std.specs.Prelude.{ℤ, FitsSigned, option_map}
use Rattle.std.specs.Int.{w128}
use Rattle.std.proofs.lemmas.Int.{ints, to_z-of_z}
use Rattle.std.proofs.lemmas.List.{get_or_default}
use Rattle.tk_input.specs.declared.change.Change.{Change}
use Rattle.tk_trail.specs.Setup.{MonitorSetup}
use Rattle.tk_trail.specs.declared.entry.Entry.TheVariants as e
use Rattle.tk_trail.specs.Legal.{HasNext, place_of, part_length}
use Rattle.tk_monitor.specs.Trail.{TrailView}
use Rattle.tk_monitor.specs.Board.{shifted}
use Rattle.tk_monitor.specs.Kept.{next_in}
use Rattle.tk_monitor.specs.Monitored.{MonitorView}
use Rattle.tk_monitor.proofs.PartsLemmas.{left_less, got_below}
use Rattle.tk_monitor.proofs.KeptLemmas.{kept_places, kept_next, kept_raised, kept_small, kept_size, kept_broken, kept_ended, change_object}
use Rattle.tk_monitor.proofs.monitor.Monitor.raise.Goals as goal

pub next_change-requires-clause-places : goal.next_change-requires-clause-places
next_change-requires-clause-places c =
    let inside = c.self.inside in
    let setup : MonitorSetup = record { number = inside.number.0; objects = inside.settings.objects; parts = inside.parts.items; from = inside.from } in
    rw (c.as_slice.ensures.value, c.as_slice-2.ensures.value) (kept_places setup inside.trail inside.board inside.next.items inside.phase c.self.invariant)

pub index_mut-requires : goal.index_mut-requires
index_mut-requires c =
    let inside = c.self.inside in
    let setup : MonitorSetup = record { number = inside.number.0; objects = inside.settings.objects; parts = inside.parts.items; from = inside.from } in
    let i = c.args.f.0 - 1 in
    let kept = c.self.invariant in
    let parts : inside.parts.items ≡ c.args.self.now.setup.parts = ap (λ (m : MonitorView). m.setup.parts) c.self.view_is in
    let low = c.requires.from_one in
    let high : c.args.f.0 ≤ length inside.parts.items = omega (arith, c.requires.within, ap (λ (ps : List (List (ℕ × ℤ))). length ps) parts) in
    omega (arith, low, high, (kept_places setup inside.trail inside.board inside.next.items inside.phase kept).shape)

pub overflow_add-index_mut : goal.overflow_add-index_mut
overflow_add-index_mut c =
    let inside = c.self.inside in
    let setup : MonitorSetup = record { number = inside.number.0; objects = inside.settings.objects; parts = inside.parts.items; from = inside.from } in
    let i = c.args.f.0 - 1 in
    let kept = c.self.invariant in
    let parts : inside.parts.items ≡ c.args.self.now.setup.parts = ap (λ (m : MonitorView). m.setup.parts) c.self.view_is in
    let low = c.requires.from_one in
    let high : c.args.f.0 ≤ length inside.parts.items = omega (arith, c.requires.within, ap (λ (ps : List (List (ℕ × ℤ))). length ps) parts) in
    let change : ℕ × ℤ = (c.in-Some.change.obj.0, c.in-Some.change.by) in
    let got : next_in inside.parts.items inside.next.items i ≡ Some change =
    sym (c.next_change.ensures ∙ ap₂ (λ (ps : List (List (ℕ × ℤ))) (ns : List ℕ). next_in ps ns i) c.as_slice.ensures.value c.as_slice-2.ensures.value) ∙ ap (option_map (λ (x : Change). (x.obj.0, x.by))) c.in-Some.is in
    let are = kept_places setup inside.trail inside.board inside.next.items inside.phase kept in
    let place : c.index_mut.result.now ≡ get_or inside.next.items i 0 = c.index_mut.ensures.value ∙ get_or_default inside.next.items i c.index_mut.result.now 0 (omega (arith, low, high, are.shape)) in
    omega (arith, place, got_below (get_or inside.parts.items i []) (get_or inside.next.items i 0) change got, kept.within.parts.lengths i [] (omega (arith, low, high)))

pub shift-requires-clause-object : goal.shift-requires-clause-object
shift-requires-clause-object c =
    let inside = c.self.inside in
    let setup : MonitorSetup = record { number = inside.number.0; objects = inside.settings.objects; parts = inside.parts.items; from = inside.from } in
    let i = c.args.f.0 - 1 in
    let kept = c.self.invariant in
    let parts : inside.parts.items ≡ c.args.self.now.setup.parts = ap (λ (m : MonitorView). m.setup.parts) c.self.view_is in
    let low = c.requires.from_one in
    let high : c.args.f.0 ≤ length inside.parts.items = omega (arith, c.requires.within, ap (λ (ps : List (List (ℕ × ℤ))). length ps) parts) in
    let change : ℕ × ℤ = (c.in-Some.change.obj.0, c.in-Some.change.by) in
    let got : next_in inside.parts.items inside.next.items i ≡ Some change =
    sym (c.next_change.ensures ∙ ap₂ (λ (ps : List (List (ℕ × ℤ))) (ns : List ℕ). next_in ps ns i) c.as_slice.ensures.value c.as_slice-2.ensures.value) ∙ ap (option_map (λ (x : Change). (x.obj.0, x.by))) c.in-Some.is in
    let object = change_object inside.settings.objects inside.parts.items inside.next.items i change kept.within.parts (omega (arith, low, high)) got in
    record { from_one = object.0; within = omega (arith, object.1, kept_size setup inside.trail.entries inside.board kept.standing) }

pub shift-requires-clause-size : goal.shift-requires-clause-size
shift-requires-clause-size c =
    let inside = c.self.inside in
    let setup : MonitorSetup = record { number = inside.number.0; objects = inside.settings.objects; parts = inside.parts.items; from = inside.from } in
    let i = c.args.f.0 - 1 in
    let kept = c.self.invariant in
    let parts : inside.parts.items ≡ c.args.self.now.setup.parts = ap (λ (m : MonitorView). m.setup.parts) c.self.view_is in
    let low = c.requires.from_one in
    let high : c.args.f.0 ≤ length inside.parts.items = omega (arith, c.requires.within, ap (λ (ps : List (List (ℕ × ℤ))). length ps) parts) in
    let change : ℕ × ℤ = (c.in-Some.change.obj.0, c.in-Some.change.by) in
    let got : next_in inside.parts.items inside.next.items i ≡ Some change =
    sym (c.next_change.ensures ∙ ap₂ (λ (ps : List (List (ℕ × ℤ))) (ns : List ℕ). next_in ps ns i) c.as_slice.ensures.value c.as_slice-2.ensures.value) ∙ ap (option_map (λ (x : Change). (x.obj.0, x.by))) c.in-Some.is in
    let fits : FitsSigned w128 c.in-Some.change.by = omega (arith, ints) in
    rw (to_z-of_z w128 c.in-Some.change.by fits) (kept_small setup inside.trail inside.board inside.next.items inside.phase c.args.f change kept low high got)

pub raised-requires : goal.raised-requires
raised-requires c =
    let inside = c.self.inside in
    let setup : MonitorSetup = record { number = inside.number.0; objects = inside.settings.objects; parts = inside.parts.items; from = inside.from } in
    let i = c.args.f.0 - 1 in
    let kept = c.self.invariant in
    let parts : inside.parts.items ≡ c.args.self.now.setup.parts = ap (λ (m : MonitorView). m.setup.parts) c.self.view_is in
    let low = c.requires.from_one in
    let high : c.args.f.0 ≤ length inside.parts.items = omega (arith, c.requires.within, ap (λ (ps : List (List (ℕ × ℤ))). length ps) parts) in
    let change : ℕ × ℤ = (c.in-Some.change.obj.0, c.in-Some.change.by) in
    let got : next_in inside.parts.items inside.next.items i ≡ Some change =
    sym (c.next_change.ensures ∙ ap₂ (λ (ps : List (List (ℕ × ℤ))) (ns : List ℕ). next_in ps ns i) c.as_slice.ensures.value c.as_slice-2.ensures.value) ∙ ap (option_map (λ (x : Change). (x.obj.0, x.by))) c.in-Some.is in
    let are = kept_places setup inside.trail inside.board inside.next.items inside.phase kept in
    omega (arith, kept.room, left_less inside.parts.items inside.next.items i (omega (arith, low, high)) (omega (arith, low, high, are.shape)) (got_below (get_or inside.parts.items i []) (get_or inside.next.items i 0) change got))

pub invariant_of-self : goal.invariant_of-self
invariant_of-self c =
    let inside = c.self.inside in
    let setup : MonitorSetup = record { number = inside.number.0; objects = inside.settings.objects; parts = inside.parts.items; from = inside.from } in
    let i = c.args.f.0 - 1 in
    let kept = c.self.invariant in
    let parts : inside.parts.items ≡ c.args.self.now.setup.parts = ap (λ (m : MonitorView). m.setup.parts) c.self.view_is in
    let low = c.requires.from_one in
    let high : c.args.f.0 ≤ length inside.parts.items = omega (arith, c.requires.within, ap (λ (ps : List (List (ℕ × ℤ))). length ps) parts) in
    let change : ℕ × ℤ = (c.in-Some.change.obj.0, c.in-Some.change.by) in
    let got : next_in inside.parts.items inside.next.items i ≡ Some change =
    sym (c.next_change.ensures ∙ ap₂ (λ (ps : List (List (ℕ × ℤ))) (ns : List ℕ). next_in ps ns i) c.as_slice.ensures.value c.as_slice-2.ensures.value) ∙ ap (option_map (λ (x : Change). (x.obj.0, x.by))) c.in-Some.is in
    let are = kept_places setup inside.trail inside.board inside.next.items inside.phase kept in
    let fits : FitsSigned w128 c.in-Some.change.by = omega (arith, ints) in
    let place : c.index_mut.result.now + 1 ≡ suc (get_or inside.next.items i 0) = omega (arith, c.index_mut.ensures.value ∙ get_or_default inside.next.items i c.index_mut.result.now 0 (omega (arith, low, high, are.shape))) in
    let board : c.shift.new.self ≡ shifted inside.board change =
    c.shift.ensures ∙ ap (λ (z : ℤ). shifted inside.board (c.in-Some.change.obj.0, z)) (to_z-of_z w128 c.in-Some.change.by fits) in
    let fewer = left_less inside.parts.items inside.next.items i (omega (arith, low, high)) (omega (arith, low, high, are.shape)) (got_below (get_or inside.parts.items i []) (get_or inside.next.items i 0) change got) in
    rw (board, place)
    (kept_raised setup inside.trail c.raised.new.self inside.board inside.next.items inside.phase c.args.f change kept low high got
    (ap (λ (l : TrailView). l.entries) c.raised.ensures)
    (omega (arith, ap (λ (l : TrailView). l.raises) c.raised.ensures, kept.room, fewer)))

pub returns-in-None-clause-answer : goal.returns-in-None-clause-answer
returns-in-None-clause-answer c =
    let inside = c.self.inside in
    let setup : MonitorSetup = record { number = inside.number.0; objects = inside.settings.objects; parts = inside.parts.items; from = inside.from } in
    let i = c.args.f.0 - 1 in
    let kept = c.self.invariant in
    let parts : inside.parts.items ≡ c.args.self.now.setup.parts = ap (λ (m : MonitorView). m.setup.parts) c.self.view_is in
    let low = c.requires.from_one in
    let high : c.args.f.0 ≤ length inside.parts.items = omega (arith, c.requires.within, ap (λ (ps : List (List (ℕ × ℤ))). length ps) parts) in
    let none : next_in inside.parts.items inside.next.items i ≡ None =
    sym (c.next_change.ensures ∙ ap₂ (λ (ps : List (List (ℕ × ℤ))) (ns : List ℕ). next_in ps ns i) c.as_slice.ensures.value c.as_slice-2.ensures.value) ∙ ap (option_map (λ (x : Change). (x.obj.0, x.by))) c.in-None.is in (
      subst (λ (m : MonitorView). place_of m.setup m.trail c.args.f.0 ≡ part_length m.setup c.args.f.0) c.self.view_is
          (kept_ended setup inside.trail inside.board inside.next.items inside.phase c.args.f.0 kept none),
      refl,
    )

pub returns-in-Some-clause-answer : goal.returns-in-Some-clause-answer
returns-in-Some-clause-answer c =
    let inside = c.self.inside in
    let setup : MonitorSetup = record { number = inside.number.0; objects = inside.settings.objects; parts = inside.parts.items; from = inside.from } in
    let i = c.args.f.0 - 1 in
    let parts : inside.parts.items ≡ c.args.self.now.setup.parts = ap (λ (m : MonitorView). m.setup.parts) c.self.view_is in
    let high : c.args.f.0 ≤ length inside.parts.items = omega (arith, c.requires.within, ap (λ (ps : List (List (ℕ × ℤ))). length ps) parts) in
    let change : ℕ × ℤ = (c.in-Some.change.obj.0, c.in-Some.change.by) in
    let got : next_in inside.parts.items inside.next.items i ≡ Some change =
    sym (c.next_change.ensures ∙ ap₂ (λ (ps : List (List (ℕ × ℤ))) (ns : List ℕ). next_in ps ns i) c.as_slice.ensures.value c.as_slice-2.ensures.value) ∙ ap (option_map (λ (x : Change). (x.obj.0, x.by))) c.in-Some.is in (
      subst (λ (m : MonitorView). HasNext m.setup m.trail c.args.f.0) c.self.view_is (kept_next setup inside.trail inside.board inside.next.items inside.phase c.args.f.0 change c.self.invariant c.requires.from_one high got),
      ap (λ (l : TrailView). record { settings = inside.settings; setup = setup; trail = l.entries }) c.raised.ensures ∙ ap (λ (m : MonitorView). record m { trail = m.trail ++ e.Raised c.args.f ∷ [] }) c.self.view_is,
      c.is_broken.ensures ∙ kept_broken setup c.raised.new.self.entries c.shift.new.self (invariant_of-self c).standing,
    )

pub returns-in-Some-clause-legal : goal.returns-in-Some-clause-legal
returns-in-Some-clause-legal c = (invariant_of-self c).legal
