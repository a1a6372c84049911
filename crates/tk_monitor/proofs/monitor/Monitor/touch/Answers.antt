use Rattle.std.proofs.Common.{◌≡◌, ℕ, ◌-◌, ◌≤◌, ◌∙◌, List, length, Some, ap, ap₂, sym, arith}
use Rattle.std.specs.Prelude.{ℤ, option_map}
use Rattle.tk_input.specs.declared.change.Change.{Change}
use Rattle.tk_trail.specs.Setup.{MonitorSetup}
use Rattle.tk_monitor.specs.Kept.{next_in}
use Rattle.tk_monitor.specs.Monitored.{MonitorView}
use Rattle.tk_monitor.proofs.KeptLemmas.{kept_places, kept_size, change_object}
use Rattle.tk_monitor.proofs.monitor.Monitor.touch.Goals as goal

pub next_change-requires-clause-places : goal.next_change-requires-clause-places
next_change-requires-clause-places c =
    let inside = c.self.inside in
    let setup : MonitorSetup = record { number = inside.number.0; objects = inside.settings.objects; parts = inside.parts.items; from = inside.from } in
    rw (c.as_slice.ensures.value, c.as_slice-2.ensures.value) (kept_places setup inside.trail inside.board inside.next.items inside.phase c.self.invariant)

-- a change is of an object that has a level
pub touch-requires : goal.touch-requires
touch-requires c =
    let inside = c.self.inside in
    let setup : MonitorSetup = record { number = inside.number.0; objects = inside.settings.objects; parts = inside.parts.items; from = inside.from } in
    let i = c.args.f.0 - 1 in
    let kept = c.self.invariant in
    let parts : inside.parts.items ≡ c.args.self.now.setup.parts = ap (λ (m : MonitorView). m.setup.parts) c.self.view_is in
    let low = c.requires.from_one in
    let high : c.args.f.0 ≤ length inside.parts.items = omega (arith, c.requires.within, ap (λ (ps : List (List (ℕ × ℤ))). length ps) parts) in
    let change : ℕ × ℤ = (c.in-Some.change.obj.0, c.in-Some.change.by) in
    let got : next_in inside.parts.items inside.next.items i ≡ Some change =
    sym (c.next_change.ensures ∙ ap₂ (λ (ps : List (List (ℕ × ℤ))) (ns : List ℕ). next_in ps ns i) c.as_slice.ensures.value c.as_slice-2.ensures.value) ∙ ap (option_map (λ (x : Change). (x.obj.0, x.by))) c.in-Some.is in
    let object = change_object inside.settings.objects inside.parts.items inside.next.items i change kept.within.parts (omega (arith, low, high)) got in
    record { from_one = object.0; within = omega (arith, object.1, kept_size setup inside.trail.entries inside.board kept.standing) }
