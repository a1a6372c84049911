use Rattle.std.proofs.Common.{◌≡◌, ℕ, ◌-◌, ◌∙◌, List, length, get_or, ap, arith}
use Rattle.std.specs.Prelude.{ℤ}
use Rattle.std.proofs.lemmas.List.{get_or_default}
use Rattle.tk_trail.specs.Legal.{place_of}
use Rattle.tk_trail.specs.Setup.{MonitorSetup}
use Rattle.tk_monitor.specs.Monitored.{MonitorView}
use Rattle.tk_monitor.proofs.KeptLemmas.{kept_places}
use Rattle.tk_monitor.proofs.monitor.Monitor.place.Goals as goal

pub index-requires : goal.index-requires
index-requires c =
    let inside = c.self.inside in
    let setup : MonitorSetup = record { number = inside.number.0; objects = inside.settings.objects; parts = inside.parts.items; from = inside.from } in
    let parts = ap (λ (m : MonitorView). length m.setup.parts) c.self.view_is in
    let are = kept_places setup inside.trail inside.board inside.next.items inside.phase c.self.invariant in
    omega (arith, c.requires.from_one, c.requires.within, parts, are.shape)

pub returns : goal.returns
returns c =
    let inside = c.self.inside in
    let setup : MonitorSetup = record { number = inside.number.0; objects = inside.settings.objects; parts = inside.parts.items; from = inside.from } in
    let g = c.args.f.0 in
    let parts = ap (λ (m : MonitorView). length m.setup.parts) c.self.view_is in
    let are = kept_places setup inside.trail inside.board inside.next.items inside.phase c.self.invariant in
    c.index.ensures
    ∙ get_or_default inside.next.items (g - 1) c.index.result.now 0 (omega (arith, c.requires.from_one, c.requires.within, parts, are.shape))
    ∙ ap (λ (ps : List ℕ). get_or ps (g - 1) 0) c.self.invariant.places
    ∙ ap (λ (m : MonitorView). place_of m.setup m.trail g) c.self.view_is
