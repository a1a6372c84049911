use Rattle.std.proofs.Common.{◌≡◌, ◌∙◌, ap, arith}
use Rattle.std.specs.Prelude.{FitsSigned}
use Rattle.std.specs.Int.{w128}
use Rattle.std.proofs.lemmas.Int.{ints, to_z-of_z}
use Rattle.tk_trail.specs.Setup.{MonitorSetup}
use Rattle.tk_monitor.specs.Monitored.{MonitorView}
use Rattle.tk_border.specs.Levels.{level_at}
use Rattle.tk_trail.specs.Readings.{value_of_object}
use Rattle.tk_trail.proofs.LevelsLemmas.{level_at-values_of}
use Rattle.tk_monitor.specs.Board.{BoardView}
use Rattle.tk_monitor.proofs.KeptLemmas.{kept_size}
use Rattle.tk_monitor.proofs.monitor.Monitor.value.Goals as goal

pub value-requires : goal.value-requires
value-requires c =
    let inside = c.self.inside in
    let setup : MonitorSetup = record { number = inside.number.0; objects = inside.settings.objects; parts = inside.parts.items; from = inside.from } in
    let size : inside.settings.objects ≡ c.args.self.now.setup.objects = ap (λ (m : MonitorView). m.setup.objects) c.self.view_is in
    record {
      from_one = c.requires.from_one;
      within = omega (arith, c.requires.within, size, kept_size setup inside.trail.entries inside.board c.self.invariant.standing);
    }

pub returns : goal.returns
returns c =
    let inside = c.self.inside in
    let setup : MonitorSetup = record { number = inside.number.0; objects = inside.settings.objects; parts = inside.parts.items; from = inside.from } in
    let size : inside.settings.objects ≡ c.args.self.now.setup.objects = ap (λ (m : MonitorView). m.setup.objects) c.self.view_is in
    let fits : FitsSigned w128 c.value.result = omega (arith, ints) in
    to_z-of_z w128 c.value.result fits
    ∙ c.value.ensures
    ∙ ap (λ (s : BoardView). level_at s.values c.args.o.0) c.self.invariant.standing
    ∙ level_at-values_of setup inside.trail.entries c.args.o.0 c.requires.from_one (omega (arith, c.requires.within, size))
    ∙ ap (λ (m : MonitorView). value_of_object m.setup m.trail c.args.o.0) c.self.view_is
