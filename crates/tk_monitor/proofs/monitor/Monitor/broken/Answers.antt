use Rattle.std.proofs.Common.{◌∙◌, ap}
use Rattle.tk_trail.specs.Setup.{MonitorSetup}
use Rattle.tk_monitor.specs.Monitored.{MonitorView}
use Rattle.tk_trail.specs.Readings.{is_broken}
use Rattle.tk_monitor.proofs.KeptLemmas.{kept_broken}
use Rattle.tk_monitor.proofs.monitor.Monitor.broken.Goals as goal

pub returns : goal.returns
returns c =
    let inside = c.self.inside in
    let setup : MonitorSetup = record { number = inside.number.0; objects = inside.settings.objects; parts = inside.parts.items; from = inside.from } in
    c.is_broken.ensures ∙ kept_broken setup inside.trail.entries inside.board c.self.invariant.standing ∙ ap (λ (m : MonitorView). is_broken m.setup m.trail) c.self.view_is
