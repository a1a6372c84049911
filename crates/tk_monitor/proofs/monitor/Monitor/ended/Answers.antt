use Rattle.std.proofs.Common.{◌==◌, ◌∙◌, ap}
use Rattle.tk_trail.specs.Setup.{MonitorSetup}
use Rattle.tk_monitor.specs.Monitored.{MonitorView}
use Rattle.tk_trail.specs.Readings.{at_ends}
use Rattle.tk_monitor.proofs.KeptLemmas.{kept_ends}
use Rattle.tk_monitor.proofs.monitor.Monitor.ended.Goals as goal

pub returns : goal.returns
returns c =
    let inside = c.self.inside in
    let setup : MonitorSetup = record { number = inside.number.0; objects = inside.settings.objects; parts = inside.parts.items; from = inside.from } in
    ap (λ n. n == 0) c.raises.ensures ∙ kept_ends setup inside.trail inside.board inside.next.items inside.phase c.self.invariant ∙ ap (λ (m : MonitorView). at_ends m.setup m.trail) c.self.view_is
