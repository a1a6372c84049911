use Rattle.std.proofs.Common.{◌∙◌, ◌==◌, List, ap}
use Rattle.tk_trail.specs.Setup.{MonitorSetup}
use Rattle.tk_trail.specs.declared.entry.Entry.{Entry}
use Rattle.tk_monitor.specs.Monitored.{MonitorView, checked_at}
use Rattle.tk_monitor.specs.declared.phase.Phase.{Phase}
use Rattle.tk_monitor.proofs.KeptLemmas.{checked_made, may_made, kept_broken, kept_ends}
use Rattle.tk_monitor.proofs.monitor.Monitor.checked.Goals as goal

pub returns-clause-value : goal.returns-clause-value
returns-clause-value c =
    let inside = c.self.inside in
    let kept = c.self.invariant in
    let setup : MonitorSetup = record { number = inside.number.0; objects = inside.settings.objects; parts = inside.parts.items; from = inside.from } in
    let trail : List Entry = inside.trail.entries in
    c.due.ensures
    ∙ checked_made setup trail c.may_report.result c.is_broken.result (c.raises-ended.result == 0) inside.phase.told
    (c.may_report.ensures ∙ may_made trail inside.phase kept.phase_is)
    (c.is_broken.ensures ∙ kept_broken setup trail inside.board kept.standing)
    (ap (λ n. n == 0) c.raises-ended.ensures ∙ kept_ends setup inside.trail inside.board inside.next.items inside.phase kept)
    (ap (λ (p : Phase). p.told) kept.phase_is)
    ∙ ap (λ (m : MonitorView). checked_at m.setup m.trail) c.self.view_is
