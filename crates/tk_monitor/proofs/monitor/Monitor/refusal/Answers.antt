use Rattle.std.proofs.Common.{◌∙◌, List, ap}
use Rattle.tk_trail.specs.Setup.{MonitorSetup}
use Rattle.tk_trail.specs.Refusal.{refusal_of}
use Rattle.tk_trail.specs.declared.entry.Entry.{Entry}
use Rattle.tk_monitor.specs.Board.{BoardView}
use Rattle.tk_monitor.specs.Monitored.{MonitorView}
use Rattle.tk_monitor.specs.declared.phase.Phase.{Phase}
use Rattle.tk_monitor.proofs.TakeLemmas.{shown_made}
use Rattle.tk_monitor.proofs.monitor.Monitor.refusal.Goals as goal

pub returns-clause-value : goal.returns-clause-value
returns-clause-value c =
    let inside = c.self.inside in
    let kept = c.self.invariant in
    let setup : MonitorSetup = record { number = inside.number.0; objects = inside.settings.objects; parts = inside.parts.items; from = inside.from } in
    let trail : List Entry = inside.trail.entries in
    c.refusal_of.ensures
    ∙ shown_made setup trail c.objects.result inside.phase.seq c.members.result.now inside.phase.told inside.phase.stopped c.args.frame.now
    c.objects.ensures.value
    (ap (λ (p : Phase). p.seq) kept.phase_is)
    (c.members.ensures.value ∙ ap (λ (s : BoardView). s.members) kept.standing)
    (ap (λ (p : Phase). p.told) kept.phase_is)
    (ap (λ (p : Phase). p.stopped) kept.phase_is)
    ∙ ap (λ (m : MonitorView). refusal_of m.setup m.trail c.args.frame.now) c.self.view_is
