use Rattle.std.proofs.Common.{◌∙◌, Some, ap}
use Rattle.tk_process.specs.Serving.EndsProcess.{Coordinated, Monitored}
use Rattle.tk_words.specs.Asked.{asked_by, asked_coordinate, asked_monitor}
use Rattle.tk_words.specs.declared.command.Command.{Command}
use Rattle.tk_process.proofs.serving.process.Goals as goal

pub returns-in-Ok-Coordinate-clause-ends : goal.returns-in-Ok-Coordinate-clause-ends
returns-in-Ok-Coordinate-clause-ends g c =
    let read = c.in-Ok-Coordinate in
    Coordinated (asked_coordinate read.words) (read.ensures.ok ∙ ap (λ (one : Command). Some (asked_by one)) read.field-0-is) c.serve_coordinator.ensures.ends

pub returns-in-Ok-Monitor-clause-ends : goal.returns-in-Ok-Monitor-clause-ends
returns-in-Ok-Monitor-clause-ends g c =
    let read = c.in-Ok-Monitor in
    Monitored (asked_monitor read.words) (read.ensures.ok ∙ ap (λ (one : Command). Some (asked_by one)) read.field-0-is) c.serve_monitor.ensures.ends
