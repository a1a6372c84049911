use Rattle.std.proofs.Common.{◌∙◌, List, ap}
use Rattle.tk_trail.specs.declared.entry.Entry.{Entry}
use Rattle.tk_monitor.proofs.KeptLemmas.{reported_when, told_when, nothing_when, due_ends, after_report, after_end, after_nothing}
use Rattle.tk_monitor.proofs.monitor.Monitor.check.Goals as goal

pub tell_end-requires-clause-ends : goal.tell_end-requires-clause-ends
tell_end-requires-clause-ends c =
    let now = c.args.self.now in
    due_ends now.setup now.trail (told_when now.setup now.trail c.in-ToldEnd.ensures.value).1

pub returns-in_ok-send_report-in-Reported-clause-ok :
    goal.returns-in_ok-send_report-in-Reported-clause-ok
returns-in_ok-send_report-in-Reported-clause-ok c =
    let now = c.args.self.now in
    c.in_ok-send_report-in-Reported.ensures.ok
    ∙ ap (λ (trail : List Entry). record now { trail = trail }) (after_report now.setup now.trail (reported_when now.setup now.trail c.in-Reported.ensures.value))

pub returns-in_ok-tell_end-in-ToldEnd-clause-ok : goal.returns-in_ok-tell_end-in-ToldEnd-clause-ok
returns-in_ok-tell_end-in-ToldEnd-clause-ok c =
    let now = c.args.self.now in
    let when = told_when now.setup now.trail c.in-ToldEnd.ensures.value in
    c.in_ok-tell_end-in-ToldEnd.ensures.ok
    ∙ ap (λ (trail : List Entry). record now { trail = trail }) (after_end now.setup now.trail when.0 when.1)

pub returns-in-Nothing-clause-ok : goal.returns-in-Nothing-clause-ok
returns-in-Nothing-clause-ok c =
    let now = c.args.self.now in
    let when = nothing_when now.setup now.trail c.in-Nothing.ensures.value in
    ap (λ (trail : List Entry). record now { trail = trail }) (after_nothing now.setup now.trail when.0 when.1)
