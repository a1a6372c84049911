use Rattle.tk_host.proofs.HoldingLemmas.{held_session}
use Rattle.tk_host.proofs.holding.hold.Goals as goal

pub returns-in-Ok-clause-holds : goal.returns-in-Ok-clause-holds
returns-in-Ok-clause-holds g c =
    let made = c.in-Ok.ensures in
    held_session c.in-Ok.session c.begin-over.new.session c.args.plan.now.settings c.args.plan.now.missing c.args.plan.now.names.now c.in-Ok.line.items c.begin-over.result c.leave.result c.args.number
    (g.O.Sink.written c.args.out.now) (g.O.Sink.written c.begin-over.new.out) (g.O.Sink.written c.leave.new.out)
    made.settings made.missing c.begin-over.ensures.steps made.line c.begin-over.ensures.begins c.leave.ensures.parts
