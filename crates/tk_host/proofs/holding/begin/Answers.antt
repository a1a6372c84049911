use Rattle.tk_host.proofs.GoingLemmas.{told_none}
use Rattle.tk_host.proofs.HoldingLemmas.{begun, begun_unwritten}
use Rattle.tk_host.proofs.holding.begin.Goals as goal

pub returns-in-Ok-clause-begins : goal.returns-in-Ok-clause-begins
returns-in-Ok-clause-begins g c =
    let mid = g.O.Sink.written c.put_line.new.out in
    begun c.attend.result c.args.names.now c.args.line.items c.attend.new.session (g.O.Sink.written c.args.out.now) mid (g.O.Sink.written c.attend.new.out) c.in-Ok.ensures.ok
    (c.attend.ensures.tells mid (told_none c.args.names.now c.args.session.now mid c.requires.nobody c.requires.untold))

pub returns-in-Err-clause-begins : goal.returns-in-Err-clause-begins
returns-in-Err-clause-begins g c =
    begun_unwritten c.args.names.now c.args.line.items c.args.session.now (g.O.Sink.written c.args.out.now) (g.O.Sink.written c.put_line.new.out) c.requires.nobody c.requires.untold c.in-Err.ensures.err
