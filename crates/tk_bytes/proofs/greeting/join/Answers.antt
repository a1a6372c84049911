use Rattle.std.proofs.Common.{sym, subst}
use Rattle.tk_monitor.specs.Monitored.{MonitorView}
use Rattle.tk_bytes.specs.Greeting.{CanJoin, SeatsOne}
use Rattle.tk_bytes.specs.Line.{IsLine}
use Rattle.tk_bytes.proofs.greeting.join.Goals as goal

pub introduce-requires-clause-can : goal.introduce-requires-clause-can
introduce-requires-clause-can c = subst (λ (m : MonitorView). CanJoin m.setup.number c.args.hub.now) (sym c.in_ok-line.ensures.monitor) c.requires.can

pub returns-in-Ok-clause-line : goal.returns-in-Ok-clause-line
returns-in-Ok-clause-line c = subst (λ (m : MonitorView). IsLine m.setup.number c.introduce.new.hub c.introduce.new.line) c.in_ok-line.ensures.monitor c.in-Ok.ensures.line

pub returns-in-Ok-clause-over : goal.returns-in-Ok-clause-over
returns-in-Ok-clause-over c = c.introduce.ensures.over c.args.piece c.args.version c.in_ok-line.ensures.over

pub returns-in-Ok-clause-seats : goal.returns-in-Ok-clause-seats
returns-in-Ok-clause-seats c = subst (λ (m : MonitorView). SeatsOne m.setup.number c.args.hub.now c.introduce.new.hub) c.in_ok-line.ensures.monitor c.in-Ok.ensures.seats
