use Rattle.std.proofs.Common.{◌∙◌, ap, sym}
use Rattle.tk_monitor.specs.Monitored.{MonitorView}
use Rattle.tk_wire.specs.SureWire.{SureView}
use Rattle.tk_bytes.proofs.HelloLemmas.{opens}
use Rattle.tk_bytes.proofs.greeting.begin.Goals as goal

pub returns-in-Ok-clause-opening : goal.returns-in-Ok-clause-opening
returns-in-Ok-clause-opening c =
    let new = c.in_ok-port.ensures in
    let read = c.wire.ensures in
    let said = c.in-Ok.ensures in
    let made =
    opens c.in_ok-wire.field-0.wire c.in_ok-port.port c.say.new.port c.in_ok-wire.field-0.up c.in_ok-wire.field-0.down c.args.piece c.args.version c.in_ok-wire.ensures.wire
    (ap (λ (w : SureView). w.traffic) (sym (read.value ∙ new.wire)) ∙ read.traffic) read.tells new.run new.course (ap (λ (m : MonitorView). m.trail) new.monitor ∙ c.requires.trail)
    new.hello said.says said.said said.sure said.rest said.kept c.in_ok-wire.ensures.up c.in_ok-wire.ensures.down c.requires.piece.0 in
    made.0

pub returns-in-Ok-clause-held : goal.returns-in-Ok-clause-held
returns-in-Ok-clause-held c =
    let new = c.in_ok-port.ensures in
    let read = c.wire.ensures in
    let said = c.in-Ok.ensures in
    let made =
    opens c.in_ok-wire.field-0.wire c.in_ok-port.port c.say.new.port c.in_ok-wire.field-0.up c.in_ok-wire.field-0.down c.args.piece c.args.version c.in_ok-wire.ensures.wire
    (ap (λ (w : SureView). w.traffic) (sym (read.value ∙ new.wire)) ∙ read.traffic) read.tells new.run new.course (ap (λ (m : MonitorView). m.trail) new.monitor ∙ c.requires.trail)
    new.hello said.says said.said said.sure said.rest said.kept c.in_ok-wire.ensures.up c.in_ok-wire.ensures.down c.requires.piece.0 in
    made.1
