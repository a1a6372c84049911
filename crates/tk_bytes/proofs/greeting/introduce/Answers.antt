use Rattle.std.proofs.Common.{ap, sym, subst}
use Rattle.std.specs.Prelude.{is_ok}
use Rattle.tk_monitor.specs.Monitored.{MonitorView}
use Rattle.tk_wire.specs.SureWire.{SureView}
use Rattle.tk_bytes.specs.Greeting.{CanJoin, SeatsOne}
use Rattle.tk_bytes.specs.Line.{IsLine}
use Rattle.tk_bytes.proofs.AdmitLemmas.{admits_line, is_kept}
use Rattle.tk_bytes.proofs.greeting.introduce.Goals as goal

pub carry_hello-requires-clause-unused : goal.carry_hello-requires-clause-unused
carry_hello-requires-clause-unused c = ap (λ (w : SureView). w.traffic) c.in_ok-wire.ensures

pub returns-clause-line : goal.returns-clause-line
returns-clause-line c =
    let carried = c.carry_hello.ensures in
    let same = carried.monitor in
    let kept = is_kept c.admit.result c.in_ok-admit.field-0 c.args.hub.now.held c.in_ok-admit.was c.admit.ensures.closed c.requires.can.nobody in
    let admits =
    admits_line c.carry_hello.new.line c.carry_hello.new.wire c.args.hub.now c.admit.new.self c.greet.new.self c.greet.result carried.opening carried.given carried.waits
    (subst (λ (m : MonitorView). CanJoin m.setup.number c.args.hub.now) (sym same) c.requires.can) (c.admit.ensures.kept kept) c.admit.ensures.rest (ap is_ok c.in_ok-greet.was) c.greet.ensures.greets c.greet.ensures.rest c.greet.ensures.kept in
    subst (λ (m : MonitorView). IsLine m.setup.number c.greet.new.self c.carry_hello.new.line) same admits.line_is

pub returns-clause-seats : goal.returns-clause-seats
returns-clause-seats c =
    let carried = c.carry_hello.ensures in
    let same = carried.monitor in
    let kept = is_kept c.admit.result c.in_ok-admit.field-0 c.args.hub.now.held c.in_ok-admit.was c.admit.ensures.closed c.requires.can.nobody in
    let admits =
    admits_line c.carry_hello.new.line c.carry_hello.new.wire c.args.hub.now c.admit.new.self c.greet.new.self c.greet.result carried.opening carried.given carried.waits
    (subst (λ (m : MonitorView). CanJoin m.setup.number c.args.hub.now) (sym same) c.requires.can) (c.admit.ensures.kept kept) c.admit.ensures.rest (ap is_ok c.in_ok-greet.was) c.greet.ensures.greets c.greet.ensures.rest c.greet.ensures.kept in
    subst (λ (m : MonitorView). SeatsOne m.setup.number c.args.hub.now c.greet.new.self) same admits.seats
