use Rattle.std.proofs.Common.{◌∙◌, ap, arith, refl}
use Rattle.tk_port.specs.Port.{PortView}
use Rattle.tk_wire.specs.SureWire.{SureView}
use Rattle.tk_bytes.proofs.HelloLemmas.{carried_all, carried_more, carried_none, stays_over}
use Rattle.tk_bytes.proofs.greeting.carry_hello.Goals as goal

pub loop-came-init : goal.loop-came-init
loop-came-init c = record { carried = carried_none c.args.line.now c.args.wire.now c.requires.opening c.requires.held c.requires.unused; monitor = refl; over = λ piece version is. is }

pub loop-came-smaller : goal.loop-came-smaller
loop-came-smaller c =
    let l = c.loop-came in
    let test = c.loop-came-test.true in
    let more = carried_more l.came c.drain-came.result c.fill-came.result l.line c.drain-came.new.self c.drain-came.new.to c.fill-came.new.from l.wire c.fill-came.new.self l.invariant.carried (omega (arith, test)) c.drain-came.ensures.drains c.drain-came.ensures.rest c.drain-came.ensures.kept c.fill-came.ensures.value c.fill-came.ensures.told c.fill-came.ensures.pipe in
    let some = more.1 in
    omega (arith, test, some)

pub loop-came-preserved : goal.loop-came-preserved
loop-came-preserved c =
    let l = c.loop-came in
    let test = c.loop-came-test.true in
    let more = carried_more l.came c.drain-came.result c.fill-came.result l.line c.drain-came.new.self c.drain-came.new.to c.fill-came.new.from l.wire c.fill-came.new.self l.invariant.carried (omega (arith, test)) c.drain-came.ensures.drains c.drain-came.ensures.rest c.drain-came.ensures.kept c.fill-came.ensures.value c.fill-came.ensures.told c.fill-came.ensures.pipe in
    record {
      carried = more.0;
      monitor = ap (λ (p : PortView SureView). p.monitor) c.drain-came.ensures.rest ∙ l.invariant.monitor;
      over = λ piece version is. stays_over c.drain-came.result c.fill-came.result piece version l.line c.drain-came.new.self c.drain-came.new.to c.fill-came.new.from c.drain-came.ensures.drains c.fill-came.ensures.pipe (l.invariant.over piece version is);
    }

pub returns-clause-opening : goal.returns-clause-opening
returns-clause-opening c = c.loop-came.invariant.carried.opening

pub returns-clause-given : goal.returns-clause-given
returns-clause-given c =
    let test = c.loop-came-test.false in
    (carried_all c.loop-came.came c.loop-came.line c.loop-came.wire c.loop-came.invariant.carried (omega (arith, test))).0

pub returns-clause-waits : goal.returns-clause-waits
returns-clause-waits c =
    let test = c.loop-came-test.false in
    (carried_all c.loop-came.came c.loop-came.line c.loop-came.wire c.loop-came.invariant.carried (omega (arith, test))).1

pub returns-clause-over : goal.returns-clause-over
returns-clause-over c = c.loop-came.invariant.over
