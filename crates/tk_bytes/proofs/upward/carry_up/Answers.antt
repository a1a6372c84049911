use Rattle.std.proofs.Common.{◌∙◌, false, refl, ap, sym, subst, arith, length}
use Rattle.std.specs.Prelude.{Bool}
use Rattle.tk_monitor.specs.Monitored.{MonitorView}
use Rattle.tk_port.specs.Port.{PortView}
use Rattle.tk_trail.specs.Readings.{sent_by}
use Rattle.tk_wire.specs.SureWire.{SureView}
use Rattle.tk_bytes.specs.Line.{IsSaid, MovesUp}
use Rattle.tk_bytes.proofs.LineLemmas.{comes_still, left_said, others_join, others_same, said_line}
use Rattle.tk_bytes.proofs.upward.carry_up.Goals as goal

pub returns-in_err-say-clause-line : goal.returns-in_err-say-clause-line
returns-in_err-say-clause-line c = said_line c.args.mon.0 c.args.hub.now c.args.line.now c.say.new.port c.requires.line c.say.ensures.says c.say.ensures.sure c.say.ensures.rest c.say.ensures.kept

pub loop-line-init : goal.loop-line-init
loop-line-init c = record {
  line = said_line c.args.mon.0 c.args.hub.now c.args.line.now c.say.new.port c.requires.line c.say.ensures.says c.say.ensures.sure c.say.ensures.rest c.say.ensures.kept;
  said = subst (λ (m : MonitorView). IsSaid (sent_by m.trail) c.say.new.port.link) (sym (ap (λ (p : PortView SureView). p.monitor) c.say.ensures.rest)) c.in_ok-say.ensures.said;
  same = refl;
  port = refl;
  others = others_same c.args.mon.0 c.args.hub.now;
}

pub loop-line-smaller : goal.loop-line-smaller
loop-line-smaller c =
    let mon = c.args.mon.0 in
    let inv = c.loop-line.invariant in
    let was = inv.port ∙ ap (λ (p : PortView SureView). p.monitor) c.say.ensures.rest in
    let comes = comes_still mon c.args.hub.now.coordinator c.loop-line.hub.coordinator c.args.line.now.port.monitor c.loop-line.line.port.monitor c.requires.next.0 inv.same was c.requires.next.1 in
    let moves : MovesUp mon c.requires.next.0 false c.loop-line.hub c.loop-line.line c.step.new.hub c.step.new.line =
    subst (λ (b : Bool). MovesUp mon c.requires.next.0 b c.loop-line.hub c.loop-line.line c.step.new.hub c.step.new.line) c.if-not-branch.true (c.in_ok-step.ensures.moves c.requires.next.0 comes) in
    let before = c.step.ensures.written ∙ inv.said.written ∙ ap (λ (m : MonitorView). length (sent_by m.trail)) (sym c.step.ensures.port) in
    let same = left_said mon c.step.new.hub c.step.new.line c.say-in-loop-line.new.port c.step.ensures.line c.say-in-loop-line.ensures.says before c.in_ok-say-2.ensures.said.written in
    let less = moves.1 in
    omega (arith, same, less)

pub loop-line-preserved : goal.loop-line-preserved
loop-line-preserved c =
    let mon = c.args.mon.0 in
    let inv = c.loop-line.invariant in
    let was = inv.port ∙ ap (λ (p : PortView SureView). p.monitor) c.say.ensures.rest in
    let comes = comes_still mon c.args.hub.now.coordinator c.loop-line.hub.coordinator c.args.line.now.port.monitor c.loop-line.line.port.monitor c.requires.next.0 inv.same was c.requires.next.1 in
    let moves : MovesUp mon c.requires.next.0 false c.loop-line.hub c.loop-line.line c.step.new.hub c.step.new.line =
    subst (λ (b : Bool). MovesUp mon c.requires.next.0 b c.loop-line.hub c.loop-line.line c.step.new.hub c.step.new.line) c.if-not-branch.true (c.in_ok-step.ensures.moves c.requires.next.0 comes) in
    let monitor = ap (λ (p : PortView SureView). p.monitor) c.say-in-loop-line.ensures.rest in
    record {
      line = said_line mon c.step.new.hub c.step.new.line c.say-in-loop-line.new.port c.step.ensures.line c.say-in-loop-line.ensures.says c.say-in-loop-line.ensures.sure c.say-in-loop-line.ensures.rest c.say-in-loop-line.ensures.kept;
      said = subst (λ (m : MonitorView). IsSaid (sent_by m.trail) c.say-in-loop-line.new.port.link) (sym monitor) c.in_ok-say-2.ensures.said;
      same = moves.0 ∙ inv.same;
      port = monitor ∙ c.step.ensures.port ∙ inv.port;
      others = others_join mon c.args.hub.now c.loop-line.hub c.step.new.hub inv.others c.step.ensures.others;
    }

pub returns-in_err-say-2-clause-line : goal.returns-in_err-say-2-clause-line
returns-in_err-say-2-clause-line c =
    said_line c.args.mon.0 c.step.new.hub c.step.new.line c.say-in-loop-line.new.port c.step.ensures.line c.say-in-loop-line.ensures.says c.say-in-loop-line.ensures.sure c.say-in-loop-line.ensures.rest c.say-in-loop-line.ensures.kept
