use Rattle.std.proofs.Common.{ap, refl}
use Rattle.tk_end.specs.Link.{LinkView}
use Rattle.tk_wire.specs.SureWire.{SureView}
use Rattle.tk_hub.specs.declared.course.HubTurn.TheVariants as t
use Rattle.tk_bytes.proofs.LineLemmas.{admitted, bad_up, failed_up, goes_up, grows_none, grows_one, line_of, more_up, quiet_up, refused_up, steps_up}
use Rattle.tk_bytes.proofs.upward.step.Goals as goal

pub take_one-turn-requires-clause-admitted : goal.take_one-turn-requires-clause-admitted
take_one-turn-requires-clause-admitted c =
    let goes = goes_up c.args.mon.0 c.drain.result c.fill.result c.args.hub.now c.fill.new.self c.args.line.now c.drain.new.self c.drain.new.to c.fill.new.from c.requires.line c.drain.ensures.kept
    c.drain.ensures.drains c.drain.ensures.rest c.fill.ensures.kept c.fill.ensures.fills c.fill.ensures.rest in
    admitted c.args.mon.0 c.fill.new.self (line_of c.drain.new.self c.fill.new.from c.args.line.now) goes.line

pub unreachable-requires-in-Failed : goal.unreachable-requires-in-Failed
unreachable-requires-in-Failed c = failed_up c.args.mon.0 c.fill.new.self c.take_one-turn.new.self c.wire_at.result c.in-Failed.ensures.turns c.wire_at.ensures.tells

pub unreachable-requires-in-Refused : goal.unreachable-requires-in-Refused
unreachable-requires-in-Refused c =
    let goes = goes_up c.args.mon.0 c.drain.result c.fill.result c.args.hub.now c.fill.new.self c.args.line.now c.drain.new.self c.drain.new.to c.fill.new.from c.requires.line c.drain.ensures.kept
    c.drain.ensures.drains c.drain.ensures.rest c.fill.ensures.kept c.fill.ensures.fills c.fill.ensures.rest in
    refused_up c.args.mon.0 c.in-Refused.field-0 c.in-Refused.field-1 c.args.hub.now c.fill.new.self c.take_one-turn.new.self c.args.line.now c.drain.new.self c.fill.new.from c.wire_at.result c.requires.next.0 goes (ap (λ (l : LinkView SureView). l.written) c.drain.ensures.drains.wire)
    c.requires.said c.in-Refused.ensures.turns c.in-Refused.ensures.kept c.wire_at.ensures.tells c.requires.next.1

pub unreachable-requires-in-Bad : goal.unreachable-requires-in-Bad
unreachable-requires-in-Bad c =
    let goes = goes_up c.args.mon.0 c.drain.result c.fill.result c.args.hub.now c.fill.new.self c.args.line.now c.drain.new.self c.drain.new.to c.fill.new.from c.requires.line c.drain.ensures.kept
    c.drain.ensures.drains c.drain.ensures.rest c.fill.ensures.kept c.fill.ensures.fills c.fill.ensures.rest in
    bad_up c.args.mon.0 c.in-Bad.field-0 c.in-Bad.field-1 c.args.hub.now c.fill.new.self c.take_one-turn.new.self c.args.line.now c.drain.new.self c.fill.new.from c.wire_at.result c.requires.next.0 goes (ap (λ (l : LinkView SureView). l.written) c.drain.ensures.drains.wire)
    c.requires.said c.in-Bad.ensures.turns c.in-Bad.ensures.kept c.wire_at.ensures.tells c.requires.next.1

pub returns-in-More-clause-moves : goal.returns-in-More-clause-moves
returns-in-More-clause-moves c = λ frame comes.
    let goes = goes_up c.args.mon.0 c.drain.result c.fill.result c.args.hub.now c.fill.new.self c.args.line.now c.drain.new.self c.drain.new.to c.fill.new.from c.requires.line c.drain.ensures.kept
    c.drain.ensures.drains c.drain.ensures.rest c.fill.ensures.kept c.fill.ensures.fills c.fill.ensures.rest in
    more_up c.args.mon.0 c.args.hub.now c.fill.new.self c.take_one-turn.new.self c.args.line.now c.drain.new.self c.fill.new.from c.wire_at.result frame goes (ap (λ (l : LinkView SureView). l.written) c.drain.ensures.drains.wire)
    c.requires.said c.in-More.ensures.turns c.in-More.ensures.kept c.wire_at.ensures.tells comes

pub returns-in-Quiet-clause-moves : goal.returns-in-Quiet-clause-moves
returns-in-Quiet-clause-moves c = λ frame comes.
    let goes = goes_up c.args.mon.0 c.drain.result c.fill.result c.args.hub.now c.fill.new.self c.args.line.now c.drain.new.self c.drain.new.to c.fill.new.from c.requires.line c.drain.ensures.kept
    c.drain.ensures.drains c.drain.ensures.rest c.fill.ensures.kept c.fill.ensures.fills c.fill.ensures.rest in
    quiet_up c.args.mon.0 c.args.hub.now c.fill.new.self c.take_one-turn.new.self c.args.line.now c.drain.new.self c.fill.new.from c.wire_at.result frame c.requires.line goes (ap (λ (l : LinkView SureView). l.written) c.drain.ensures.drains.wire)
    c.requires.said c.in-Quiet.ensures.turns c.in-Quiet.ensures.kept c.wire_at.ensures.tells comes

pub returns-in-More-clause-line : goal.returns-in-More-clause-line
returns-in-More-clause-line c =
    let goes = goes_up c.args.mon.0 c.drain.result c.fill.result c.args.hub.now c.fill.new.self c.args.line.now c.drain.new.self c.drain.new.to c.fill.new.from c.requires.line c.drain.ensures.kept
    c.drain.ensures.drains c.drain.ensures.rest c.fill.ensures.kept c.fill.ensures.fills c.fill.ensures.rest in
    (steps_up c.args.mon.0 t.More c.args.hub.now c.fill.new.self c.take_one-turn.new.self c.args.line.now c.drain.new.self c.fill.new.from c.wire_at.result goes refl c.in-More.ensures.turns c.in-More.ensures.kept
    (grows_one c.args.mon.0 c.fill.new.self.coordinator c.take_one-turn.new.self.coordinator c.in-More.ensures.turns.takes) c.wire_at.ensures.tells).line_is

pub returns-in-More-clause-others : goal.returns-in-More-clause-others
returns-in-More-clause-others c =
    let goes = goes_up c.args.mon.0 c.drain.result c.fill.result c.args.hub.now c.fill.new.self c.args.line.now c.drain.new.self c.drain.new.to c.fill.new.from c.requires.line c.drain.ensures.kept
    c.drain.ensures.drains c.drain.ensures.rest c.fill.ensures.kept c.fill.ensures.fills c.fill.ensures.rest in
    (steps_up c.args.mon.0 t.More c.args.hub.now c.fill.new.self c.take_one-turn.new.self c.args.line.now c.drain.new.self c.fill.new.from c.wire_at.result goes refl c.in-More.ensures.turns c.in-More.ensures.kept
    (grows_one c.args.mon.0 c.fill.new.self.coordinator c.take_one-turn.new.self.coordinator c.in-More.ensures.turns.takes) c.wire_at.ensures.tells).others

pub returns-in-Quiet-clause-line : goal.returns-in-Quiet-clause-line
returns-in-Quiet-clause-line c =
    let goes = goes_up c.args.mon.0 c.drain.result c.fill.result c.args.hub.now c.fill.new.self c.args.line.now c.drain.new.self c.drain.new.to c.fill.new.from c.requires.line c.drain.ensures.kept
    c.drain.ensures.drains c.drain.ensures.rest c.fill.ensures.kept c.fill.ensures.fills c.fill.ensures.rest in
    (steps_up c.args.mon.0 t.Quiet c.args.hub.now c.fill.new.self c.take_one-turn.new.self c.args.line.now c.drain.new.self c.fill.new.from c.wire_at.result goes refl c.in-Quiet.ensures.turns c.in-Quiet.ensures.kept
    (grows_none c.args.mon.0 c.fill.new.self.coordinator c.take_one-turn.new.self.coordinator c.in-Quiet.ensures.turns.takes) c.wire_at.ensures.tells).line_is

pub returns-in-Quiet-clause-others : goal.returns-in-Quiet-clause-others
returns-in-Quiet-clause-others c =
    let goes = goes_up c.args.mon.0 c.drain.result c.fill.result c.args.hub.now c.fill.new.self c.args.line.now c.drain.new.self c.drain.new.to c.fill.new.from c.requires.line c.drain.ensures.kept
    c.drain.ensures.drains c.drain.ensures.rest c.fill.ensures.kept c.fill.ensures.fills c.fill.ensures.rest in
    (steps_up c.args.mon.0 t.Quiet c.args.hub.now c.fill.new.self c.take_one-turn.new.self c.args.line.now c.drain.new.self c.fill.new.from c.wire_at.result goes refl c.in-Quiet.ensures.turns c.in-Quiet.ensures.kept
    (grows_none c.args.mon.0 c.fill.new.self.coordinator c.take_one-turn.new.self.coordinator c.in-Quiet.ensures.turns.takes) c.wire_at.ensures.tells).others

pub returns-in-NoMemory-clause-line : goal.returns-in-NoMemory-clause-line
returns-in-NoMemory-clause-line c =
    let goes = goes_up c.args.mon.0 c.drain.result c.fill.result c.args.hub.now c.fill.new.self c.args.line.now c.drain.new.self c.drain.new.to c.fill.new.from c.requires.line c.drain.ensures.kept
    c.drain.ensures.drains c.drain.ensures.rest c.fill.ensures.kept c.fill.ensures.fills c.fill.ensures.rest in
    (steps_up c.args.mon.0 t.NoMemory c.args.hub.now c.fill.new.self c.take_one-turn.new.self c.args.line.now c.drain.new.self c.fill.new.from c.wire_at.result goes refl c.in-NoMemory.ensures.turns c.in-NoMemory.ensures.kept
    (grows_none c.args.mon.0 c.fill.new.self.coordinator c.take_one-turn.new.self.coordinator c.in-NoMemory.ensures.turns.takes) c.wire_at.ensures.tells).line_is

pub returns-in-NoMemory-clause-others : goal.returns-in-NoMemory-clause-others
returns-in-NoMemory-clause-others c =
    let goes = goes_up c.args.mon.0 c.drain.result c.fill.result c.args.hub.now c.fill.new.self c.args.line.now c.drain.new.self c.drain.new.to c.fill.new.from c.requires.line c.drain.ensures.kept
    c.drain.ensures.drains c.drain.ensures.rest c.fill.ensures.kept c.fill.ensures.fills c.fill.ensures.rest in
    (steps_up c.args.mon.0 t.NoMemory c.args.hub.now c.fill.new.self c.take_one-turn.new.self c.args.line.now c.drain.new.self c.fill.new.from c.wire_at.result goes refl c.in-NoMemory.ensures.turns c.in-NoMemory.ensures.kept
    (grows_none c.args.mon.0 c.fill.new.self.coordinator c.take_one-turn.new.self.coordinator c.in-NoMemory.ensures.turns.takes) c.wire_at.ensures.tells).others
