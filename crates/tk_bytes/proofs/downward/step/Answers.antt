use Rattle.std.proofs.Common.{ap, refl, ◌∙◌}
use Rattle.tk_monitor.specs.Monitored.{MonitorView}
use Rattle.tk_trail.specs.Readings.{is_stopped}
use Rattle.tk_port.specs.declared.turn.Turn.TheVariants as u
use Rattle.tk_bytes.proofs.DownLemmas.{bad_down, down_none, down_one, going_on, goes_down, quiet_down, refused_down, steps_down, taken_down, written_still}
use Rattle.tk_bytes.proofs.downward.step.Goals as goal

pub take_one-turn-requires-clause-not_stopped : goal.take_one-turn-requires-clause-not_stopped
take_one-turn-requires-clause-not_stopped c =
    let goes = goes_down c.args.mon.0 c.drain.result c.fill.result c.args.hub.now c.drain.new.self c.args.line.now c.fill.new.self c.drain.new.to c.fill.new.from c.requires.line
    c.drain.ensures.kept c.drain.ensures.drains c.drain.ensures.rest c.fill.ensures.kept c.fill.ensures.fills c.fill.ensures.rest in
    let comes = c.requires.next.1 in
    let m = c.args.line.now.port.monitor in
    ap (λ (k : MonitorView). is_stopped k.trail) goes.sent ∙ going_on m.setup m.trail c.requires.next.0 comes.accepted

pub unreachable-requires-in-Refused : goal.unreachable-requires-in-Refused
unreachable-requires-in-Refused c =
    let goes = goes_down c.args.mon.0 c.drain.result c.fill.result c.args.hub.now c.drain.new.self c.args.line.now c.fill.new.self c.drain.new.to c.fill.new.from c.requires.line
    c.drain.ensures.kept c.drain.ensures.drains c.drain.ensures.rest c.fill.ensures.kept c.fill.ensures.fills c.fill.ensures.rest in
    refused_down c.args.mon.0 c.in-Refused.field-0 c.args.hub.now c.drain.new.self c.args.line.now c.fill.new.self c.take_one-turn.new.self c.fill.new.from c.wire.result.now c.requires.next.0 c.requires.line goes c.requires.said
    (c.in-Refused.ensures.open goes.line.open_port) c.in-Refused.ensures.kept c.wire.ensures.counts c.requires.next.1

pub unreachable-requires-in-Bad : goal.unreachable-requires-in-Bad
unreachable-requires-in-Bad c =
    let goes = goes_down c.args.mon.0 c.drain.result c.fill.result c.args.hub.now c.drain.new.self c.args.line.now c.fill.new.self c.drain.new.to c.fill.new.from c.requires.line
    c.drain.ensures.kept c.drain.ensures.drains c.drain.ensures.rest c.fill.ensures.kept c.fill.ensures.fills c.fill.ensures.rest in
    bad_down c.args.mon.0 c.in-Bad.field-0 c.args.hub.now c.drain.new.self c.args.line.now c.fill.new.self c.take_one-turn.new.self c.fill.new.from c.wire.result.now c.requires.next.0 c.requires.line goes c.requires.said
    (c.in-Bad.ensures.open goes.line.open_port) c.in-Bad.ensures.kept c.wire.ensures.counts c.requires.next.1

pub returns-in-More-clause-moves : goal.returns-in-More-clause-moves
returns-in-More-clause-moves c = λ frame comes.
    let goes = goes_down c.args.mon.0 c.drain.result c.fill.result c.args.hub.now c.drain.new.self c.args.line.now c.fill.new.self c.drain.new.to c.fill.new.from c.requires.line
    c.drain.ensures.kept c.drain.ensures.drains c.drain.ensures.rest c.fill.ensures.kept c.fill.ensures.fills c.fill.ensures.rest in
    let turns = c.in-More.ensures.open goes.line.open_port in
    taken_down c.args.mon.0 u.More c.args.hub.now c.drain.new.self c.args.line.now c.fill.new.self c.take_one-turn.new.self c.fill.new.from c.wire.result.now frame c.requires.line goes c.requires.said turns c.in-More.ensures.kept refl turns.takes.0 c.wire.ensures.counts comes

pub returns-in-Stopped-clause-moves : goal.returns-in-Stopped-clause-moves
returns-in-Stopped-clause-moves c = λ frame comes.
    let goes = goes_down c.args.mon.0 c.drain.result c.fill.result c.args.hub.now c.drain.new.self c.args.line.now c.fill.new.self c.drain.new.to c.fill.new.from c.requires.line
    c.drain.ensures.kept c.drain.ensures.drains c.drain.ensures.rest c.fill.ensures.kept c.fill.ensures.fills c.fill.ensures.rest in
    let turns = c.in-Stopped.ensures.open goes.line.open_port in
    taken_down c.args.mon.0 u.Stopped c.args.hub.now c.drain.new.self c.args.line.now c.fill.new.self c.take_one-turn.new.self c.fill.new.from c.wire.result.now frame c.requires.line goes c.requires.said turns c.in-Stopped.ensures.kept refl turns.takes.0 c.wire.ensures.counts comes

pub returns-in-Quiet-clause-moves : goal.returns-in-Quiet-clause-moves
returns-in-Quiet-clause-moves c = λ frame comes.
    let goes = goes_down c.args.mon.0 c.drain.result c.fill.result c.args.hub.now c.drain.new.self c.args.line.now c.fill.new.self c.drain.new.to c.fill.new.from c.requires.line
    c.drain.ensures.kept c.drain.ensures.drains c.drain.ensures.rest c.fill.ensures.kept c.fill.ensures.fills c.fill.ensures.rest in
    quiet_down c.args.mon.0 c.args.hub.now c.drain.new.self c.args.line.now c.fill.new.self c.take_one-turn.new.self c.fill.new.from c.wire.result.now frame c.requires.line goes c.requires.said (c.in-Quiet.ensures.open goes.line.open_port) c.in-Quiet.ensures.kept c.wire.ensures.counts comes

pub returns-in-More-clause-line : goal.returns-in-More-clause-line
returns-in-More-clause-line c =
    let goes = goes_down c.args.mon.0 c.drain.result c.fill.result c.args.hub.now c.drain.new.self c.args.line.now c.fill.new.self c.drain.new.to c.fill.new.from c.requires.line
    c.drain.ensures.kept c.drain.ensures.drains c.drain.ensures.rest c.fill.ensures.kept c.fill.ensures.fills c.fill.ensures.rest in
    let turns = c.in-More.ensures.open goes.line.open_port in
    steps_down c.args.mon.0 u.More c.args.hub.now c.drain.new.self c.args.line.now c.fill.new.self c.take_one-turn.new.self c.fill.new.from c.wire.result.now goes refl turns c.in-More.ensures.kept (down_one c.fill.new.self.monitor c.take_one-turn.new.self.monitor turns.takes.0) c.wire.ensures.counts

pub returns-in-More-clause-coordinator : goal.returns-in-More-clause-coordinator
returns-in-More-clause-coordinator c =
    let goes = goes_down c.args.mon.0 c.drain.result c.fill.result c.args.hub.now c.drain.new.self c.args.line.now c.fill.new.self c.drain.new.to c.fill.new.from c.requires.line
    c.drain.ensures.kept c.drain.ensures.drains c.drain.ensures.rest c.fill.ensures.kept c.fill.ensures.fills c.fill.ensures.rest in
    goes.same

pub returns-in-More-clause-others : goal.returns-in-More-clause-others
returns-in-More-clause-others c =
    let goes = goes_down c.args.mon.0 c.drain.result c.fill.result c.args.hub.now c.drain.new.self c.args.line.now c.fill.new.self c.drain.new.to c.fill.new.from c.requires.line
    c.drain.ensures.kept c.drain.ensures.drains c.drain.ensures.rest c.fill.ensures.kept c.fill.ensures.fills c.fill.ensures.rest in
    goes.rest

pub returns-in-More-clause-written : goal.returns-in-More-clause-written
returns-in-More-clause-written c =
    let goes = goes_down c.args.mon.0 c.drain.result c.fill.result c.args.hub.now c.drain.new.self c.args.line.now c.fill.new.self c.drain.new.to c.fill.new.from c.requires.line
    c.drain.ensures.kept c.drain.ensures.drains c.drain.ensures.rest c.fill.ensures.kept c.fill.ensures.fills c.fill.ensures.rest in
    written_still c.args.mon.0 c.args.hub.now c.drain.new.self c.args.line.now c.fill.new.self c.fill.new.from c.requires.line goes c.requires.said

pub returns-in-Stopped-clause-line : goal.returns-in-Stopped-clause-line
returns-in-Stopped-clause-line c =
    let goes = goes_down c.args.mon.0 c.drain.result c.fill.result c.args.hub.now c.drain.new.self c.args.line.now c.fill.new.self c.drain.new.to c.fill.new.from c.requires.line
    c.drain.ensures.kept c.drain.ensures.drains c.drain.ensures.rest c.fill.ensures.kept c.fill.ensures.fills c.fill.ensures.rest in
    let turns = c.in-Stopped.ensures.open goes.line.open_port in
    steps_down c.args.mon.0 u.Stopped c.args.hub.now c.drain.new.self c.args.line.now c.fill.new.self c.take_one-turn.new.self c.fill.new.from c.wire.result.now goes refl turns c.in-Stopped.ensures.kept (down_one c.fill.new.self.monitor c.take_one-turn.new.self.monitor turns.takes.0) c.wire.ensures.counts

pub returns-in-Stopped-clause-coordinator : goal.returns-in-Stopped-clause-coordinator
returns-in-Stopped-clause-coordinator c =
    let goes = goes_down c.args.mon.0 c.drain.result c.fill.result c.args.hub.now c.drain.new.self c.args.line.now c.fill.new.self c.drain.new.to c.fill.new.from c.requires.line
    c.drain.ensures.kept c.drain.ensures.drains c.drain.ensures.rest c.fill.ensures.kept c.fill.ensures.fills c.fill.ensures.rest in
    goes.same

pub returns-in-Stopped-clause-others : goal.returns-in-Stopped-clause-others
returns-in-Stopped-clause-others c =
    let goes = goes_down c.args.mon.0 c.drain.result c.fill.result c.args.hub.now c.drain.new.self c.args.line.now c.fill.new.self c.drain.new.to c.fill.new.from c.requires.line
    c.drain.ensures.kept c.drain.ensures.drains c.drain.ensures.rest c.fill.ensures.kept c.fill.ensures.fills c.fill.ensures.rest in
    goes.rest

pub returns-in-Stopped-clause-written : goal.returns-in-Stopped-clause-written
returns-in-Stopped-clause-written c =
    let goes = goes_down c.args.mon.0 c.drain.result c.fill.result c.args.hub.now c.drain.new.self c.args.line.now c.fill.new.self c.drain.new.to c.fill.new.from c.requires.line
    c.drain.ensures.kept c.drain.ensures.drains c.drain.ensures.rest c.fill.ensures.kept c.fill.ensures.fills c.fill.ensures.rest in
    written_still c.args.mon.0 c.args.hub.now c.drain.new.self c.args.line.now c.fill.new.self c.fill.new.from c.requires.line goes c.requires.said

pub returns-in-Quiet-clause-line : goal.returns-in-Quiet-clause-line
returns-in-Quiet-clause-line c =
    let goes = goes_down c.args.mon.0 c.drain.result c.fill.result c.args.hub.now c.drain.new.self c.args.line.now c.fill.new.self c.drain.new.to c.fill.new.from c.requires.line
    c.drain.ensures.kept c.drain.ensures.drains c.drain.ensures.rest c.fill.ensures.kept c.fill.ensures.fills c.fill.ensures.rest in
    let turns = c.in-Quiet.ensures.open goes.line.open_port in
    steps_down c.args.mon.0 u.Quiet c.args.hub.now c.drain.new.self c.args.line.now c.fill.new.self c.take_one-turn.new.self c.fill.new.from c.wire.result.now goes refl turns c.in-Quiet.ensures.kept (down_none c.fill.new.self.monitor c.take_one-turn.new.self.monitor turns.takes) c.wire.ensures.counts

pub returns-in-Quiet-clause-coordinator : goal.returns-in-Quiet-clause-coordinator
returns-in-Quiet-clause-coordinator c =
    let goes = goes_down c.args.mon.0 c.drain.result c.fill.result c.args.hub.now c.drain.new.self c.args.line.now c.fill.new.self c.drain.new.to c.fill.new.from c.requires.line
    c.drain.ensures.kept c.drain.ensures.drains c.drain.ensures.rest c.fill.ensures.kept c.fill.ensures.fills c.fill.ensures.rest in
    goes.same

pub returns-in-Quiet-clause-others : goal.returns-in-Quiet-clause-others
returns-in-Quiet-clause-others c =
    let goes = goes_down c.args.mon.0 c.drain.result c.fill.result c.args.hub.now c.drain.new.self c.args.line.now c.fill.new.self c.drain.new.to c.fill.new.from c.requires.line
    c.drain.ensures.kept c.drain.ensures.drains c.drain.ensures.rest c.fill.ensures.kept c.fill.ensures.fills c.fill.ensures.rest in
    goes.rest

pub returns-in-Quiet-clause-written : goal.returns-in-Quiet-clause-written
returns-in-Quiet-clause-written c =
    let goes = goes_down c.args.mon.0 c.drain.result c.fill.result c.args.hub.now c.drain.new.self c.args.line.now c.fill.new.self c.drain.new.to c.fill.new.from c.requires.line
    c.drain.ensures.kept c.drain.ensures.drains c.drain.ensures.rest c.fill.ensures.kept c.fill.ensures.fills c.fill.ensures.rest in
    written_still c.args.mon.0 c.args.hub.now c.drain.new.self c.args.line.now c.fill.new.self c.fill.new.from c.requires.line goes c.requires.said

pub returns-in-NoMemory-clause-line : goal.returns-in-NoMemory-clause-line
returns-in-NoMemory-clause-line c =
    let goes = goes_down c.args.mon.0 c.drain.result c.fill.result c.args.hub.now c.drain.new.self c.args.line.now c.fill.new.self c.drain.new.to c.fill.new.from c.requires.line
    c.drain.ensures.kept c.drain.ensures.drains c.drain.ensures.rest c.fill.ensures.kept c.fill.ensures.fills c.fill.ensures.rest in
    let turns = c.in-NoMemory.ensures.open goes.line.open_port in
    steps_down c.args.mon.0 u.NoMemory c.args.hub.now c.drain.new.self c.args.line.now c.fill.new.self c.take_one-turn.new.self c.fill.new.from c.wire.result.now goes refl turns c.in-NoMemory.ensures.kept (down_none c.fill.new.self.monitor c.take_one-turn.new.self.monitor turns.takes) c.wire.ensures.counts

pub returns-in-NoMemory-clause-coordinator : goal.returns-in-NoMemory-clause-coordinator
returns-in-NoMemory-clause-coordinator c =
    let goes = goes_down c.args.mon.0 c.drain.result c.fill.result c.args.hub.now c.drain.new.self c.args.line.now c.fill.new.self c.drain.new.to c.fill.new.from c.requires.line
    c.drain.ensures.kept c.drain.ensures.drains c.drain.ensures.rest c.fill.ensures.kept c.fill.ensures.fills c.fill.ensures.rest in
    goes.same

pub returns-in-NoMemory-clause-others : goal.returns-in-NoMemory-clause-others
returns-in-NoMemory-clause-others c =
    let goes = goes_down c.args.mon.0 c.drain.result c.fill.result c.args.hub.now c.drain.new.self c.args.line.now c.fill.new.self c.drain.new.to c.fill.new.from c.requires.line
    c.drain.ensures.kept c.drain.ensures.drains c.drain.ensures.rest c.fill.ensures.kept c.fill.ensures.fills c.fill.ensures.rest in
    goes.rest

pub returns-in-NoMemory-clause-written : goal.returns-in-NoMemory-clause-written
returns-in-NoMemory-clause-written c =
    let goes = goes_down c.args.mon.0 c.drain.result c.fill.result c.args.hub.now c.drain.new.self c.args.line.now c.fill.new.self c.drain.new.to c.fill.new.from c.requires.line
    c.drain.ensures.kept c.drain.ensures.drains c.drain.ensures.rest c.fill.ensures.kept c.fill.ensures.fills c.fill.ensures.rest in
    written_still c.args.mon.0 c.args.hub.now c.drain.new.self c.args.line.now c.fill.new.self c.fill.new.from c.requires.line goes c.requires.said
