use Rattle.tk_host.proofs.GoingLemmas.{told_as, told_grown, told_left, told_parted, turned_within, turned_written}
use Rattle.tk_host.proofs.hosting.play_turn.Goals as goal

pub tell-requires-clause-within : goal.tell-requires-clause-within
tell-requires-clause-within g c = turned_within c.turn-turn.result _ _ c.turn-turn.ensures c.requires.going.all

pub returns-in_err-end_early-clause-tells : goal.returns-in_err-end_early-clause-tells
returns-in_err-end_early-clause-tells g c = λ before h.
    let e = c.turn-turn.ensures in
    let over = c.in_err-end_early.field-0.0 in
    let told = told_grown c.args.names.now _ _ before (g.O.Sink.written c.args.out.now) h e.grows e.roster e.told in
    told_parted {A = Unit {0}} over c.from_residual.result c.args.names.now c.turn-turn.new.self before (g.O.Sink.written c.args.out.now) c.from_residual.ensures.1
    (told_left c.args.names.now c.turn-turn.new.self c.turn-turn.new.self before (g.O.Sink.written c.args.out.now) told over (turned_written over c.in_err-end_early.ensures.turned))

pub returns-in_err-tell-clause-tells : goal.returns-in_err-tell-clause-tells
returns-in_err-tell-clause-tells g c = λ before h.
    let e = c.turn-turn.ensures in
    let told = c.in_err-tell.ensures.tells before (told_grown c.args.names.now _ _ before (g.O.Sink.written c.args.out.now) h e.grows e.roster e.told) in
    told_parted c.in_err-tell.field-0.0 c.from_residual-in_err-tell.result c.args.names.now c.tell.new.self before (g.O.Sink.written c.tell.new.out) c.from_residual-in_err-tell.ensures.1 told

pub returns-in_err-after-clause-tells : goal.returns-in_err-after-clause-tells
returns-in_err-after-clause-tells g c = λ before h.
    let e = c.turn-turn.ensures in
    let over = c.in_err-after.field-0.0 in
    let told = c.in_ok-tell.ensures.tells before (told_grown c.args.names.now _ _ before (g.O.Sink.written c.args.out.now) h e.grows e.roster e.told) in
    told_parted {A = Unit {0}} over c.from_residual-in_err-after.result c.args.names.now c.tell.new.self before (g.O.Sink.written c.tell.new.out) c.from_residual-in_err-after.ensures.1
    (told_left c.args.names.now c.tell.new.self c.tell.new.self before (g.O.Sink.written c.tell.new.out) told over (turned_written over c.in_err-after.ensures.turned))

pub returns-clause-tells : goal.returns-clause-tells
returns-clause-tells g c = λ before h.
    let e = c.turn-turn.ensures in
    let told = c.in_ok-tell.ensures.tells before (told_grown c.args.names.now _ _ before (g.O.Sink.written c.args.out.now) h e.grows e.roster e.told) in
    told_as c.in_ok-tell.field-0 c.is_idle.result c.args.names.now c.tell.new.self before (g.O.Sink.written c.tell.new.out) told
