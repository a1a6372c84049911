use Rattle.std.proofs.Common.{◌≤◌, Err, length, refl, sym, subst}
use Rattle.tk_base.specs.Settings.{Setup}
use Rattle.tk_host.proofs.GoingLemmas.{steps_on, steps_parted, told_kept, told_left, told_parted, turned_faults, turned_inside, turned_written}
use Rattle.tk_host.proofs.hosting.play.Goals as goal

pub play_turn-requires-clause-going : goal.play_turn-requires-clause-going
play_turn-requires-clause-going g c = c.in-Ok.ensures.steps.going

pub play_turn-requires-clause-room : goal.play_turn-requires-clause-room
play_turn-requires-clause-room g c = c.in-Ok.ensures.room

pub play_turn-requires-clause-named : goal.play_turn-requires-clause-named
play_turn-requires-clause-named g c = subst (λ (s : Setup). s.objects ≤ length c.args.names.now) (sym c.in-Ok.ensures.steps.settings) c.requires.named

pub returns-in-Ok-clause-steps : goal.returns-in-Ok-clause-steps
returns-in-Ok-clause-steps g c = steps_on c.in-Ok.field-0 c.play_turn.result c.args.session.now c.weigh.new.self c.play_turn.new.session c.in-Ok.ensures.steps c.play_turn.ensures.steps

pub returns-in-Ok-clause-tells : goal.returns-in-Ok-clause-tells
returns-in-Ok-clause-tells g c = λ before h.
    let e = c.weigh.ensures in
    c.play_turn.ensures.tells before (told_kept c.args.names.now c.args.session.now c.weigh.new.self before (g.O.Sink.written c.args.out.now) h e.hub e.roster e.told)

pub returns-in-Err-clause-steps : goal.returns-in-Err-clause-steps
returns-in-Err-clause-steps g c = steps_parted {A = Unit {0}} c.in-Err.over (Err c.in-Err.over) c.args.session.now c.weigh.new.self refl c.in-Err.ensures.steps

pub returns-in-Err-clause-inside : goal.returns-in-Err-clause-inside
returns-in-Err-clause-inside g c = turned_inside c.in-Err.over c.in-Err.ensures.weighed

pub returns-in-Err-clause-tells : goal.returns-in-Err-clause-tells
returns-in-Err-clause-tells g c = λ before h.
    let e = c.weigh.ensures in
    let over = c.in-Err.over in
    let now = g.O.Sink.written c.args.out.now in
    let kept = told_kept c.args.names.now c.args.session.now c.weigh.new.self before now h e.hub e.roster e.told in
    told_parted {A = Unit {0}} over (Err over) c.args.names.now c.weigh.new.self before now refl
    (told_left c.args.names.now c.weigh.new.self c.weigh.new.self before now kept over (turned_written over c.in-Err.ensures.weighed))

pub returns-in-Err-clause-counted : goal.returns-in-Err-clause-counted
returns-in-Err-clause-counted g c = turned_faults c.in-Err.over (g.O.Sink.fault_count c.args.out.now) c.in-Err.ensures.weighed
