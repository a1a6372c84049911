use Rattle.std.proofs.Common.{◌≤◌, Bool, Err, Ok, length, sym, ap, ◌∙◌, subst}
use Rattle.tk_base.specs.Settings.{Setup}
use Rattle.tk_host.proofs.GoingLemmas.{hosted_faults, hosted_written, parted_faults, serves_on, serves_parted, serves_within, steps_hosted, steps_none, steps_on, steps_parted, told_as, told_left, told_parted}
use Rattle.tk_host.specs.Going.{step_faults}
use Rattle.tk_host.proofs.hosting.step.Goals as goal

-- the wait fails

pub returns-in_err-pause-clause-steps : goal.returns-in_err-pause-clause-steps
returns-in_err-pause-clause-steps g c =
    let s = c.args.session.now in
    steps_hosted tt c.in_err-pause.field-0.0 c.from_residual.result s s c.from_residual.ensures.1 c.in_err-pause.ensures.over (steps_none s c.requires.going)

pub returns-in_err-pause-clause-tells : goal.returns-in_err-pause-clause-tells
returns-in_err-pause-clause-tells g c = λ before h.
    let over = c.in_err-pause.field-0.0 in
    let s = c.args.session.now in
    let now = g.O.Sink.written c.args.out.now in
    told_parted {A = Unit {0}} over c.from_residual.result c.args.names.now s before now c.from_residual.ensures.1
    (told_left c.args.names.now s s before now h over (hosted_written over c.in_err-pause.ensures.over))

pub returns-in_err-pause-clause-serves : goal.returns-in_err-pause-clause-serves
returns-in_err-pause-clause-serves g c = serves_parted c.in_err-pause.field-0.0 c.from_residual.result _ _ c.from_residual.ensures.1 c.in_err-pause.ensures.serves

pub returns-in_err-pause-clause-counted : goal.returns-in_err-pause-clause-counted
returns-in_err-pause-clause-counted g c =
    let over = c.in_err-pause.field-0.0 in
    let before = g.O.Sink.fault_count c.args.out.now in
    hosted_faults over before c.in_err-pause.ensures.over ∙ parted_faults over c.from_residual.result before c.from_residual.ensures.1

-- those that wait join, or the session is left

pub gather-requires-clause-listens : goal.gather-requires-clause-listens
gather-requires-clause-listens g c κs within = c.in_ok-pause.ensures.serves.listens ∙ c.requires.listens

pub returns-in_err-more-clause-steps : goal.returns-in_err-more-clause-steps
returns-in_err-more-clause-steps g c = steps_parted c.in_err-more.field-0.0 c.from_residual-in_err-more.result _ _ c.from_residual-in_err-more.ensures.1 c.in_err-more.ensures.steps

pub returns-in_err-more-clause-tells : goal.returns-in_err-more-clause-tells
returns-in_err-more-clause-tells g c = λ before h.
    told_parted {A = Bool} c.in_err-more.field-0.0 c.from_residual-in_err-more.result c.args.names.now c.gather.new.session before (g.O.Sink.written c.gather.new.out) c.from_residual-in_err-more.ensures.1
    (c.in_err-more.ensures.tells c.args.names.now before h)

pub returns-in_err-more-clause-serves : goal.returns-in_err-more-clause-serves
returns-in_err-more-clause-serves g c =
    let over = c.in_err-more.field-0.0 in
    serves_parted {A = Bool} over c.from_residual-in_err-more.result _ _ c.from_residual-in_err-more.ensures.1
    (serves_on c.in_ok-pause.field-0 (Err over) (g.H.Host.state c.args.host.now) (g.H.Host.state c.pause.new.host) (g.H.Host.state c.gather.new.host) c.in_ok-pause.ensures.serves c.in_err-more.ensures.serves)

pub returns-in_err-more-clause-counted : goal.returns-in_err-more-clause-counted
returns-in_err-more-clause-counted g c =
    c.in_err-more.ensures.counted ∙ parted_faults c.in_err-more.field-0.0 c.from_residual-in_err-more.result (g.O.Sink.fault_count c.args.out.now) c.from_residual-in_err-more.ensures.1

-- a turn

pub play-requires-clause-going : goal.play-requires-clause-going
play-requires-clause-going g c = c.in_ok-more.ensures.steps.going

pub play-requires-clause-named : goal.play-requires-clause-named
play-requires-clause-named g c = subst (λ (s : Setup). s.objects ≤ length c.args.names.now) (sym c.in_ok-more.ensures.steps.settings) c.requires.named

pub returns-clause-steps : goal.returns-clause-steps
returns-clause-steps g c = steps_on c.in_ok-more.more c.play.result c.args.session.now c.gather.new.session c.play.new.session c.in_ok-more.ensures.steps c.play.ensures.steps

pub returns-clause-tells : goal.returns-clause-tells
returns-clause-tells g c = λ before h.
    c.play.ensures.tells before (told_as c.in_ok-more.more tt c.args.names.now c.gather.new.session before (g.O.Sink.written c.gather.new.out) (c.in_ok-more.ensures.tells c.args.names.now before h))

pub returns-clause-serves : goal.returns-clause-serves
returns-clause-serves g c =
    serves_within c.in_ok-more.more c.play.result _ _ c.play.ensures.inside
    (serves_on c.in_ok-pause.field-0 (Ok c.in_ok-more.more) (g.H.Host.state c.args.host.now) (g.H.Host.state c.pause.new.host) (g.H.Host.state c.gather.new.host) c.in_ok-pause.ensures.serves c.in_ok-more.ensures.serves)

pub returns-clause-counted : goal.returns-clause-counted
returns-clause-counted g c = c.play.ensures.counted ∙ ap (step_faults c.play.result) c.in_ok-more.ensures.counted
