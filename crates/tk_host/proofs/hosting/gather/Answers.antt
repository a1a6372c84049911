use Rattle.std.proofs.Common.{Bool, ap, ◌∙◌}
use Rattle.tk_host.proofs.GoingLemmas.{parted_faults, serves_parted, serves_within, steps_on, steps_parted, told_as, told_parted}
use Rattle.tk_host.specs.Going.{step_faults}
use Rattle.tk_host.proofs.hosting.gather.Goals as goal

pub returns-in_err-more-clause-steps : goal.returns-in_err-more-clause-steps
returns-in_err-more-clause-steps g c = steps_parted c.in_err-more.field-0.0 c.from_residual.result _ _ c.from_residual.ensures.1 c.in_err-more.ensures.steps

pub returns-in_err-more-clause-tells : goal.returns-in_err-more-clause-tells
returns-in_err-more-clause-tells g c = λ names before h.
    told_parted {A = Bool} c.in_err-more.field-0.0 c.from_residual.result names c.admit.new.session before (g.O.Sink.written c.admit.new.out) c.from_residual.ensures.1 (c.in_err-more.ensures.tells names before h)

pub returns-in_err-more-clause-serves : goal.returns-in_err-more-clause-serves
returns-in_err-more-clause-serves g c = serves_parted {A = Bool} c.in_err-more.field-0.0 c.from_residual.result _ _ c.from_residual.ensures.1 c.in_err-more.ensures.serves

pub returns-in_err-more-clause-counted : goal.returns-in_err-more-clause-counted
returns-in_err-more-clause-counted g c =
    c.in_err-more.ensures.counted ∙ parted_faults c.in_err-more.field-0.0 c.from_residual.result (g.O.Sink.fault_count c.args.out.now) c.from_residual.ensures.1

pub fill-requires : goal.fill-requires
fill-requires g c = c.in_ok-more.ensures.steps.going

pub returns-clause-steps : goal.returns-clause-steps
returns-clause-steps g c = steps_on c.in_ok-more.more c.fill.result c.args.session.now c.admit.new.session c.fill.new.session c.in_ok-more.ensures.steps c.fill.ensures.steps

pub returns-clause-tells : goal.returns-clause-tells
returns-clause-tells g c = λ names before h.
    c.fill.ensures.tells names before (told_as c.in_ok-more.more tt names c.admit.new.session before (g.O.Sink.written c.admit.new.out) (c.in_ok-more.ensures.tells names before h))

pub returns-clause-serves : goal.returns-clause-serves
returns-clause-serves g c = serves_within c.in_ok-more.more c.fill.result _ _ c.fill.ensures.inside c.in_ok-more.ensures.serves

pub returns-clause-counted : goal.returns-clause-counted
returns-clause-counted g c = c.fill.ensures.counted ∙ ap (step_faults c.fill.result) c.in_ok-more.ensures.counted
