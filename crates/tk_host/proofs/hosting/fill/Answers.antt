use Rattle.std.proofs.Common.{true}
use Rattle.tk_host.proofs.GoingLemmas.{steps_as, steps_none, steps_parted, told_as, told_parted}
use Rattle.tk_host.proofs.hosting.fill.Goals as goal

pub returns-in_default-clause-steps : goal.returns-in_default-clause-steps
returns-in_default-clause-steps g c = steps_as tt c.args.more c.args.session.now c.args.session.now (steps_none c.args.session.now c.requires)

pub returns-in_default-clause-tells : goal.returns-in_default-clause-tells
returns-in_default-clause-tells g c = λ names before h. told_as tt c.args.more names c.args.session.now before (g.O.Sink.written c.args.out.now) h

pub returns-in_err-replace-clause-steps : goal.returns-in_err-replace-clause-steps
returns-in_err-replace-clause-steps g c = steps_parted {A = Unit {0}} c.in_err-replace.field-0.0 c.from_residual.result _ _ c.from_residual.ensures.1 c.in_err-replace.ensures.steps

pub returns-in_err-replace-clause-tells : goal.returns-in_err-replace-clause-tells
returns-in_err-replace-clause-tells g c = λ names before h.
    told_parted {A = Unit {0}} c.in_err-replace.field-0.0 c.from_residual.result names c.replace.new.session before (g.O.Sink.written c.replace.new.out) c.from_residual.ensures.1 (c.in_err-replace.ensures.tells names before h)

pub returns-clause-steps : goal.returns-clause-steps
returns-clause-steps g c = steps_as c.in_ok-replace.field-0 true c.args.session.now c.replace.new.session c.in_ok-replace.ensures.steps

pub returns-clause-tells : goal.returns-clause-tells
returns-clause-tells g c = λ names before h.
    told_as c.in_ok-replace.field-0 true names c.replace.new.session before (g.O.Sink.written c.replace.new.out) (c.in_ok-replace.ensures.tells names before h)
