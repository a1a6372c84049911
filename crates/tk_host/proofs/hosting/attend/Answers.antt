use Rattle.std.proofs.Common.{◌≤◌, length, sym, ap, ◌∙◌, subst}
use Rattle.tk_base.specs.Settings.{Setup}
use Rattle.tk_host.proofs.GoingLemmas.{serves_inside, serves_none, steps_on}
use Rattle.tk_host.specs.Going.{faults_left, left}
use Rattle.tk_host.proofs.hosting.attend.Goals as goal

pub play_on-requires-clause-going : goal.play_on-requires-clause-going
play_on-requires-clause-going g c κs within = c.in-Ok.ensures.steps.going

pub play_on-requires-clause-named : goal.play_on-requires-clause-named
play_on-requires-clause-named g c κs within = subst (λ (s : Setup). s.objects ≤ length c.args.names.now) (sym c.welcome.ensures.steps.settings) c.requires.named

pub returns-in-Ok-clause-steps : goal.returns-in-Ok-clause-steps
returns-in-Ok-clause-steps g c = steps_on c.in-Ok.field-0 (left c.play_on.result) c.args.session.now c.welcome.new.session c.play_on.new.session c.in-Ok.ensures.steps c.play_on.ensures.steps

pub returns-in-Ok-clause-tells : goal.returns-in-Ok-clause-tells
returns-in-Ok-clause-tells g c = λ before h. c.play_on.ensures.tells before (c.in-Ok.ensures.tells c.args.names.now before h)

pub returns-in-Ok-clause-counted : goal.returns-in-Ok-clause-counted
returns-in-Ok-clause-counted g c = c.play_on.ensures.counted ∙ ap (faults_left c.play_on.result) c.in-Ok.ensures.counted

pub returns-in-Err-clause-steps : goal.returns-in-Err-clause-steps
returns-in-Err-clause-steps g c = c.in-Err.ensures.steps

pub returns-in-Err-clause-tells : goal.returns-in-Err-clause-tells
returns-in-Err-clause-tells g c = λ before h. c.in-Err.ensures.tells c.args.names.now before h

pub returns-in-Err-clause-serves : goal.returns-in-Err-clause-serves
returns-in-Err-clause-serves g c = serves_inside tt c.in-Err.over (g.H.Host.state c.args.host.now) (g.H.Host.state c.args.host.now) c.in-Err.ensures.inside (serves_none (g.H.Host.state c.args.host.now))

pub returns-in-Err-clause-counted : goal.returns-in-Err-clause-counted
returns-in-Err-clause-counted g c = c.in-Err.ensures.counted
