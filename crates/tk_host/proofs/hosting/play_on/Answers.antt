use Rattle.std.proofs.Common.{◌≤◌, Bool, Err, Ok, length, refl, sym, ap, ◌∙◌, subst}
use Rattle.tk_base.specs.Settings.{Setup}
use Rattle.tk_host.proofs.GoingLemmas.{serves_as, serves_none, serves_on, serves_parted, steps_as, steps_none, steps_on, steps_parted, told_as, told_parted}
use Rattle.tk_host.specs.Going.{faults_left, left}
use Rattle.tk_host.proofs.hosting.play_on.Goals as goal

pub loop-init : goal.loop-init
loop-init g c = record { steps = steps_none c.args.session.now c.requires.going; tells = λ before h. h; serves = serves_none (g.H.Host.state c.args.host.now); faults = refl }

pub step-requires-clause-listens : goal.step-requires-clause-listens
step-requires-clause-listens g c κs within = c.loop.invariant.serves.listens ∙ c.requires.listens

pub step-requires-clause-going : goal.step-requires-clause-going
step-requires-clause-going g c κs within = c.loop.invariant.steps.going

pub step-requires-clause-named : goal.step-requires-clause-named
step-requires-clause-named g c κs within = subst (λ (s : Setup). s.objects ≤ length c.args.names.now) (sym c.loop.invariant.steps.settings) c.requires.named

pub loop-preserved : goal.loop-preserved
loop-preserved g c =
    let next = c.in-Ok.next in
    let e = c.in-Ok.ensures in
    record {
      steps = steps_as next tt c.args.session.now c.step.new.session (steps_on tt (Ok next) c.args.session.now c.loop.session c.step.new.session c.loop.invariant.steps e.steps);
      tells = λ before h. told_as next tt c.args.names.now c.step.new.session before (g.O.Sink.written c.step.new.out) (e.tells before (c.loop.invariant.tells before h));
      serves = serves_as next tt _ _ (serves_on tt (Ok next) (g.H.Host.state c.args.host.now) (g.H.Host.state c.loop.host) (g.H.Host.state c.step.new.host) c.loop.invariant.serves e.serves);
      faults = e.counted ∙ c.loop.invariant.faults;
    }

pub returns-in-Err-clause-steps : goal.returns-in-Err-clause-steps
returns-in-Err-clause-steps g c =
    let over = c.in-Err.over in
    steps_parted {A = Bool} over (left over) c.args.session.now c.step.new.session refl (steps_on tt (Err over) c.args.session.now c.loop.session c.step.new.session c.loop.invariant.steps c.in-Err.ensures.steps)

pub returns-in-Err-clause-tells : goal.returns-in-Err-clause-tells
returns-in-Err-clause-tells g c = λ before h.
    let over = c.in-Err.over in
    told_parted {A = Bool} over (left over) c.args.names.now c.step.new.session before (g.O.Sink.written c.step.new.out) refl (c.in-Err.ensures.tells before (c.loop.invariant.tells before h))

pub returns-in-Err-clause-serves : goal.returns-in-Err-clause-serves
returns-in-Err-clause-serves g c =
    let over = c.in-Err.over in
    serves_parted {A = Bool} over (left over) _ _ refl (serves_on tt (Err over) (g.H.Host.state c.args.host.now) (g.H.Host.state c.loop.host) (g.H.Host.state c.step.new.host) c.loop.invariant.serves c.in-Err.ensures.serves)

pub returns-in-Err-clause-counted : goal.returns-in-Err-clause-counted
returns-in-Err-clause-counted g c = c.in-Err.ensures.counted ∙ ap (faults_left c.in-Err.over) c.loop.invariant.faults
