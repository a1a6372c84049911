use Rattle.std.proofs.Common.{◌≡◌, Err, Ok, true, false, refl, ◌∙◌}
use Rattle.tk_host.proofs.GoingLemmas.{counted_hosted, counted_parted, hosted_written, serves_as, serves_inside, serves_none, serves_on, serves_parted, steps_as, steps_hosted, steps_none, steps_on, steps_parted, told_as, told_left, told_parted}
use Rattle.tk_host.specs.Going.{going}
use Rattle.tk_host.proofs.hosting.admit.Goals as goal

pub loop-init : goal.loop-init
loop-init g c = record { steps = steps_none c.args.session.now c.requires.going; tells = λ names before h. h; serves = serves_none (g.H.Host.state c.args.host.now); faults = refl }

pub accept-requires-after_bounds : goal.accept-requires-after_bounds
accept-requires-after_bounds g c κs within = c.loop.invariant.serves.listens ∙ c.requires.listens

-- the host fails

pub returns-in_err-knock-clause-steps : goal.returns-in_err-knock-clause-steps
returns-in_err-knock-clause-steps g c =
    steps_hosted tt c.in_err-knock.field-0.0 c.from_residual.result c.args.session.now c.loop.session c.from_residual.ensures.1 c.in_err-knock.ensures.over c.loop.invariant.steps

pub returns-in_err-knock-clause-tells : goal.returns-in_err-knock-clause-tells
returns-in_err-knock-clause-tells g c = λ names before h.
    let over = c.in_err-knock.field-0.0 in
    let now = g.O.Sink.written c.loop.out in
    told_parted {A = Unit {0}} over c.from_residual.result names c.loop.session before now c.from_residual.ensures.1
    (told_left names c.loop.session c.loop.session before now (c.loop.invariant.tells names before h) over (hosted_written over c.in_err-knock.ensures.over))

pub returns-in_err-knock-clause-serves : goal.returns-in_err-knock-clause-serves
returns-in_err-knock-clause-serves g c =
    let over = c.in_err-knock.field-0.0 in
    serves_parted over c.from_residual.result (g.H.Host.state c.args.host.now) (g.H.Host.state c.accept.new.host) c.from_residual.ensures.1 (serves_on tt (Err over) (g.H.Host.state c.args.host.now) (g.H.Host.state c.loop.host) (g.H.Host.state c.accept.new.host) c.loop.invariant.serves c.in_err-knock.ensures.serves)

pub returns-in_err-knock-clause-counted : goal.returns-in_err-knock-clause-counted
returns-in_err-knock-clause-counted g c =
    counted_hosted c.in_err-knock.field-0.0 c.from_residual.result (g.O.Sink.fault_count c.args.out.now) (g.O.Sink.fault_count c.loop.out) c.from_residual.ensures.1 c.in_err-knock.ensures.over c.loop.invariant.faults

-- a monitor joins, or its joining ends the session

pub join-requires : goal.join-requires
join-requires g c = c.loop.invariant.steps.going

pub returns-in_err-join-in-Some-clause-steps : goal.returns-in_err-join-in-Some-clause-steps
returns-in_err-join-in-Some-clause-steps g c =
    let over = c.in_err-join-in-Some.field-0.0 in
    steps_parted over c.from_residual-in_err-join-in-Some.result c.args.session.now c.join.new.self c.from_residual-in_err-join-in-Some.ensures.1
    (steps_on tt (Err over) c.args.session.now c.loop.session c.join.new.self c.loop.invariant.steps c.in_err-join-in-Some.ensures.steps)

pub returns-in_err-join-in-Some-clause-tells : goal.returns-in_err-join-in-Some-clause-tells
returns-in_err-join-in-Some-clause-tells g c = λ names before h.
    told_parted c.in_err-join-in-Some.field-0.0 c.from_residual-in_err-join-in-Some.result names c.join.new.self before (g.O.Sink.written c.join.new.out) c.from_residual-in_err-join-in-Some.ensures.1
    (c.in_err-join-in-Some.ensures.tells names before (c.loop.invariant.tells names before h))

pub returns-in_err-join-in-Some-clause-serves : goal.returns-in_err-join-in-Some-clause-serves
returns-in_err-join-in-Some-clause-serves g c =
    let over = c.in_err-join-in-Some.field-0.0 in
    let came = serves_on tt (Ok c.in_ok-knock.field-0) (g.H.Host.state c.args.host.now) (g.H.Host.state c.loop.host) (g.H.Host.state c.accept.new.host) c.loop.invariant.serves c.in_ok-knock.ensures.serves in
    serves_parted {A = Unit {0}} over c.from_residual-in_err-join-in-Some.result (g.H.Host.state c.args.host.now) (g.H.Host.state c.accept.new.host) c.from_residual-in_err-join-in-Some.ensures.1
    (serves_inside c.in_ok-knock.field-0 over (g.H.Host.state c.args.host.now) (g.H.Host.state c.accept.new.host) c.in_err-join-in-Some.ensures.inside came)

pub returns-in_err-join-in-Some-clause-counted : goal.returns-in_err-join-in-Some-clause-counted
returns-in_err-join-in-Some-clause-counted g c =
    counted_parted c.in_err-join-in-Some.field-0.0 c.from_residual-in_err-join-in-Some.result (g.O.Sink.fault_count c.args.out.now) (g.O.Sink.fault_count c.loop.out) (g.O.Sink.fault_count c.join.new.out)
    c.from_residual-in_err-join-in-Some.ensures.1 c.loop.invariant.faults c.in_err-join-in-Some.ensures.counted

-- nobody waits

pub returns-in-None-clause-steps : goal.returns-in-None-clause-steps
returns-in-None-clause-steps g c = steps_as tt false c.args.session.now c.loop.session c.loop.invariant.steps

pub returns-in-None-clause-tells : goal.returns-in-None-clause-tells
returns-in-None-clause-tells g c = λ names before h. told_as tt false names c.loop.session before (g.O.Sink.written c.loop.out) (c.loop.invariant.tells names before h)

pub returns-in-None-clause-serves : goal.returns-in-None-clause-serves
returns-in-None-clause-serves g c =
    serves_as c.in_ok-knock.field-0 false (g.H.Host.state c.args.host.now) (g.H.Host.state c.accept.new.host) (serves_on tt (Ok c.in_ok-knock.field-0) (g.H.Host.state c.args.host.now) (g.H.Host.state c.loop.host) (g.H.Host.state c.accept.new.host) c.loop.invariant.serves c.in_ok-knock.ensures.serves)

pub returns-in-None-clause-counted : goal.returns-in-None-clause-counted
returns-in-None-clause-counted g c = c.loop.invariant.faults

-- the loop

pub loop-preserved : goal.loop-preserved
loop-preserved g c =
    let e = c.in_ok-join-in-Some.ensures in
    let same : g.O.Sink.fault_count c.join.new.out ≡ g.O.Sink.fault_count c.loop.out = e.counted in
    record {
      steps = steps_on tt going c.args.session.now c.loop.session c.join.new.self c.loop.invariant.steps e.steps;
      tells = λ names before h. e.tells names before (c.loop.invariant.tells names before h);
      serves = serves_as c.in_ok-knock.field-0 tt (g.H.Host.state c.args.host.now) (g.H.Host.state c.accept.new.host) (serves_on tt (Ok c.in_ok-knock.field-0) (g.H.Host.state c.args.host.now) (g.H.Host.state c.loop.host) (g.H.Host.state c.accept.new.host) c.loop.invariant.serves c.in_ok-knock.ensures.serves);
      faults = same ∙ c.loop.invariant.faults;
    }

pub returns-clause-steps : goal.returns-clause-steps
returns-clause-steps g c = steps_as tt true c.args.session.now c.loop.session c.loop.invariant.steps

pub returns-clause-tells : goal.returns-clause-tells
returns-clause-tells g c = λ names before h. told_as tt true names c.loop.session before (g.O.Sink.written c.loop.out) (c.loop.invariant.tells names before h)

pub returns-clause-serves : goal.returns-clause-serves
returns-clause-serves g c = serves_as tt true (g.H.Host.state c.args.host.now) (g.H.Host.state c.loop.host) c.loop.invariant.serves

pub returns-clause-counted : goal.returns-clause-counted
returns-clause-counted g c = c.loop.invariant.faults
