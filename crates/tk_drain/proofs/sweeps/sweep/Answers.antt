use Rattle.tk_drain.specs.declared.leg.Leg.TheVariants as p
use Rattle.tk_drain.proofs.LegLemmas.{cut_in_checks, cut_in_downs, cut_in_ups, err_by, leg_done, still_behind, sweep_done, sweep_tells}
use Rattle.tk_drain.proofs.sweeps.sweep.Goals as goal

pub returns-in_err-checks-clause-err : goal.returns-in_err-checks-clause-err
returns-in_err-checks-clause-err g c = err_by c.from_residual.result (cut_in_checks c.args.world.now c.run.new.world c.in_err-checks.ensures.err)

pub returns-in_err-ups-clause-err : goal.returns-in_err-ups-clause-err
returns-in_err-ups-clause-err g c =
    let one = leg_done p.Check c.args.world.now c.run.new.world c.in_ok-checks.checks c.settings.ensures.legal c.in_ok-checks.ensures.ok c.in_ok-checks.ensures.moved in
    err_by c.from_residual-in_err-ups.result (cut_in_ups c.args.world.now c.run.new.world c.run-2.new.world c.in_ok-checks.checks one c.in_err-ups.ensures.err)

pub returns-in_err-downs-clause-err : goal.returns-in_err-downs-clause-err
returns-in_err-downs-clause-err g c =
    let one = leg_done p.Check c.args.world.now c.run.new.world c.in_ok-checks.checks c.settings.ensures.legal c.in_ok-checks.ensures.ok c.in_ok-checks.ensures.moved in
    let two = leg_done p.Up c.run.new.world c.run-2.new.world c.in_ok-ups.ups c.run.ensures.legal c.in_ok-ups.ensures.ok c.in_ok-ups.ensures.moved in
    err_by c.from_residual-in_err-downs.result (cut_in_downs c.args.world.now c.run.new.world c.run-2.new.world c.run-3.new.world c.in_ok-checks.checks c.in_ok-ups.ups one two c.in_err-downs.ensures.err)

pub returns-in_err-checks-clause-enabled : goal.returns-in_err-checks-clause-enabled
returns-in_err-checks-clause-enabled g c = err_by c.from_residual.result c.in_err-checks.ensures.enabled

pub returns-in_err-ups-clause-enabled : goal.returns-in_err-ups-clause-enabled
returns-in_err-ups-clause-enabled g c =
    let one = leg_done p.Check c.args.world.now c.run.new.world c.in_ok-checks.checks c.settings.ensures.legal c.in_ok-checks.ensures.ok c.in_ok-checks.ensures.moved in
    err_by c.from_residual-in_err-ups.result (λ still. c.in_err-ups.ensures.enabled (still_behind p.Check c.args.world.now c.run.new.world c.in_ok-checks.checks one still))

pub returns-in_err-downs-clause-enabled : goal.returns-in_err-downs-clause-enabled
returns-in_err-downs-clause-enabled g c =
    let one = leg_done p.Check c.args.world.now c.run.new.world c.in_ok-checks.checks c.settings.ensures.legal c.in_ok-checks.ensures.ok c.in_ok-checks.ensures.moved in
    let two = leg_done p.Up c.run.new.world c.run-2.new.world c.in_ok-ups.ups c.run.ensures.legal c.in_ok-ups.ensures.ok c.in_ok-ups.ensures.moved in
    err_by c.from_residual-in_err-downs.result
    (λ still. c.in_err-downs.ensures.enabled (still_behind p.Up c.run.new.world c.run-2.new.world c.in_ok-ups.ups two (still_behind p.Check c.args.world.now c.run.new.world c.in_ok-checks.checks one still)))

pub returns-clause-ok : goal.returns-clause-ok
returns-clause-ok g c =
    let one = leg_done p.Check c.args.world.now c.run.new.world c.in_ok-checks.checks c.settings.ensures.legal c.in_ok-checks.ensures.ok c.in_ok-checks.ensures.moved in
    let two = leg_done p.Up c.run.new.world c.run-2.new.world c.in_ok-ups.ups c.run.ensures.legal c.in_ok-ups.ensures.ok c.in_ok-ups.ensures.moved in
    let three = leg_done p.Down c.run-2.new.world c.run-3.new.world c.in_ok-downs.downs c.run-2.ensures.legal c.in_ok-downs.ensures.ok c.in_ok-downs.ensures.moved in
    sweep_done c.args.world.now c.run.new.world c.run-2.new.world c.run-3.new.world c.in_ok-checks.checks c.in_ok-ups.ups c.in_ok-downs.downs one two three

pub returns-clause-idle : goal.returns-clause-idle
returns-clause-idle g c =
    let two_grow = c.either.ensures c.args.world.now c.run.new.world c.run-2.new.world c.in_ok-checks.ensures.moved c.in_ok-ups.ensures.moved in
    sweep_tells c.args.world.now c.run-3.new.world c.either-2.result (returns-clause-ok g c) (c.either-2.ensures c.args.world.now c.run-2.new.world c.run-3.new.world two_grow c.in_ok-downs.ensures.moved)
