use Rattle.std.proofs.Common.{◌<◌, List, length, take, refl, sym, ap, ◌∙◌, subst, arith}
use Rattle.std.proofs.lemmas.Bool.{true≢false}
use Rattle.std.proofs.lemmas.List.{take_all}
use Rattle.std.proofs.lemmas.Option.{slice_get_read}
use Rattle.tk_trail.specs.Legal.{IsLegal}
use Rattle.tk_trail.specs.declared.entry.Entry.{Entry}
use Rattle.tk_verify.specs.Driving.{IsDriven}
use Rattle.tk_verify.proofs.FrontLemmas.{driven_on, fault_at_end, fault_here, length_take}
use Rattle.tk_verify.proofs.TrailLemmas.{fresh, reached}
use Rattle.tk_verify.proofs.trails.drive.Goals as goal

pub loop-i-init : goal.loop-i-init
loop-i-init c = record { driven = fresh c.args.monitor.now.setup c.args.monitor.now.trail c.requires.fresh; made = refl }

-- the monitor did something else there
pub returns-then-not-did-clause-halts : goal.returns-then-not-did-clause-halts
returns-then-not-did-clause-halts c =
    let trail = c.args.trail.now in
    let i = c.loop-i.i in
    let entry = c.index-trail-i.result in
    let now = c.reach.new.monitor.trail in
    let less : i < length trail = c.loop-i-test.true in
    let leads = reached c.args.monitor.now c.loop-i.monitor (take i trail) entry now i c.loop-i.invariant.made c.loop-i.invariant.driven (length_take trail i (omega (arith, less))) c.in_ok-reach.ensures.leads in
    fault_here (IsLegal c.args.monitor.now.setup) trail i entry now leads (slice_get_read trail (length trail) i entry refl less c.index-trail-i.is)
    (λ at. true≢false (sym (c.did.ensures.1 at) ∙ c.if-not-did.true))

pub loop-i-preserved : goal.loop-i-preserved
loop-i-preserved c =
    let trail = c.args.trail.now in
    let i = c.loop-i.i in
    let entry = c.index-trail-i.result in
    let now = c.reach.new.monitor.trail in
    let less : i < length trail = c.loop-i-test.true in
    let leads = reached c.args.monitor.now c.loop-i.monitor (take i trail) entry now i c.loop-i.invariant.made c.loop-i.invariant.driven (length_take trail i (omega (arith, less))) c.in_ok-reach.ensures.leads in
    record {
      driven = driven_on (IsLegal c.args.monitor.now.setup) trail i entry now leads (slice_get_read trail (length trail) i entry refl less c.index-trail-i.is) (c.did.ensures.0 c.if-not-did.false);
      made = c.in_ok-reach.ensures.made ∙ c.loop-i.invariant.made;
    }

-- the monitor did more than the trail says
pub returns-then-trail-clause-halts : goal.returns-then-trail-clause-halts
returns-then-trail-clause-halts c =
    let trail = c.args.trail.now in
    let now = c.loop-i.monitor.trail in
    let past = c.loop-i-test.false in
    let more = c.if-trail.true in
    let same = ap length c.trail.ensures.value in
    let driven = subst (λ (xs : List Entry). IsDriven (IsLegal c.args.monitor.now.setup) xs now) (take_all c.loop-i.i trail past) c.loop-i.invariant.driven in
    fault_at_end (IsLegal c.args.monitor.now.setup) trail now driven (omega (arith, more, same))
