use Rattle.std.proofs.Common.{◌∙◌, false, refl, subst, arith}
use Rattle.std.specs.Prelude.{Bool}
use Rattle.tk_bytes.specs.Line.{MovesDown}
use Rattle.tk_bytes.proofs.DownLemmas.{comes_down, left_told, told_others, told_same}
use Rattle.tk_bytes.proofs.LineLemmas.{others_join, others_same}
use Rattle.tk_bytes.proofs.downward.carry_down.Goals as goal

pub returns-in_err-say-clause-coordinator : goal.returns-in_err-say-clause-coordinator
returns-in_err-say-clause-coordinator c = told_same c.args.mon.0 c.args.hub.now c.say.new.hub c.say.ensures.says

pub returns-in_err-say-clause-others : goal.returns-in_err-say-clause-others
returns-in_err-say-clause-others c = told_others c.args.mon.0 c.args.hub.now c.say.new.hub c.say.ensures.says

pub loop-hub-init : goal.loop-hub-init
loop-hub-init c = record { line = c.say.ensures.line; said = c.in_ok-say.ensures.said; same = refl; port = refl; others = others_same c.args.mon.0 c.say.new.hub }

pub loop-hub-smaller : goal.loop-hub-smaller
loop-hub-smaller c =
    let mon = c.args.mon.0 in
    let inv = c.loop-hub.invariant in
    let first = told_same mon c.args.hub.now c.say.new.hub c.say.ensures.says in
    let comes = comes_down mon c.args.hub.now.coordinator c.loop-hub.hub.coordinator c.args.line.now.port.monitor c.loop-hub.line.port.monitor c.requires.next.0 (inv.same ∙ first) inv.port c.requires.next.1 in
    let moves : MovesDown mon c.requires.next.0 false c.loop-hub.hub c.loop-hub.line c.step.new.hub c.step.new.line =
    subst (λ (b : Bool). MovesDown mon c.requires.next.0 b c.loop-hub.hub c.loop-hub.line c.step.new.hub c.step.new.line) c.if-not-branch.true (c.in_ok-step.ensures.moves c.requires.next.0 comes) in
    let same = left_told mon c.step.new.hub c.say-in-loop-hub.new.hub c.step.new.line c.step.ensures.line c.say-in-loop-hub.ensures.says c.step.ensures.written (λ link at. (c.in_ok-say-2.ensures.said link at).written) in
    let less = moves.1 in
    omega (arith, same, less)

pub loop-hub-preserved : goal.loop-hub-preserved
loop-hub-preserved c =
    let mon = c.args.mon.0 in
    let inv = c.loop-hub.invariant in
    let first = told_same mon c.args.hub.now c.say.new.hub c.say.ensures.says in
    let comes = comes_down mon c.args.hub.now.coordinator c.loop-hub.hub.coordinator c.args.line.now.port.monitor c.loop-hub.line.port.monitor c.requires.next.0 (inv.same ∙ first) inv.port c.requires.next.1 in
    let moves : MovesDown mon c.requires.next.0 false c.loop-hub.hub c.loop-hub.line c.step.new.hub c.step.new.line =
    subst (λ (b : Bool). MovesDown mon c.requires.next.0 b c.loop-hub.hub c.loop-hub.line c.step.new.hub c.step.new.line) c.if-not-branch.true (c.in_ok-step.ensures.moves c.requires.next.0 comes) in
    record {
      line = c.say-in-loop-hub.ensures.line;
      said = c.in_ok-say-2.ensures.said;
      same = told_same mon c.step.new.hub c.say-in-loop-hub.new.hub c.say-in-loop-hub.ensures.says ∙ c.step.ensures.coordinator ∙ inv.same;
      port = moves.0 ∙ inv.port;
      others = others_join mon c.say.new.hub c.step.new.hub c.say-in-loop-hub.new.hub (others_join mon c.say.new.hub c.loop-hub.hub c.step.new.hub inv.others c.step.ensures.others) (told_others mon c.step.new.hub c.say-in-loop-hub.new.hub c.say-in-loop-hub.ensures.says);
    }

pub returns-in_err-step-clause-coordinator : goal.returns-in_err-step-clause-coordinator
returns-in_err-step-clause-coordinator c =
    let mon = c.args.mon.0 in
    let inv = c.loop-hub.invariant in
    let first = told_same mon c.args.hub.now c.say.new.hub c.say.ensures.says in
    c.step.ensures.coordinator ∙ inv.same ∙ first

pub returns-in_err-step-clause-others : goal.returns-in_err-step-clause-others
returns-in_err-step-clause-others c =
    let mon = c.args.mon.0 in
    let inv = c.loop-hub.invariant in
    let first = told_same mon c.args.hub.now c.say.new.hub c.say.ensures.says in
    others_join mon c.args.hub.now c.loop-hub.hub c.step.new.hub (others_join mon c.args.hub.now c.say.new.hub c.loop-hub.hub (told_others mon c.args.hub.now c.say.new.hub c.say.ensures.says) inv.others) c.step.ensures.others

pub returns-clause-coordinator : goal.returns-clause-coordinator
returns-clause-coordinator c =
    let mon = c.args.mon.0 in
    let inv = c.loop-hub.invariant in
    let first = told_same mon c.args.hub.now c.say.new.hub c.say.ensures.says in
    c.step.ensures.coordinator ∙ inv.same ∙ first

pub returns-clause-others : goal.returns-clause-others
returns-clause-others c =
    let mon = c.args.mon.0 in
    let inv = c.loop-hub.invariant in
    let first = told_same mon c.args.hub.now c.say.new.hub c.say.ensures.says in
    others_join mon c.args.hub.now c.loop-hub.hub c.step.new.hub (others_join mon c.args.hub.now c.say.new.hub c.loop-hub.hub (told_others mon c.args.hub.now c.say.new.hub c.say.ensures.says) inv.others) c.step.ensures.others

pub returns-in_err-say-2-clause-coordinator : goal.returns-in_err-say-2-clause-coordinator
returns-in_err-say-2-clause-coordinator c =
    let mon = c.args.mon.0 in
    let inv = c.loop-hub.invariant in
    let first = told_same mon c.args.hub.now c.say.new.hub c.say.ensures.says in
    told_same mon c.step.new.hub c.say-in-loop-hub.new.hub c.say-in-loop-hub.ensures.says ∙ c.step.ensures.coordinator ∙ inv.same ∙ first

pub returns-in_err-say-2-clause-others : goal.returns-in_err-say-2-clause-others
returns-in_err-say-2-clause-others c =
    let mon = c.args.mon.0 in
    let inv = c.loop-hub.invariant in
    let first = told_same mon c.args.hub.now c.say.new.hub c.say.ensures.says in
    others_join mon c.args.hub.now c.step.new.hub c.say-in-loop-hub.new.hub (others_join mon c.args.hub.now c.loop-hub.hub c.step.new.hub (others_join mon c.args.hub.now c.say.new.hub c.loop-hub.hub (told_others mon c.args.hub.now c.say.new.hub c.say.ensures.says) inv.others) c.step.ensures.others) (told_others mon c.step.new.hub c.say-in-loop-hub.new.hub c.say-in-loop-hub.ensures.says)
