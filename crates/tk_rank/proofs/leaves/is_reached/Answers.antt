use Rattle.std.proofs.Common.{◌+◌, arith, subst, sym}
use Rattle.std.proofs.lemmas.Bool.{ltb-true, ltb-false}
use Rattle.tk_border.specs.Levels.{IsPassed}
use Rattle.tk_border.proofs.PassedLemmas.{passed_on, ahead_of, passed_met, found_here}
use Rattle.tk_rank.proofs.leaves.is_reached.Goals as goal

pub returns-then-place-len-clause-missed : goal.returns-then-place-len-clause-missed
returns-then-place-len-clause-missed c missed =
    let far = ltb-false c.at.result.0 c.args.end missed in
    passed_on c.args.set.now c.args.place c.args.first c.args.end c.requires.passed (omega arith)
    (ahead_of c.args.set.now c.args.place c.args.end c.len.ensures.ascends (omega (arith, c.at.ensures.value, far)))

pub returns-then-place-len-clause-met : goal.returns-then-place-len-clause-met
returns-then-place-len-clause-met c reached one =
    let near = ltb-true c.at.result.0 c.args.end reached in
    let ahead = c.requires.passed.ahead c.args.place 0 (omega arith) (omega arith) in
    subst (λ e. IsPassed c.args.set.now (c.args.place + 1) e) (sym one)
    (passed_met c.args.set.now c.args.place c.args.first c.len.ensures.ascends c.requires.passed (omega arith) (omega (arith, c.at.ensures.value, near, ahead)))

pub returns-then-place-len-clause-value : goal.returns-then-place-len-clause-value
returns-then-place-len-clause-value c reached one =
    let near = ltb-true c.at.result.0 c.args.end reached in
    let ahead = c.requires.passed.ahead c.args.place 0 (omega arith) (omega arith) in
    found_here c.args.set.now c.args.place c.args.first (omega arith) (omega (arith, c.at.ensures.value, near, ahead))
