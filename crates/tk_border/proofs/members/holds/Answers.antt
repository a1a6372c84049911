use Rattle.std.proofs.Common.{◌∙◌, sym, ap, arith}
use Rattle.tk_base.specs.Objects.{is_in}
use Rattle.tk_border.proofs.MembershipLemmas.{has_is, holds_more, holds_not}
use Rattle.tk_border.proofs.members.holds.Goals as goal

pub loop-i-preserved : goal.loop-i-preserved
loop-i-preserved c =
    let set = c.args.set.now in
    let has = has_is c.has.result set c.at.result.0 c.has.ensures.0 c.has.ensures.1 in
    holds_more set c.args.members.now c.loop-i.i (omega arith) c.loop-i.invariant
    (ap (is_in set) (sym c.at.ensures.value) ∙ sym has ∙ c.if-not-has.false)

pub returns-then-not-has : goal.returns-then-not-has
returns-then-not-has c =
    let set = c.args.set.now in
    let has = has_is c.has.result set c.at.result.0 c.has.ensures.0 c.has.ensures.1 in
    sym (holds_not set c.args.members.now c.loop-i.i (omega arith) (ap (is_in set) (sym c.at.ensures.value) ∙ sym has ∙ c.if-not-has.true))
