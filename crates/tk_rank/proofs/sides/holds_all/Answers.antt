use Rattle.std.proofs.Common.{◌∙◌, sym, ap, arith, get_or}
use Rattle.std.proofs.lemmas.List.{length-map}
use Rattle.tk_base.specs.Ascending.{numbers_of}
use Rattle.tk_base.specs.Objects.{is_in}
use Rattle.tk_base.specs.declared.ids.Obj.{Obj}
use Rattle.tk_border.proofs.MembershipLemmas.{has_is, holds_more, holds_not}
use Rattle.tk_rank.proofs.SidesLemmas.{number_at}
use Rattle.tk_rank.proofs.sides.holds_all.Goals as goal

pub loop-o-preserved : goal.loop-o-preserved
loop-o-preserved c =
    let set = c.args.set.now in
    let list = c.args.members.now in
    let i = c.loop-o.o-index in
    let o = (get_or list i (record { 0 = 0 })).0 in
    let has = has_is c.has.result set o c.has.ensures.0 c.has.ensures.1 in
    holds_more set (numbers_of list) i (omega (arith, length-map list (λ (x : Obj). x.0))) c.loop-o.invariant
    (ap (is_in set) (number_at list i (omega arith)) ∙ sym has ∙ c.if-not-has.false)

pub returns-then-not-has : goal.returns-then-not-has
returns-then-not-has c =
    let set = c.args.set.now in
    let list = c.args.members.now in
    let i = c.loop-o.o-index in
    let o = (get_or list i (record { 0 = 0 })).0 in
    let has = has_is c.has.result set o c.has.ensures.0 c.has.ensures.1 in
    sym (holds_not set (numbers_of list) i (omega (arith, length-map list (λ (x : Obj). x.0))) (ap (is_in set) (number_at list i (omega arith)) ∙ sym has ∙ c.if-not-has.true))
