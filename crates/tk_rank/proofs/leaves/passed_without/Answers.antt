use Rattle.std.proofs.Common.{◌≡◌, ◌∙◌, ◌+◌, ◌-◌, ◌<◌, sym, subst, arith, get_or, length, map}
use Rattle.std.proofs.lemmas.Bool.{both_ways}
use Rattle.tk_base.proofs.AscendingLemmas.{ascending_positive}
use Rattle.tk_rank.specs.Tree.{IsOther}
use Rattle.tk_rank.proofs.BlockLemmas.{passed_to, within_more}
use Rattle.tk_rank.proofs.NodeLemmas.{read_node}
use Rattle.tk_rank.proofs.leaves.passed_without.Goals as goal

pub returns-then-to-o-clause-passed : goal.returns-then-to-o-clause-passed
returns-then-to-o-clause-passed g c =
    passed_to c.args.set.now c.loop-next.next (c.args.to + 1) c.at-o.ensures.ascends
    (omega (arith, c.loop-next-test.true, c.len-next-end.ensures.value)) c.loop-next.invariant.passed (omega (arith, c.at-o.ensures.value, c.if-to-o.true))

pub loop-next-preserved : goal.loop-next-preserved
loop-next-preserved g c =
    let number = g.N.Node.number in
    let set = c.args.set.now in
    let leaves = c.args.leaves.now in
    let next = c.loop-next.next in
    let was = c.loop-next.invariant in
    let o = c.at-o.result.0 in
    let here : get_or set next 0 ≡ o = sym c.at-o.ensures.value in
    let inside : next < length set = omega (arith, c.loop-next-test.true, c.len-next-end.ensures.value) in
    let low : 0 < o = subst (λ q. 0 < q) here (ascending_positive set c.at-o.ensures.ascends next inside) in
    record {
      order = omega (arith, was.order);
      passed = within_more (λ q. q < c.args.to + 1) set 0 next was.passed inside (omega (arith, here, c.if-to-o.false));
      other = within_more (IsOther (map number leaves) (number c.args.top)) set c.args.place next was.other inside
          (subst (IsOther (map number leaves) (number c.args.top)) (sym here) (λ same.
          both_ways c.is_same.result c.if-is_same.false
          (c.is_same.ensures.1 (read_node number leaves (o - 1) c.index-leaves-o.result (omega (arith, c.if-to-o.false, c.requires.within, low)) c.index-leaves-o.is ∙ same))));
    }
