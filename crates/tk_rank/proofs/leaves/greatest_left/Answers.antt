use Rattle.std.proofs.Common.{◌∙◌, ◌+◌, ℕ, not, sym, ap, ap₂, subst, arith, map}
use Rattle.tk_base.specs.Objects.{is_in}
use Rattle.tk_border.specs.Levels.{greatest_of, IsPassed}
use Rattle.tk_border.proofs.PassedLemmas.{between}
use Rattle.tk_rank.specs.Tree.{greater, standing}
use Rattle.tk_rank.proofs.BlockLemmas.{kept_out, nothing_first, passing_more}
use Rattle.tk_rank.proofs.NodeLemmas.{read_node}
use Rattle.tk_rank.proofs.leaves.greatest_left.Goals as goal
use Rattle.tk_rank.proofs.leaves.greatest_left.Goals.{then-is_reached, else-is_reached}

pub loop-i-init : goal.loop-i-init
loop-i-init g c = record {
  order = omega arith;
  most = c.none-most.ensures ∙ nothing_first (λ o. not (is_in c.args.set.now o)) (map g.N.Node.number c.args.leaves.now) c.args.from;
  passed = c.requires.passed;
}

pub loop-i-preserved : goal.loop-i-preserved
loop-i-preserved g c =
    let number = g.N.Node.number in
    let from = c.args.from in
    let i = c.loop-i.i in
    let set = c.args.set.now in
    let leaves = map number c.args.leaves.now in
    let test = λ (o : ℕ). not (is_in set o) in
    let was = c.loop-i.invariant in
    elim c.if-is_reached.branch [
      | then-is_reached w ↦ record {
        order = omega (arith, was.order);
        most =
            ap number w.most-is
            ∙ was.most
            ∙ ap (λ list. greatest_of (standing leaves list)) (sym (kept_out test from i was.order (ap not (c.is_reached.ensures.value w.if-is_reached.true (omega arith)))));
        passed = subst (λ p. IsPassed set p (i + 1 + 1)) (sym w.place-is) (subst (λ e. IsPassed set (c.loop-i.place + 1) e) (omega arith) (c.is_reached.ensures.met w.if-is_reached.true (omega arith)));
      }
      | else-is_reached w ↦
          let behind = c.is_reached.ensures.missed w.if-is_reached.false in
          record {
            order = omega (arith, was.order);
            most =
                ap number w.most-is
                ∙ w.greater-most.ensures
                ∙ ap₂ greater was.most (read_node number c.args.leaves.now i w.index-leaves-i.result (omega (arith, c.loop-i-test.true, c.requires.within)) w.index-leaves-i.is)
                ∙ passing_more test leaves from i was.order (ap not (between set c.loop-i.place i (i + 2) (i + 1) was.passed behind (omega arith) (omega arith)));
            passed = subst (λ p. IsPassed set p (i + 1 + 1)) (sym w.place-is) (subst (λ e. IsPassed set c.loop-i.place e) (omega arith) behind);
          }
    ]
