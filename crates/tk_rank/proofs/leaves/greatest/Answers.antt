use Rattle.std.proofs.Common.{◌∙◌, ◌+◌, ◌-◌, ap, ap₂, arith, map}
use Rattle.std.specs.List.{range_with_len}
use Rattle.tk_border.specs.Levels.{greatest_of}
use Rattle.tk_rank.specs.Tree.{greater, standing}
use Rattle.tk_rank.proofs.BlockLemmas.{stands_first, stands_more}
use Rattle.tk_rank.proofs.NodeLemmas.{read_node}
use Rattle.tk_rank.proofs.leaves.greatest.Goals as goal

pub loop-place-init : goal.loop-place-init
loop-place-init g c = record {
  order = omega arith;
  most = c.none-most.ensures ∙ stands_first (map g.N.Node.number c.args.leaves.now) c.args.from;
}

pub loop-place-preserved : goal.loop-place-preserved
loop-place-preserved g c =
    let number = g.N.Node.number in
    let leaves = c.args.leaves.now in
    let i = c.loop-place.place in
    record {
      order = omega (arith, c.loop-place.invariant.order);
      most =
          c.greater-most.ensures
          ∙ ap₂ greater c.loop-place.invariant.most (read_node number leaves i c.index-leaves-place.result (omega (arith, c.loop-place-test.true, c.requires.within)) c.index-leaves-place.is)
          ∙ stands_more (map number leaves) c.args.from i c.loop-place.invariant.order;
    }

pub returns : goal.returns
returns g c =
    c.loop-place.invariant.most
    ∙ ap (λ n. greatest_of (standing (map g.N.Node.number c.args.leaves.now) (range_with_len (c.args.from + 1) n))) {x = c.loop-place.place - c.args.from} {y = c.args.to - c.args.from}
    (omega (arith, c.loop-place-test.false, c.loop-place.auto.place-end))
