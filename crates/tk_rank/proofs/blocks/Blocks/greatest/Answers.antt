use Rattle.std.proofs.Common.{◌∙◌, ap, map}
use Rattle.tk_rank.specs.Tree.{LeavesView, greatest_leaf, leaves_of}
use Rattle.tk_rank.proofs.BlockLemmas.{blocks_root}
use Rattle.tk_rank.proofs.blocks.Blocks.greatest.Goals as goal

pub returns : goal.returns
returns g c =
    let number = g.N.Node.number in
    let inside = c.self.inside in
    c.root.ensures
    ∙ ap (λ list. greatest_leaf (leaves_of (map number list))) c.as_slice.ensures.value
    ∙ blocks_root (map number inside.leaves.items) (map number inside.nodes.items) c.self.invariant.blocks
    ∙ ap (λ (t : LeavesView). greatest_leaf t.leaves) c.self.view_is
