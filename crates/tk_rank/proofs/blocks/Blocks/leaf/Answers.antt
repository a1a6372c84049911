use Rattle.std.proofs.Common.{◌∙◌, ◌<◌, ap, arith, get_or, length, None}
use Rattle.std.proofs.lemmas.List.{length-map}
use Rattle.tk_rank.specs.Tree.{LeavesView}
use Rattle.tk_rank.proofs.NodeLemmas.{read_node}
use Rattle.tk_rank.proofs.blocks.Blocks.leaf.Goals as goal

pub index-requires : goal.index-requires
index-requires g c =
    let leaves = c.self.inside.leaves in
    omega (arith, c.requires, ap (λ (t : LeavesView). length t.leaves) c.self.view_is, length-map leaves.items g.N.Node.number, leaves.ok.0)

pub returns : goal.returns
returns g c =
    let number = g.N.Node.number in
    let items = c.self.inside.leaves.items in
    let within : c.args.place < length items = omega (arith, c.requires, ap (λ (t : LeavesView). length t.leaves) c.self.view_is, length-map items number) in
    read_node number items c.args.place c.index.result.now within c.index.ensures
    ∙ ap (λ (t : LeavesView). get_or t.leaves c.args.place None) c.self.view_is
