use Rattle.std.proofs.Common.{◌∙◌, arith, map}
use Rattle.tk_rank.proofs.NodeLemmas.{read_node, root_within}
use Rattle.tk_rank.proofs.TreeLemmas.{root_stands}
use Rattle.tk_rank.proofs.nodes.root.Goals as goal

pub scale_in_slice-result : goal.scale_in_slice-result
scale_in_slice-result g c = omega (arith, root_within g.N.Node.number c.args.nodes.now c.requires)

pub bounds-nodes-1 : goal.bounds-nodes-1
bounds-nodes-1 g c = root_within g.N.Node.number c.args.nodes.now c.requires

pub returns : goal.returns
returns g c =
    let number = g.N.Node.number in
    let nodes = c.args.nodes.now in
    read_node number nodes 1 c.index-nodes-1.result (root_within number nodes c.requires) c.index-nodes-1.is
    ∙ root_stands (map number nodes) c.requires
