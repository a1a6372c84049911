use Rattle.std.proofs.Common.{◌/◌, ◌+◌, ◌∙◌, ap, sym, arith, length, map, None}
use Rattle.std.proofs.lemmas.List.{get_or-drop, length-map}
use Rattle.tk_rank.specs.Tree.{node_at, width_of}
use Rattle.tk_rank.proofs.NodeLemmas.{leaf_within, read_node}
use Rattle.tk_rank.proofs.nodes.leaf.Goals as goal

pub offset_bounds-nodes-nodes : goal.offset_bounds-nodes-nodes
offset_bounds-nodes-nodes g c =
    omega (arith, leaf_within g.N.Node.number c.args.nodes.now c.args.place c.requires.tree c.requires.within)

pub bounds-nodes-nodes : goal.bounds-nodes-nodes
bounds-nodes-nodes g c = leaf_within g.N.Node.number c.args.nodes.now c.args.place c.requires.tree c.requires.within

pub returns : goal.returns
returns g c =
    let number = g.N.Node.number in
    let nodes = c.args.nodes.now in
    let place = c.args.place in
    let within = leaf_within number nodes place c.requires.tree c.requires.within in
    read_node number nodes (length nodes / 2 + place) c.index-nodes-nodes.result within c.index-nodes-nodes.is
    ∙ ap (λ n. node_at (map number nodes) (n / 2 + place)) (sym (length-map nodes number))
    ∙ sym (get_or-drop (width_of (map number nodes)) (map number nodes) place None)
