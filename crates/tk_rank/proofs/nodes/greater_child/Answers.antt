use Rattle.std.proofs.Common.{◌≡◌, ℕ, ◌+◌, ◌*◌, ◌∙◌, ap, ap₂, arith, map}
use Rattle.tk_rank.specs.Tree.{greater, node_at}
use Rattle.tk_rank.proofs.NodeLemmas.{read_node}
use Rattle.tk_rank.proofs.nodes.greater_child.Goals as goal

doubled : (n : ℕ) → 2 * n ≡ n + n
doubled n = omega arith

pub returns : goal.returns
returns g c =
    let number = g.N.Node.number in
    let nodes = c.args.nodes.now in
    let node = c.args.node in
    let first = read_node number nodes (2 * node) c.index-nodes-node.result (omega (arith, c.requires)) c.index-nodes-node.is in
    let second = read_node number nodes (2 * node + 1) c.index-nodes-node-2.result (omega (arith, c.requires)) c.index-nodes-node-2.is in
    c.greater.ensures
    ∙ ap₂ greater first second
    ∙ ap₂ (λ a b. greater (node_at (map number nodes) a) (node_at (map number nodes) b)) (doubled node) (ap (λ n. n + 1) (doubled node))
