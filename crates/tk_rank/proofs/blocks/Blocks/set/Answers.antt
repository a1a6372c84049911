use Rattle.std.proofs.Common.{◌≡◌, ◌∙◌, ◌++◌, sym, ap, arith, length, map, set, take, drop}
use Rattle.std.proofs.lemmas.List.{length-map, take_at}
use Rattle.tk_rank.specs.Tree.{LeavesView}
use Rattle.tk_rank.proofs.blocks.Blocks.set.Given.{Over}
use Rattle.tk_rank.proofs.blocks.Blocks.set.Goals as goal

pub put_leaf-requires-clause-blocks : goal.put_leaf-requires-clause-blocks
put_leaf-requires-clause-blocks g c = rw (c.as_mut_slice.ensures.value, c.as_mut_slice-2.ensures.value) c.self.invariant.blocks

pub put_leaf-requires-clause-within : goal.put_leaf-requires-clause-within
put_leaf-requires-clause-within g c =
    omega (arith, c.requires, ap length c.as_mut_slice.ensures.value, length-map c.self.inside.leaves.items g.N.Node.number, ap (λ (t : LeavesView). length t.leaves) c.self.view_is)

-- what is written through the slices of all is all there is
leaves_are : (g : Over) (c : goal.After-self-2-1 g) → let leaves = c.put_leaf.new.leaves in take c.self.inside.leaves.len (leaves ++ drop (length leaves) c.self.inside.leaves.items) ≡ leaves
leaves_are g c =
    let old = c.self.inside.leaves in
    let new = c.put_leaf.new.leaves in
    take_at new (drop (length new) old.items) old.len (c.put_leaf.auto.leaves ∙ ap length c.as_mut_slice.ensures.value ∙ sym old.ok.0)

nodes_are : (g : Over) (c : goal.After-self-2-1 g) → let nodes = c.put_leaf.new.nodes in take c.self.inside.nodes.len (nodes ++ drop (length nodes) c.self.inside.nodes.items) ≡ nodes
nodes_are g c =
    let old = c.self.inside.nodes in
    let new = c.put_leaf.new.nodes in
    take_at new (drop (length new) old.items) old.len (c.put_leaf.auto.nodes ∙ ap length c.as_mut_slice-2.ensures.value ∙ sym old.ok.0)

pub invariant_of-self : goal.invariant_of-self
invariant_of-self g c = record {
  blocks = rw (leaves_are g c, nodes_are g c) c.put_leaf.ensures.blocks;
  enough = c.self.invariant.enough;
}

pub returns-clause-leaves : goal.returns-clause-leaves
returns-clause-leaves g c =
    let number = g.N.Node.number in
    let place = c.args.place in
    let x = number c.args.number in
    ap (map number) (leaves_are g c)
    ∙ c.put_leaf.ensures.leaves
    ∙ ap (λ list. set (map number list) place x) c.as_mut_slice.ensures.value
    ∙ ap (λ (t : LeavesView). set t.leaves place x) c.self.view_is

pub returns-clause-room : goal.returns-clause-room
returns-clause-room g c = ap (λ (t : LeavesView). t.room) c.self.view_is
