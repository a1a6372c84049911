use Rattle.std.proofs.Common.{◌≡◌, ◌*◌, ◌∙◌, ◌++◌, ◌∷◌, [], ap, ap₂, sym, arith, map, replicate, None, length}
use Rattle.std.proofs.lemmas.List.{length-map, length-replicate, map_push, replicate-append-replicate}
use Rattle.tk_rank.proofs.TreeLemmas.{empty_tree, enough_leaves, no_leaf}
use Rattle.tk_rank.proofs.nodes.empty.Given.{Over}
use Rattle.tk_rank.proofs.nodes.empty.Goals as goal

pub push_reserved-requires : goal.push_reserved-requires
push_reserved-requires g c =
    let room = c.requires.room c.next_power_of_two-width.result c.next_power_of_two-width.ensures.power c.next_power_of_two-width.ensures.upper_bound in
    let long : length c.loop.nodes.items ≡ c.loop.counter = sym (length-map c.loop.nodes.items g.N.Node.number) ∙ ap length c.loop.invariant.items ∙ length-replicate c.loop.counter None in
    omega (arith, room, long, c.loop.invariant.room, c.loop.nodes.ok)

pub loop-preserved : goal.loop-preserved
loop-preserved g c = record {
  items =
      ap (map g.N.Node.number) c.push_reserved.ensures.items
      ∙ map_push g.N.Node.number c.loop.nodes.items c.none.result
      ∙ ap₂ (λ list x. list ++ x ∷ []) c.loop.invariant.items c.none.ensures
      ∙ replicate-append-replicate c.loop.counter 1 None;
  room = c.push_reserved.ensures.capacity ∙ c.loop.invariant.room;
}

-- all nodes are written
whole : (g : Over) (c : goal.After-loop g) → map g.N.Node.number c.loop.nodes.items ≡ replicate (2 * c.next_power_of_two-width.result) None
whole g c = c.loop.invariant.items ∙ ap (λ n. replicate n None) (omega (arith, c.loop-test.false, c.loop.auto.counter-end))

pub returns-clause-tree : goal.returns-clause-tree
returns-clause-tree g c =
    empty_tree (map g.N.Node.number c.loop.nodes.items) c.next_power_of_two-width.result (whole g c) c.next_power_of_two-width.ensures.power (omega (arith, c.requires.few, c.next_power_of_two-width.ensures.upper_bound))

pub returns-clause-enough : goal.returns-clause-enough
returns-clause-enough g c =
    omega (arith, enough_leaves (map g.N.Node.number c.loop.nodes.items) c.next_power_of_two-width.result (whole g c), c.next_power_of_two-width.ensures.lower_bound)

pub returns-clause-empty : goal.returns-clause-empty
returns-clause-empty g c i = no_leaf (map g.N.Node.number c.loop.nodes.items) c.next_power_of_two-width.result i (whole g c)
