use Rattle.std.proofs.Common.{rules, ◌≡◌, ◌<◌, refl, ◌/◌, ◌+◌, ◌∙◌, sym, ap, subst, arith, length, length-set, map, set}
use Rattle.std.proofs.lemmas.List.{length-map, map-set}
use Rattle.tk_rank.specs.Tree.{leaves_of, width_of}
use Rattle.tk_rank.proofs.NodeLemmas.{read_node, leaf_within, mending_starts, mending_goes_on, mending_ends, mending_stops, leaves-set, leaves-inner, IsMending}
use Rattle.tk_rank.proofs.nodes.put.Goals as goal

pub bounds-nodes-child : goal.bounds-nodes-child
bounds-nodes-child g c = leaf_within g.N.Node.number c.args.nodes.now c.args.place c.requires.tree c.requires.within

pub loop-child-init : goal.loop-child-init
loop-child-init g c =
    let number = g.N.Node.number in
    let nodes = c.args.nodes.now in
    let place = c.args.place in
    let at = length nodes / 2 + place in
    let x = number c.args.leaf in
    let same = length-map nodes number in
    let half : length nodes / 2 ≡ width_of (map number nodes) = ap (λ n. n / 2) (sym same) in
    let written = map-set number nodes at c.args.leaf in
    let within = leaf_within number nodes place c.requires.tree c.requires.within in
    record {
      mending = subst (λ list. IsMending list at) (sym written) (mending_starts (map number nodes) at x c.requires.tree (omega (arith, half)) (omega (arith, within, same)));
      leaves =
          ap leaves_of written
          ∙ leaves-set (map number nodes) at x (omega (arith, half))
          ∙ ap (λ k. set (leaves_of (map number nodes)) k x) (omega (arith, half));
      size = length-set nodes at c.args.leaf;
    }

pub loop-child-preserved : goal.loop-child-preserved
loop-child-preserved g c =
    let number = g.N.Node.number in
    let nodes = c.loop-child.nodes in
    let child = c.loop-child.child in
    let m = c.loop-child.invariant.mending in
    let mended = c.greater_child-mended.result in
    let written = map-set number nodes (child / 2) mended in
    record {
      mending = subst (λ list. IsMending list (child / 2)) (sym written) (mending_goes_on (map number nodes) child (child / 2) (number mended) m (omega arith) refl c.greater_child-mended.ensures);
      leaves =
          ap leaves_of written
          ∙ leaves-inner (map number nodes) (child / 2) (number mended) (omega (arith, m.even, m.within))
          ∙ c.loop-child.invariant.leaves;
      size = length-set nodes (child / 2) mended ∙ c.loop-child.invariant.size;
    }

pub returns-then-is_same-clause-tree : goal.returns-then-is_same-clause-tree
returns-then-is_same-clause-tree g c =
    let number = g.N.Node.number in
    let nodes = c.loop-child.nodes in
    let child = c.loop-child.child in
    let m = c.loop-child.invariant.mending in
    let within : child / 2 < length nodes = omega (arith, m.within, length-map nodes number) in
    mending_stops (map number nodes) child (child / 2) m refl
    (sym (read_node number nodes (child / 2) c.index-nodes-child.result within c.index-nodes-child.is) ∙ c.is_same.ensures.0 c.if-is_same.true ∙ c.greater_child-mended.ensures)

pub returns-clause-tree : goal.returns-clause-tree
returns-clause-tree g c = mending_ends (map g.N.Node.number c.loop-child.nodes) c.loop-child.child c.loop-child.invariant.mending c.loop-child-test.false

pub overflow_add-child : goal.overflow_add-child
overflow_add-child g c = omega (arith, leaf_within g.N.Node.number c.args.nodes.now c.args.place c.requires.tree c.requires.within, length-map c.args.nodes.now g.N.Node.number, c.requires.tree.even, c.requires.tree.few)

-- the bound of an index is named, and its offset follows from it
pub offset_bounds-nodes-child : goal.offset_bounds-nodes-child
offset_bounds-nodes-child g c =
    let within = leaf_within g.N.Node.number c.args.nodes.now c.args.place c.requires.tree c.requires.within in search rules

pub offset_bounds-nodes-child-in-loop-child : goal.offset_bounds-nodes-child-in-loop-child
offset_bounds-nodes-child-in-loop-child g c =
    let within : c.loop-child.child / 2 < length c.args.nodes.now =
    omega (arith, c.loop-child.invariant.mending.within, c.loop-child.invariant.size, length-map c.loop-child.nodes g.N.Node.number) in
    search rules

pub offset_bounds-nodes-child-in-loop-child-2 : goal.offset_bounds-nodes-child-in-loop-child-2
offset_bounds-nodes-child-in-loop-child-2 g c =
    let within : c.loop-child.child / 2 < length c.args.nodes.now =
    omega (arith, c.loop-child.invariant.mending.within, c.loop-child.invariant.size, length-map c.loop-child.nodes g.N.Node.number) in
    search rules

pub greater_child-mended-requires : goal.greater_child-mended-requires
greater_child-mended-requires g c =
    let m = c.loop-child.invariant.mending in
    omega (arith, c.loop-child-test.true, m.even, m.within, length-map c.loop-child.nodes g.N.Node.number)

pub bounds-nodes-child-in-loop-child : goal.bounds-nodes-child-in-loop-child
bounds-nodes-child-in-loop-child g c =
    omega (arith, c.loop-child.invariant.mending.within, length-map c.loop-child.nodes g.N.Node.number)

pub is_same-requires : goal.is_same-requires
is_same-requires g c κs = λ within. within

pub returns-then-is_same-clause-leaves : goal.returns-then-is_same-clause-leaves
returns-then-is_same-clause-leaves g c = c.loop-child.invariant.leaves

pub returns-then-is_same-clause-size : goal.returns-then-is_same-clause-size
returns-then-is_same-clause-size g c = c.loop-child.invariant.size

pub bounds-nodes-child-in-loop-child-2 : goal.bounds-nodes-child-in-loop-child-2
bounds-nodes-child-in-loop-child-2 g c =
    omega (arith, c.loop-child.invariant.mending.within, length-map c.loop-child.nodes g.N.Node.number)

pub loop-child-smaller : goal.loop-child-smaller
loop-child-smaller g c = omega (arith, c.loop-child-test.true)

pub returns-clause-leaves : goal.returns-clause-leaves
returns-clause-leaves g c = c.loop-child.invariant.leaves

pub returns-clause-size : goal.returns-clause-size
returns-clause-size g c = c.loop-child.invariant.size
