use Rattle.std.proofs.Common.{◌≡◌, ◌≢◌, ◌∙◌, ◌+◌, ◌-◌, ◌*◌, ◌/◌, ◌<◌, min, sym, ap, subst, arith, length, map, set, get_or, None, length-set}
use Rattle.std.specs.List.{range_with_len}
use Rattle.std.proofs.lemmas.List.{length-map, map-set}
use Rattle.std.proofs.lemmas.Bool.{both_ways}
use Rattle.tk_border.specs.Levels.{greatest_of}
use Rattle.tk_rank.specs.Blocks.{AreBlocks}
use Rattle.tk_rank.specs.Tree.{greater, leaves_of, standing}
use Rattle.tk_rank.proofs.BlockLemmas.{block_end, block_of_leaf, block_new, block_same, kept_blocks, put_blocks}
use Rattle.tk_rank.proofs.NodeLemmas.{read_node}
use Rattle.tk_rank.proofs.blocks.put_leaf.Goals as goal

pub returns-then-is_same-clause-leaves : goal.returns-then-is_same-clause-leaves
returns-then-is_same-clause-leaves g c = map-set g.N.Node.number c.args.leaves.now c.args.place c.args.number

pub returns-then-is_same-2-clause-leaves : goal.returns-then-is_same-2-clause-leaves
returns-then-is_same-2-clause-leaves g c = map-set g.N.Node.number c.args.leaves.now c.args.place c.args.number

pub returns-else-is_same-2-clause-leaves : goal.returns-else-is_same-2-clause-leaves
returns-else-is_same-2-clause-leaves g c = map-set g.N.Node.number c.args.leaves.now c.args.place c.args.number

pub returns-then-is_same-clause-blocks : goal.returns-then-is_same-clause-blocks
returns-then-is_same-clause-blocks g c =
    let number = g.N.Node.number in
    let leaves = map number c.args.leaves.now in
    let nodes = map number c.args.nodes.now in
    let place = c.args.place in
    let x = number c.args.number in
    let within : place < length leaves = omega (arith, c.requires.within, length-map c.args.leaves.now number) in
    let most = c.is_same.ensures.0 c.if-is_same.true ∙ c.greater.ensures ∙ ap (λ a. greater a x) c.leaf-top.ensures in
    subst (λ list. AreBlocks list (map number c.put.new.nodes)) (sym (map-set number c.args.leaves.now place c.args.number))
    (put_blocks leaves nodes (map number c.put.new.nodes) place x x c.requires.blocks within c.put.ensures.tree
    (length-map c.put.new.nodes number ∙ c.put.ensures.size ∙ sym (length-map c.args.nodes.now number)) c.put.ensures.leaves (block_new leaves nodes place x c.requires.blocks within most))

pub returns-then-is_same-2-clause-blocks : goal.returns-then-is_same-2-clause-blocks
returns-then-is_same-2-clause-blocks g c =
    let number = g.N.Node.number in
    let leaves = map number c.args.leaves.now in
    let nodes = map number c.args.nodes.now in
    let next = map number c.put-then-is_same-2.new.nodes in
    let place = c.args.place in
    let x = number c.args.number in
    let within : place < length leaves = omega (arith, c.requires.within, length-map c.args.leaves.now number) in
    let written = map-set number c.args.leaves.now place c.args.number in
    let to = c.end.result in
    let long : to ≡ min (length (set leaves place x)) (64 * (place / 64 + 1)) = omega (arith, c.end.ensures, length-set c.args.leaves.now place c.args.number, length-set leaves place x, length-map c.args.leaves.now number) in
    let mended =
    c.greatest-mended.ensures
    ∙ ap (λ list. greatest_of (standing list (range_with_len (64 * (place / 64) + 1) (to - 64 * (place / 64))))) written
    ∙ block_end (set leaves place x) (place / 64) to (omega (arith, long, length-set leaves place x, within)) long in
    subst (λ list. AreBlocks list next) (sym written)
    (put_blocks leaves nodes next place x (number c.greatest-mended.result) c.requires.blocks within c.put-then-is_same-2.ensures.tree
    (length-map c.put-then-is_same-2.new.nodes number ∙ c.put-then-is_same-2.ensures.size ∙ sym (length-map c.args.nodes.now number)) c.put-then-is_same-2.ensures.leaves mended)

pub returns-else-is_same-2-clause-blocks : goal.returns-else-is_same-2-clause-blocks
returns-else-is_same-2-clause-blocks g c =
    let number = g.N.Node.number in
    let leaves = map number c.args.leaves.now in
    let nodes = map number c.args.nodes.now in
    let place = c.args.place in
    let x = number c.args.number in
    let within : place < length leaves = omega (arith, c.requires.within, length-map c.args.leaves.now number) in
    let old = read_node number c.args.leaves.now place c.index-leaves-place.result c.requires.within c.index-leaves-place.is in
    let low : x ≢ greater (get_or (leaves_of nodes) (place / 64) None) x = λ most. both_ways c.is_same.result c.if-is_same.false (c.is_same.ensures.1 (most ∙ sym (c.greater.ensures ∙ ap (λ a. greater a x) c.leaf-top.ensures))) in
    let other : get_or leaves place None ≢ get_or (leaves_of nodes) (place / 64) None = λ same. both_ways c.is_same-else-is_same.result c.if-is_same-2.false (c.is_same-else-is_same.ensures.1 (old ∙ same ∙ sym c.leaf-top.ensures)) in
    subst (λ list. AreBlocks list nodes) (sym (map-set number c.args.leaves.now place c.args.number))
    (kept_blocks leaves nodes place x c.requires.blocks (block_same leaves nodes place x c.requires.blocks within other low))

pub bounds-leaves-place : goal.bounds-leaves-place
bounds-leaves-place g c = c.requires.within

pub leaf-top-requires-clause-tree : goal.leaf-top-requires-clause-tree
leaf-top-requires-clause-tree g c = c.requires.blocks.tree

pub leaf-top-requires-clause-within : goal.leaf-top-requires-clause-within
leaf-top-requires-clause-within g c = block_of_leaf g.N.Node.number c.args.leaves.now c.args.nodes.now c.args.place c.requires.blocks c.requires.within

pub bounds-leaves-place-2 : goal.bounds-leaves-place-2
bounds-leaves-place-2 g c = c.requires.within

pub greater-requires : goal.greater-requires
greater-requires g c κs = λ within. within

pub is_same-requires : goal.is_same-requires
is_same-requires g c κs = λ within. within

pub put-requires-clause-tree : goal.put-requires-clause-tree
put-requires-clause-tree g c = c.requires.blocks.tree

pub put-requires-clause-within : goal.put-requires-clause-within
put-requires-clause-within g c = block_of_leaf g.N.Node.number c.args.leaves.now c.args.nodes.now c.args.place c.requires.blocks c.requires.within

pub is_same-requires-else-is_same : goal.is_same-requires-else-is_same
is_same-requires-else-is_same g c κs = λ within. within

pub overflow_mul-block : goal.overflow_mul-block
overflow_mul-block g c = omega (arith, c.ranges.place.fits)

pub end-requires : goal.end-requires
end-requires g c = omega (arith, c.requires.within, c.requires.blocks.few, length-map c.args.leaves.now g.N.Node.number)

pub greatest-mended-requires-clause-order : goal.greatest-mended-requires-clause-order
greatest-mended-requires-clause-order g c = omega (arith, c.end.ensures, c.requires.within, length-set c.args.leaves.now c.args.place c.args.number)

pub greatest-mended-requires-clause-within : goal.greatest-mended-requires-clause-within
greatest-mended-requires-clause-within g c = omega (arith, c.end.ensures)

pub put-requires-then-is_same-2-clause-tree : goal.put-requires-then-is_same-2-clause-tree
put-requires-then-is_same-2-clause-tree g c = c.requires.blocks.tree

pub put-requires-then-is_same-2-clause-within : goal.put-requires-then-is_same-2-clause-within
put-requires-then-is_same-2-clause-within g c = block_of_leaf g.N.Node.number c.args.leaves.now c.args.nodes.now c.args.place c.requires.blocks c.requires.within
