use Rattle.std.proofs.Common.{◌≡◌, ◌∙◌, ◌+◌, ◌-◌, ◌*◌, ◌++◌, ◌<◌, ◌≤◌, min, ℤ, List, Option, false, sym, ap, ap₂, subst, arith, length, map, get_or, to_z, of_z, None}
use Rattle.std.specs.Int.{w128}
use Rattle.std.specs.List.{range_with_len}
use Rattle.std.proofs.lemmas.Int.{to_z-of_z}
use Rattle.std.proofs.lemmas.List.{append-nil, length-map}
use Rattle.tk_base.specs.Ascending.{numbers_of}
use Rattle.tk_rank.specs.Blocks.{AreBlocks, blocks_of}
use Rattle.tk_rank.specs.Tree.{LeavesView, is_over, leaves_of, those_over}
use Rattle.tk_rank.proofs.BlockLemmas.{all_blocks, found_more, nothing_found, nothing_over, one_of_blocks}
use Rattle.tk_rank.proofs.blocks.Blocks.above.Goals as goal
use Rattle.tk_rank.proofs.blocks.Blocks.above.Goals.{then-is_over+in_ok-add_above, else-is_over}

pub loop-block-preserved : goal.loop-block-preserved
loop-block-preserved g c =
    let number = g.N.Node.number in
    let inside = c.self.inside in
    let leaves = c.args.self.now.leaves in
    let nodes = map number inside.nodes.items in
    let view : map number inside.leaves.items ≡ leaves = ap (λ (t : LeavesView). t.leaves) c.self.view_is in
    let slice : map number c.as_slice-leaves.result.now ≡ leaves = ap (map number) c.as_slice-leaves.ensures.value ∙ view in
    let long : length c.as_slice-leaves.result.now ≡ length leaves = sym (length-map c.as_slice-leaves.result.now number) ∙ ap length slice in
    let blocks : AreBlocks leaves nodes = subst (λ (list : List (Option ℤ)). AreBlocks list nodes) view c.self.invariant.blocks in
    let block = c.loop-block.block in
    let before : 64 * block < length leaves = omega (arith, c.loop-block-test.true, c.count-block-end.ensures, ap blocks_of long) in
    let to = min (length leaves) (64 * (block + 1)) in
    let order : 64 * block ≤ to = omega (arith, before) in
    let level = to_z w128 (of_z w128 c.args.level) in
    let more = found_more level leaves block to order (omega arith) in
    elim c.if-is_over.branch [
      | then-is_over+in_ok-add_above w ↦
          let end : w.end-to.result ≡ to = w.end-to.ensures ∙ ap (λ n. min n (64 * (block + 1))) long in
          ap (λ v. numbers_of v.items) w.found-is
          ∙ w.in_ok-add_above.ensures
          ∙ ap₂ (λ a b. a ++ b) c.loop-block.invariant (ap₂ (λ list n. those_over level list (range_with_len (64 * block + 1) (n - 64 * block))) slice end)
          ∙ sym more
      | else-is_over w ↦
          let found = those_over level leaves (range_with_len 1 (min (length leaves) (64 * block))) in
          let low : is_over level (get_or (leaves_of nodes) block None) ≡ false =
          ap (is_over level) (sym (c.leaf.ensures ∙ ap (λ list. get_or (leaves_of (map number list)) block None) c.as_slice.ensures.value))
          ∙ sym c.is_over.ensures
          ∙ w.if-is_over.false in
          ap (λ v. numbers_of v.items) w.found-is
          ∙ c.loop-block.invariant
          ∙ sym (append-nil found)
          ∙ ap (λ list. found ++ list) (sym (nothing_over level leaves nodes block to blocks order (omega arith) low))
          ∙ sym more
    ]

pub returns : goal.returns
returns g c =
    let leaves = c.args.self.now.leaves in
    c.loop-block.invariant
    ∙ ap (λ l. those_over l leaves (range_with_len 1 (min (length leaves) (64 * c.loop-block.block)))) (to_z-of_z w128 c.args.level c.ranges.level)
    ∙ ap (those_over c.args.level leaves) (all_blocks (length leaves) c.loop-block.block (omega (arith, c.loop-block-test.false, c.count-block-end.ensures, ap blocks_of (ap length c.as_slice-leaves.ensures.value ∙ sym (length-map c.self.inside.leaves.items g.N.Node.number) ∙ ap (λ (t : LeavesView). length t.leaves) c.self.view_is))))

pub count-block-end-requires : goal.count-block-end-requires
count-block-end-requires g c = omega (arith, c.self.invariant.blocks.few, length-map c.self.inside.leaves.items g.N.Node.number, ap length c.as_slice-leaves.ensures.value)

pub loop-block-init : goal.loop-block-init
loop-block-init g c =
    let leaves = c.args.self.now.leaves in
    ap numbers_of c.new-found.ensures.items
    ∙ nothing_found (to_z w128 (of_z w128 c.args.level)) leaves (min (length leaves) 0) (omega arith)

pub leaf-requires-clause-tree : goal.leaf-requires-clause-tree
leaf-requires-clause-tree g c = rw c.as_slice.ensures.value c.self.invariant.blocks.tree

pub leaf-requires-clause-within : goal.leaf-requires-clause-within
leaf-requires-clause-within g c =
    let number = g.N.Node.number in
    let inside = c.self.inside in
    let long : length c.as_slice-leaves.result.now ≡ length (map number inside.leaves.items) = ap length c.as_slice-leaves.ensures.value ∙ sym (length-map inside.leaves.items number) in
    rw c.as_slice.ensures.value
    (one_of_blocks (map number inside.leaves.items) (map number inside.nodes.items) c.loop-block.block c.self.invariant.blocks
    (omega (arith, c.loop-block-test.true, c.count-block-end.ensures, ap blocks_of long)))

pub end-to-requires : goal.end-to-requires
end-to-requires g c = omega (arith, c.loop-block-test.true, c.count-block-end.ensures, c.self.invariant.blocks.few, length-map c.self.inside.leaves.items g.N.Node.number, ap length c.as_slice-leaves.ensures.value)

pub overflow_mul-block : goal.overflow_mul-block
overflow_mul-block g c = omega (arith, c.loop-block-test.true, c.count-block-end.ensures, c.self.invariant.blocks.few, length-map c.self.inside.leaves.items g.N.Node.number, ap length c.as_slice-leaves.ensures.value)

pub add_above-requires-clause-order : goal.add_above-requires-clause-order
add_above-requires-clause-order g c = omega (arith, c.loop-block-test.true, c.count-block-end.ensures, c.end-to.ensures)

pub add_above-requires-clause-within : goal.add_above-requires-clause-within
add_above-requires-clause-within g c = omega (arith, c.end-to.ensures)

pub add_above-requires-clause-few : goal.add_above-requires-clause-few
add_above-requires-clause-few g c = omega (arith, c.self.invariant.blocks.few, length-map c.self.inside.leaves.items g.N.Node.number, ap length c.as_slice-leaves.ensures.value)

pub loop-block-smaller : goal.loop-block-smaller
loop-block-smaller g c = omega (arith, c.loop-block-test.true)
