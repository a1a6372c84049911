use Rattle.std.proofs.Common.{◌≡◌, ◌∙◌, ◌+◌, ◌-◌, ◌*◌, ◌<◌, ◌≤◌, min, not, ℕ, sym, ap, ap₂, subst, arith, length, map, get_or, None}
use Rattle.std.specs.List.{range_with_len}
use Rattle.std.proofs.lemmas.List.{length-map}
use Rattle.tk_base.specs.Objects.{is_in}
use Rattle.tk_border.specs.Levels.{greatest_of, IsPassed}
use Rattle.tk_border.proofs.PassedLemmas.{passed_none}
use Rattle.tk_rank.specs.Blocks.{blocks_of}
use Rattle.tk_rank.specs.Tree.{LeavesView, greater, leaves_of, others_in, standing}
use Rattle.tk_rank.proofs.BlockLemmas.{all_blocks, block_end, nothing_yet, one_of_blocks, outside_more, passed_before}
use Rattle.tk_rank.proofs.blocks.Blocks.greatest_outside.Given.{Over}
use Rattle.tk_rank.proofs.blocks.Blocks.greatest_outside.Goals as goal
use Rattle.tk_rank.proofs.blocks.Blocks.greatest_outside.Goals.{After-leaf-top}

pub loop-block-init : goal.loop-block-init
loop-block-init g c =
    let leaves = c.args.self.now.leaves in
    let set = c.args.set.now in
    record {
      most = c.none-most.ensures ∙ nothing_yet (λ o. not (is_in set o)) leaves (min (length leaves) 0) (omega arith);
      passed = subst (λ e. IsPassed set 0 e) {x = 1} {y = min (length leaves) 0 + 1} (omega arith) (passed_none set c.len.ensures.ascends);
    }

pub loop-block-preserved : goal.loop-block-preserved
loop-block-preserved g c =
    let number = g.N.Node.number in
    let inside = c.self.inside in
    let set = c.args.set.now in
    let leaves = c.args.self.now.leaves in
    let view : map number inside.leaves.items ≡ leaves = ap (λ (t : LeavesView). t.leaves) c.self.view_is in
    let slice : map number c.as_slice-leaves.result.now ≡ leaves = ap (map number) c.as_slice-leaves.ensures.value ∙ view in
    let long : length c.as_slice-leaves.result.now ≡ length leaves = sym (length-map c.as_slice-leaves.result.now number) ∙ ap length slice in
    let block = c.loop-block.block in
    let before : 64 * block < length leaves = omega (arith, c.loop-block-test.true, c.count-block-end.ensures, ap blocks_of long) in
    let to = c.end-to.result in
    let end : to ≡ min (length leaves) (64 * (block + 1)) = c.end-to.ensures ∙ ap (λ n. min n (64 * (block + 1))) long in
    let order : 64 * block ≤ to = omega (arith, before, end) in
    let test = λ (o : ℕ). not (is_in set o) in
    let was = c.loop-block.invariant in
    let more = outside_more test leaves block to order end in
    record {
      most =
          c.greater-most.ensures
          ∙ ap₂ greater was.most (c.greatest_outside-number.ensures.number ∙ ap (λ list. greatest_of (standing list (others_in set (range_with_len (64 * block + 1) (to - 64 * block))))) slice)
          ∙ more;
      passed = subst (λ n. IsPassed set c.greatest_outside-number.result.1 (n + 1)) end c.greatest_outside-number.ensures.passed;
    }

pub returns : goal.returns
returns g c =
    let leaves = c.args.self.now.leaves in
    let test = λ (o : ℕ). not (is_in c.args.set.now o) in
    c.get.ensures
    ∙ c.loop-block.invariant.most
    ∙ ap (λ list. greatest_of (standing leaves (others_in c.args.set.now list)))
    (all_blocks (length leaves) c.loop-block.block (omega (arith, c.loop-block-test.false, c.count-block-end.ensures, ap blocks_of (ap length c.as_slice-leaves.ensures.value ∙ sym (length-map c.self.inside.leaves.items g.N.Node.number) ∙ ap (λ (t : LeavesView). length t.leaves) c.self.view_is))))

pub count-block-end-requires : goal.count-block-end-requires
count-block-end-requires g c = omega (arith, c.self.invariant.blocks.few, length-map c.self.inside.leaves.items g.N.Node.number, ap length c.as_slice-leaves.ensures.value)

pub overflow_mul-from : goal.overflow_mul-from
overflow_mul-from g c = omega (arith, c.loop-block-test.true, c.count-block-end.ensures, c.self.invariant.blocks.few, length-map c.self.inside.leaves.items g.N.Node.number, ap length c.as_slice-leaves.ensures.value)

pub end-to-requires : goal.end-to-requires
end-to-requires g c = omega (arith, c.loop-block-test.true, c.count-block-end.ensures, c.self.invariant.blocks.few, length-map c.self.inside.leaves.items g.N.Node.number, ap length c.as_slice-leaves.ensures.value)

-- the walk has passed all objects before this block
passed : (g : Over) (c : After-leaf-top g) → IsPassed c.args.set.now c.loop-block.place (64 * c.loop-block.block + 1)
passed g c =
    let leaves = c.args.self.now.leaves in
    let number = g.N.Node.number in
    let items = c.self.inside.leaves.items in
    let long : length c.as_slice-leaves.result.now ≡ length leaves = ap length c.as_slice-leaves.ensures.value ∙ sym (length-map items number) ∙ ap (λ (t : LeavesView). length t.leaves) c.self.view_is in
    passed_before c.args.set.now c.loop-block.place (length leaves) c.loop-block.block (omega (arith, c.loop-block-test.true, c.count-block-end.ensures, ap blocks_of long)) c.loop-block.invariant.passed

pub greatest_outside-number-requires-clause-order : goal.greatest_outside-number-requires-clause-order
greatest_outside-number-requires-clause-order g c = omega (arith, c.loop-block-test.true, c.count-block-end.ensures, c.end-to.ensures)

pub greatest_outside-number-requires-clause-within : goal.greatest_outside-number-requires-clause-within
greatest_outside-number-requires-clause-within g c = omega (arith, c.end-to.ensures)

pub greatest_outside-number-requires-clause-few : goal.greatest_outside-number-requires-clause-few
greatest_outside-number-requires-clause-few g c = omega (arith, c.self.invariant.blocks.few, length-map c.self.inside.leaves.items g.N.Node.number, ap length c.as_slice-leaves.ensures.value)

pub greatest_outside-number-requires-clause-passed : goal.greatest_outside-number-requires-clause-passed
greatest_outside-number-requires-clause-passed g c = passed g c

pub leaf-top-requires-clause-tree : goal.leaf-top-requires-clause-tree
leaf-top-requires-clause-tree g c = rw c.as_slice.ensures.value c.self.invariant.blocks.tree

pub leaf-top-requires-clause-within : goal.leaf-top-requires-clause-within
leaf-top-requires-clause-within g c =
    let number = g.N.Node.number in
    let inside = c.self.inside in
    let long : length c.as_slice-leaves.result.now ≡ length (map number inside.leaves.items) = ap length c.as_slice-leaves.ensures.value ∙ sym (length-map inside.leaves.items number) in
    rw c.as_slice.ensures.value
    (one_of_blocks (map number inside.leaves.items) (map number inside.nodes.items) c.loop-block.block c.self.invariant.blocks
    (omega (arith, c.loop-block-test.true, c.count-block-end.ensures, ap blocks_of long)))

pub loop-block-smaller : goal.loop-block-smaller
loop-block-smaller g c = omega (arith, c.loop-block-test.true)

-- the tree has the greatest of the block
pub greatest_outside-number-requires-clause-top : goal.greatest_outside-number-requires-clause-top
greatest_outside-number-requires-clause-top g c =
    let number = g.N.Node.number in
    let items = c.self.inside.leaves.items in
    let block = c.loop-block.block in
    let to = c.end-to.result in
    let slice : length c.as_slice-leaves.result.now ≡ length (map number items) = ap length c.as_slice-leaves.ensures.value ∙ sym (length-map items number) in
    let end : to ≡ min (length (map number items)) (64 * (block + 1)) = c.end-to.ensures ∙ ap (λ n. min n (64 * (block + 1))) slice in
    let order : 64 * block ≤ to = omega (arith, c.loop-block-test.true, c.count-block-end.ensures, ap blocks_of slice, end) in
    c.leaf-top.ensures
    ∙ ap (λ list. get_or (leaves_of (map number list)) block None) c.as_slice.ensures.value
    ∙ c.self.invariant.blocks.each block
    ∙ sym (block_end (map number items) block to order end)
    ∙ ap (λ list. greatest_of (standing (map number list) (range_with_len (64 * block + 1) (to - 64 * block)))) (sym c.as_slice-leaves.ensures.value)
