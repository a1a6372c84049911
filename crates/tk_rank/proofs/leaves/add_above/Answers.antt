use Rattle.std.proofs.Common.{◌≡◌, ◌∙◌, ◌+◌, ◌-◌, ◌++◌, ◌∷◌, [], ℕ, sym, ap, arith, map, to_z, of_z, get_or, None}
use Rattle.std.specs.Int.{w128}
use Rattle.std.specs.List.{range_with_len}
use Rattle.std.proofs.lemmas.Int.{to_z-of_z}
use Rattle.std.proofs.lemmas.List.{append_assoc, map_push}
use Rattle.tk_base.specs.Ascending.{numbers_of}
use Rattle.tk_base.specs.declared.ids.Obj.{Obj}
use Rattle.tk_rank.specs.Tree.{is_over, leaf_at, those_over}
use Rattle.tk_rank.proofs.BlockLemmas.{kept_in, kept_out}
use Rattle.tk_rank.proofs.NodeLemmas.{read_node}
use Rattle.tk_rank.proofs.leaves.add_above.Given.{Over}
use Rattle.tk_rank.proofs.leaves.add_above.Goals as goal
use Rattle.tk_rank.proofs.leaves.add_above.Goals.{then-is_over+in_ok-push, else-is_over}

-- whether the leaf is above the level
tested : (g : Over) (c : goal.Joined-is_over g) → is_over (to_z w128 (of_z w128 c.args.level)) (leaf_at (map g.N.Node.number c.args.leaves.now) (c.loop-place.place + 1)) ≡ c.is_over.result
tested g c =
    let number = g.N.Node.number in
    let leaves = c.args.leaves.now in
    let i = c.loop-place.place in
    sym (c.is_over.ensures
    ∙ ap (is_over (to_z w128 (of_z w128 c.args.level)))
    (read_node number leaves i c.index-leaves-place.result (omega (arith, c.loop-place-test.true, c.requires.within)) c.index-leaves-place.is
    ∙ ap (λ k. get_or (map number leaves) k None) {x = i} {y = i + 1 - 1} (omega arith)))

pub loop-place-preserved : goal.loop-place-preserved
loop-place-preserved g c =
    let from = c.args.from in
    let i = c.loop-place.place in
    let leaves = map g.N.Node.number c.args.leaves.now in
    let test = λ (o : ℕ). is_over (to_z w128 (of_z w128 c.args.level)) (leaf_at leaves o) in
    let was = c.loop-place.invariant in
    let before = numbers_of c.args.found.now.items in
    elim c.if-is_over.branch [
      | then-is_over+in_ok-push w ↦ record {
        order = omega (arith, was.order);
        found =
            ap (λ v. numbers_of v.items) w.found-is
            ∙ ap numbers_of w.in_ok-push.ensures.items
            ∙ map_push (λ (o : Obj). o.0) c.loop-place.found.items (record { 0 = i + 1 })
            ∙ ap (λ list. list ++ (i + 1) ∷ []) was.found
            ∙ append_assoc before (those_over (to_z w128 (of_z w128 c.args.level)) leaves (range_with_len (from + 1) (i - from))) ((i + 1) ∷ [])
            ∙ ap (λ list. before ++ list) (sym (kept_in test from i was.order (tested g c ∙ w.if-is_over.true)));
      }
      | else-is_over w ↦ record {
        order = omega (arith, was.order);
        found =
            ap (λ v. numbers_of v.items) w.found-is
            ∙ was.found
            ∙ ap (λ list. before ++ list) (sym (kept_out test from i was.order (tested g c ∙ w.if-is_over.false)));
      }
    ]

pub returns : goal.returns
returns g c =
    let from = c.args.from in
    let leaves = map g.N.Node.number c.args.leaves.now in
    let before = numbers_of c.args.found.now.items in
    c.loop-place.invariant.found
    ∙ ap (λ l. before ++ those_over l leaves (range_with_len (from + 1) (c.loop-place.place - from))) (to_z-of_z w128 c.args.level c.ranges.level)
    ∙ ap (λ n. before ++ those_over c.args.level leaves (range_with_len (from + 1) n)) {x = c.loop-place.place - from} {y = c.args.to - from}
    (omega (arith, c.loop-place-test.false, c.loop-place.auto.place-end c.requires.order))
