use Rattle.std.proofs.Common.{◌≡◌, ℕ, ◌+◌, ◌∙◌, List, [], length, get_or, set, suc, Some, ap, sym, arith}
use Rattle.std.specs.Prelude.{ℤ, FitsSigned, slice_get}
use Rattle.std.specs.Int.{w128}
use Rattle.std.proofs.lemmas.Int.{ints, to_z-of_z}
use Rattle.std.proofs.lemmas.List.{get_or_default, get_or-set_same, length-set, set-set}
use Rattle.tk_monitor.specs.Board.{shifted}
use Rattle.tk_monitor.specs.Kept.{next_in}
use Rattle.tk_monitor.proofs.KeptLemmas.{change_object}
use Rattle.tk_monitor.proofs.StartLemmas.{stands_size, stands_step, stands_small}
use Rattle.tk_monitor.proofs.start.advance.Goals as goal

pub shift-requires-clause-object : goal.shift-requires-clause-object
shift-requires-clause-object c =
    let i = c.args.i in
    let k = c.loop-k.k in
    let n = length c.args.board.now.levels in
    let parts = c.args.parts.now in
    let next = c.loop-k.next.items in
    let change : ℕ × ℤ = (c.at-change.result.obj.0, c.at-change.result.by) in
    let shape : length next ≡ length parts = ap (λ (ns : List ℕ). length ns) c.loop-k.invariant.next ∙ length-set c.args.next.now.items i k ∙ c.requires.shape in
    let place : get_or next i 0 ≡ k = ap (λ (ns : List ℕ). get_or ns i 0) c.loop-k.invariant.next ∙ get_or-set_same c.args.next.now.items i k 0 (omega (arith, c.requires.part, c.requires.shape)) in
    let part : c.index-parts-i.result ≡ get_or parts i [] = c.index-parts-i.is ∙ get_or_default parts i c.index-parts-i.result [] c.requires.part in
    let got : next_in parts next i ≡ Some change =
    ap (λ (q : ℕ). slice_get (get_or parts i []) q) place ∙ ap (λ (ps : List (ℕ × ℤ)). slice_get ps k) (sym part) ∙ c.at-change.ensures in
    let object = change_object n parts next i change c.requires.parts c.requires.part got in
    record { from_one = object.0; within = omega (arith, object.1, stands_size n parts next c.loop-k.board c.loop-k.invariant.stands) }

pub shift-requires-clause-size : goal.shift-requires-clause-size
shift-requires-clause-size c =
    let i = c.args.i in
    let k = c.loop-k.k in
    let n = length c.args.board.now.levels in
    let parts = c.args.parts.now in
    let next = c.loop-k.next.items in
    let change : ℕ × ℤ = (c.at-change.result.obj.0, c.at-change.result.by) in
    let shape : length next ≡ length parts = ap (λ (ns : List ℕ). length ns) c.loop-k.invariant.next ∙ length-set c.args.next.now.items i k ∙ c.requires.shape in
    let place : get_or next i 0 ≡ k = ap (λ (ns : List ℕ). get_or ns i 0) c.loop-k.invariant.next ∙ get_or-set_same c.args.next.now.items i k 0 (omega (arith, c.requires.part, c.requires.shape)) in
    let part : c.index-parts-i.result ≡ get_or parts i [] = c.index-parts-i.is ∙ get_or_default parts i c.index-parts-i.result [] c.requires.part in
    let got : next_in parts next i ≡ Some change =
    ap (λ (q : ℕ). slice_get (get_or parts i []) q) place ∙ ap (λ (ps : List (ℕ × ℤ)). slice_get ps k) (sym part) ∙ c.at-change.ensures in
    let fits : FitsSigned w128 c.at-change.result.by = omega (arith, ints) in
    rw (to_z-of_z w128 c.at-change.result.by fits) (stands_small n parts next i change c.loop-k.board c.requires.parts shape c.requires.part got c.loop-k.invariant.stands)

pub loop-k-preserved : goal.loop-k-preserved
loop-k-preserved c =
    let i = c.args.i in
    let k = c.loop-k.k in
    let n = length c.args.board.now.levels in
    let parts = c.args.parts.now in
    let next = c.loop-k.next.items in
    let change : ℕ × ℤ = (c.at-change.result.obj.0, c.at-change.result.by) in
    let shape : length next ≡ length parts = ap (λ (ns : List ℕ). length ns) c.loop-k.invariant.next ∙ length-set c.args.next.now.items i k ∙ c.requires.shape in
    let place : get_or next i 0 ≡ k = ap (λ (ns : List ℕ). get_or ns i 0) c.loop-k.invariant.next ∙ get_or-set_same c.args.next.now.items i k 0 (omega (arith, c.requires.part, c.requires.shape)) in
    let part : c.index-parts-i.result ≡ get_or parts i [] = c.index-parts-i.is ∙ get_or_default parts i c.index-parts-i.result [] c.requires.part in
    let got : next_in parts next i ≡ Some change =
    ap (λ (q : ℕ). slice_get (get_or parts i []) q) place ∙ ap (λ (ps : List (ℕ × ℤ)). slice_get ps k) (sym part) ∙ c.at-change.ensures in
    let fits : FitsSigned w128 c.at-change.result.by = omega (arith, ints) in
    let board : c.shift.new.self ≡ shifted c.loop-k.board change =
    c.shift.ensures ∙ ap (λ (z : ℤ). shifted c.loop-k.board (c.at-change.result.obj.0, z)) (to_z-of_z w128 c.at-change.result.by fits) in
    let up : k + 1 ≡ suc (get_or next i 0) = omega (arith, place) in
    record {
      next = ap (λ (ns : List ℕ). set ns i (k + 1)) c.loop-k.invariant.next ∙ set-set c.args.next.now.items i k (k + 1);
      stands = rw (board, up) (stands_step n parts next i change c.loop-k.board c.requires.parts shape c.requires.part got c.loop-k.invariant.stands);
    }
