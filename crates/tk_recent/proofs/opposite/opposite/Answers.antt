use Rattle.std.proofs.Common.{◌≡◌, ℕ, ℤ, to_z, of_z, suc, ◌+◌, ◌<◌, ◌^◌, ◌∙◌, ◌++◌, ◌∷◌, [], List, cond, get_or, map, take, length, sym, ap, arith}
use Rattle.std.specs.Prelude.{FitsSigned, neg_ℤ, pos, unsigned_abs, filter}
use Rattle.std.specs.Int.{w128}
use Rattle.std.specs.List.{enumerate_from}
use Rattle.std.proofs.lemmas.Int.{ints, to_z-of_z}
use Rattle.std.proofs.lemmas.List.{get_or-map, length-map, take_all}
use Rattle.std.proofs.lemmas.List.Elements.{All-get_or}
use Rattle.tk_compact.specs.Compacted.{changes_something, compacted}
use Rattle.tk_compact.proofs.CompactedLemmas.{taken_more}
use Rattle.tk_recent.specs.Fields.{undone}
use Rattle.tk_recent.specs.Kept.{opposite}
use Rattle.tk_recent.proofs.opposite.opposite.Goals as goal

pub loop-i-preserved : goal.loop-i-preserved
loop-i-preserved c =
    let sums = c.args.sums.now in
    let values = map neg_ℤ sums in
    let i = c.loop-i.i in
    let front : List (ℕ × ℤ) = filter changes_something (enumerate_from 1 (take i values)) in
    let inside : i < length sums = c.loop-i-test.true in
    let value : get_or values i (pos 0) ≡ neg_ℤ (get_or sums i (pos 0)) = get_or-map neg_ℤ sums i (pos 0) (pos 0) inside in
    let more : filter changes_something (enumerate_from 1 (take (suc i) values)) ≡ front ++ cond (changes_something (1 + i, get_or values i (pos 0))) ((1 + i, get_or values i (pos 0)) ∷ []) [] =
    taken_more 1 values i (pos 0) (omega (arith, inside, length-map sums neg_ℤ)) in
    let x : ℤ = get_or sums i (pos 0) in
    let small = All-get_or (λ (v : ℤ). unsigned_abs v < 2 ^ 127) sums i (pos 0) inside c.requires.sizes in
    let fits : FitsSigned w128 x = omega (arith, ints, small) in
    let same : i + 1 ≡ 1 + i = omega arith in
    let next : i + 1 ≡ suc i = omega arith in
    c.in_ok-undo.ensures
    ∙ ap (λ (cs : List (ℕ × ℤ)). cs ++ undone (i + 1) (to_z w128 (of_z w128 x))) c.loop-i.invariant
    ∙ ap (λ (v : ℤ). front ++ undone (i + 1) v) (to_z-of_z w128 x fits)
    ∙ ap (λ (v : ℤ). front ++ cond (changes_something (i + 1, v)) ((i + 1, v) ∷ []) []) (sym value)
    ∙ ap (λ (n : ℕ). front ++ cond (changes_something (n, get_or values i (pos 0))) ((n, get_or values i (pos 0)) ∷ []) []) same
    ∙ sym more
    ∙ ap (λ (n : ℕ). filter changes_something (enumerate_from 1 (take n values))) (sym next)

pub returns : goal.returns
unfolding opposite compacted
returns c =
    let values = map neg_ℤ c.args.sums.now in
    let high = c.loop-i-test.false in
    c.shrink_to_fit.ensures
    ∙ c.loop-i.invariant
    ∙ ap (λ (vs : List ℤ). filter changes_something (enumerate_from 1 vs)) (take_all c.loop-i.i values (omega (arith, high, length-map c.args.sums.now neg_ℤ)))
