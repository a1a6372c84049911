use Rattle.std.proofs.Common.{FitsSigned, ◌-◌, ◌≤◌, ℕ, ℤ, List, length, set, take, refl, ap, ◌∙◌, arith}
use Rattle.std.specs.Int.{w128}
use Rattle.std.proofs.lemmas.Int.{ints, to_z-of_z}
use Rattle.std.proofs.lemmas.List.{take_all}
use Rattle.tk_rank.specs.Rank.{RankView}
use Rattle.tk_rows.specs.Factors.{IsFactor}
use Rattle.tk_coord.specs.Board.{relevelled}
use Rattle.tk_coord.proofs.BoardLemmas.{length-relevelled, relevelled_more, small_at}
use Rattle.tk_coord.proofs.ValuesLemmas.{object_within}
use Rattle.tk_coord.proofs.board.relevel.Goals as goal

pub loop-place-init : goal.loop-place-init
loop-place-init c = refl

pub set-requires-clause-from_one : goal.set-requires-clause-from_one
set-requires-clause-from_one c =
    let ranks = c.args.ranks.now in
    (object_within (length ranks.levels) c.args.own.now c.loop-place.place (c.at-factor.result.0.0, c.at-factor.result.1) c.at-factor.ensures.ascends c.requires.objects c.at-factor.ensures.value).0

pub set-requires-clause-within : goal.set-requires-clause-within
set-requires-clause-within c =
    let ranks = c.args.ranks.now in
    let p : ℕ × ℤ = (c.at-factor.result.0.0, c.at-factor.result.1) in
    let most = (object_within (length ranks.levels) c.args.own.now c.loop-place.place p c.at-factor.ensures.ascends c.requires.objects c.at-factor.ensures.value).1 in
    let same = ap (λ (r : RankView). length r.levels) c.loop-place.invariant in
    let size = length-relevelled (take c.loop-place.place c.args.own.now) ranks.levels in
    omega (arith, most, same, size)

pub set-requires-clause-size : goal.set-requires-clause-size
set-requires-clause-size c =
    let small : IsFactor c.at-factor.result.1 = small_at c.args.own.now c.loop-place.place (c.at-factor.result.0.0, c.at-factor.result.1) c.requires.small c.at-factor.ensures.value in
    let fits : FitsSigned w128 c.at-factor.result.1 = omega (arith, ints, small) in
    rw (to_z-of_z w128 c.at-factor.result.1 fits) (omega (arith, ints, small))

pub loop-place-preserved : goal.loop-place-preserved
loop-place-preserved c =
    let ranks = c.args.ranks.now in
    let own = c.args.own.now in
    let place = c.loop-place.place in
    let p : ℕ × ℤ = (c.at-factor.result.0.0, c.at-factor.result.1) in
    let small : IsFactor p.1 = small_at own place p c.requires.small c.at-factor.ensures.value in
    let fits : FitsSigned w128 p.1 = omega (arith, ints, small) in
    c.set.ensures
    ∙ ap (λ (z : ℤ). record c.loop-place.ranks { levels = set c.loop-place.ranks.levels (p.0 - 1) z }) (to_z-of_z w128 p.1 fits)
    ∙ ap (λ (r : RankView). record r { levels = set r.levels (p.0 - 1) p.1 }) c.loop-place.invariant
    ∙ ap (λ (ls : List ℤ). record ranks { levels = ls }) (relevelled_more ranks.levels (relevelled ranks.levels (take place own)) own place p c.at-factor.ensures.value refl)

pub returns-clause-value : goal.returns-clause-value
returns-clause-value c =
    let own = c.args.own.now in
    let all : length own ≤ c.loop-place.place = (let len = c.len-place-end.ensures.value in let over = c.loop-place-test.false in omega (arith, len, over)) in
    c.loop-place.invariant ∙ ap (λ (ps : List (ℕ × ℤ)). record c.args.ranks.now { levels = relevelled c.args.ranks.now.levels ps }) (take_all c.loop-place.place own all)
