use Rattle.std.proofs.Common.{◌<◌, ◌∙◌, ℕ, sym, ap, ap₂, arith, subst, length, map, get_or}
use Rattle.std.specs.Prelude.{IsSome, FitsSigned}
use Rattle.std.specs.Int.{w128}
use Rattle.std.proofs.lemmas.Int.{to_z-of_z, ints}
use Rattle.std.proofs.lemmas.List.{take_all, length-map}
use Rattle.tk_border.specs.Levels.{level_at, least_of, lowered}
use Rattle.tk_border.proofs.LevelLemmas.{least_none, least_more, least_some}
use Rattle.tk_rows.specs.Factors.{factor_at}
use Rattle.tk_alloc.specs.Resolving.{own_factors}
use Rattle.tk_alloc.proofs.BorderLemmas.{own_level}
use Rattle.tk_alloc.proofs.own_border.least_member.Goals as goal

pub loop-place-init : goal.loop-place-init
loop-place-init c = sym least_none

pub loop-place-preserved : goal.loop-place-preserved
loop-place-preserved c =
    let own = own_factors c.args.table.now in
    let fits : FitsSigned w128 c.own.result = omega (arith, ints) in
    c.lower-least.ensures
    ∙ ap₂ lowered c.loop-place.invariant
    (to_z-of_z w128 c.own.result fits ∙ c.own.ensures.value ∙ ap (λ (o : ℕ). factor_at c.args.table.now 0 o) c.at.ensures.value ∙ sym (own_level c.args.table.now (get_or c.args.members.now c.loop-place.place 0)))
    ∙ sym (least_more own c.args.members.now c.loop-place.place (omega arith))

pub unwrap-requires : goal.unwrap-requires
unwrap-requires c =
    let own = own_factors c.args.table.now in
    let members = c.args.members.now in
    let some : 0 < length (map (level_at own) members) = omega (arith, length-map members (level_at own), c.requires.some) in
    subst IsSome (sym (c.loop-place.invariant ∙ ap (λ list. least_of (map (level_at own) list)) (take_all c.loop-place.place members (omega arith)))) (least_some (map (level_at own) members) some)
