use Rattle.std.proofs.Common.{◌<◌, ◌∙◌, sym, ap, ap₂, arith, subst, length, map}
use Rattle.std.specs.Prelude.{IsSome, FitsSigned}
use Rattle.std.specs.Int.{w128}
use Rattle.std.proofs.lemmas.Int.{to_z-of_z, ints}
use Rattle.std.proofs.lemmas.List.{take_all, length-map}
use Rattle.tk_border.specs.Levels.{level_at, least_of, lowered}
use Rattle.tk_border.proofs.LevelLemmas.{least_none, least_more, least_some}
use Rattle.tk_border.proofs.extremes.least_member.Goals as goal

pub loop-i-init : goal.loop-i-init
loop-i-init c = sym least_none

pub loop-i-preserved : goal.loop-i-preserved
loop-i-preserved c =
    let levels = c.args.levels.now in
    let fits : FitsSigned w128 c.level.result = omega (arith, ints) in
    c.lower-least.ensures
    ∙ ap₂ lowered c.loop-i.invariant (to_z-of_z w128 c.level.result fits ∙ c.level.ensures ∙ ap (level_at levels) c.at.ensures.value)
    ∙ sym (least_more levels c.args.members.now c.loop-i.i (omega arith))

pub unwrap-requires : goal.unwrap-requires
unwrap-requires c =
    let levels = c.args.levels.now in
    let members = c.args.members.now in
    let some : 0 < length (map (level_at levels) members) = omega (arith, length-map members (level_at levels), c.requires.some_member) in
    subst IsSome (sym (c.loop-i.invariant ∙ ap (λ list. least_of (map (level_at levels) list)) (take_all c.loop-i.i members (omega arith)))) (least_some (map (level_at levels) members) some)
