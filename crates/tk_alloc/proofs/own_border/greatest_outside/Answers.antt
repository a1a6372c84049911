use Rattle.std.proofs.Common.{◌+◌, ◌∙◌, sym, ap, ap₂, arith, map}
use Rattle.std.specs.Prelude.{FitsSigned}
use Rattle.std.specs.Int.{w128}
use Rattle.std.proofs.lemmas.Int.{to_z-of_z, ints}
use Rattle.tk_base.specs.Pairs.{objects_of}
use Rattle.tk_border.specs.Levels.{level_at, greatest_of, raised}
use Rattle.tk_border.proofs.LevelLemmas.{greatest_none, greatest_more, outside_met, outside_none}
use Rattle.tk_alloc.specs.Resolving.{own_factors}
use Rattle.tk_alloc.proofs.BorderLemmas.{own_level}
use Rattle.tk_alloc.proofs.own_border.greatest_outside.Goals as goal
use Rattle.tk_alloc.proofs.own_border.greatest_outside.Goals.{then-not-is_named, else-not-is_named}

pub loop-place-init : goal.loop-place-init
loop-place-init c = sym (ap (λ list. greatest_of (map (level_at (own_factors c.args.table.now)) list)) (outside_none (objects_of c.args.values.now)) ∙ greatest_none)

pub loop-place-preserved : goal.loop-place-preserved
loop-place-preserved c =
    let own = own_factors c.args.table.now in
    let set = objects_of c.args.values.now in
    let i = c.loop-place.place in
    elim c.if-not-is_named.branch [
      | then-not-is_named w ↦
          let fits : FitsSigned w128 w.own.result = omega (arith, ints) in
          w.greatest-is
          ∙ w.raise-greatest.ensures
          ∙ ap₂ raised c.loop-place.invariant (to_z-of_z w128 w.own.result fits ∙ w.own.ensures.value ∙ sym (own_level c.args.table.now (i + 1)))
          ∙ sym (greatest_more own i set (sym c.is_named.ensures ∙ w.if-not-is_named.true))
      | else-not-is_named w ↦
          w.greatest-is ∙ c.loop-place.invariant ∙ ap (λ list. greatest_of (map (level_at own) list)) (sym (outside_met i set (sym c.is_named.ensures ∙ w.if-not-is_named.false)))
    ]
