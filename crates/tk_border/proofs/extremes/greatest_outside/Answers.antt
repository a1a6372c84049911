use Rattle.std.proofs.Common.{◌∙◌, sym, ap, ap₂, arith, map}
use Rattle.std.specs.Prelude.{FitsSigned}
use Rattle.std.specs.Int.{w128}
use Rattle.std.proofs.lemmas.Int.{to_z-of_z, ints}
use Rattle.tk_border.specs.Levels.{level_at, greatest_of, raised}
use Rattle.tk_border.proofs.LevelLemmas.{greatest_none, greatest_more, outside_met, outside_none}
use Rattle.tk_border.proofs.extremes.greatest_outside.Goals as goal
use Rattle.tk_border.proofs.extremes.greatest_outside.Goals.{then-is_met, else-is_met}

pub loop-i-init : goal.loop-i-init
loop-i-init c = record { passed = c.start-place.ensures; greatest = sym (ap (λ list. greatest_of (map (level_at c.args.levels.now) list)) (outside_none c.args.set.now) ∙ greatest_none) }

pub loop-i-preserved : goal.loop-i-preserved
loop-i-preserved c =
    let set = c.args.set.now in
    let levels = c.args.levels.now in
    let i = c.loop-i.i in
    elim c.if-is_met.branch [
      | then-is_met w ↦ record {
        passed = rw w.place-is (c.is_met.ensures.met w.if-is_met.true);
        greatest = w.greatest-is ∙ c.loop-i.invariant.greatest ∙ ap (λ list. greatest_of (map (level_at levels) list)) (sym (outside_met i set (sym c.is_met.ensures.value ∙ w.if-is_met.true)));
      }
      | else-is_met w ↦ record {
        passed = rw w.place-is (c.is_met.ensures.missed w.if-is_met.false);
        greatest =
            w.greatest-is
            ∙ w.raise-greatest.ensures
            ∙ ap₂ raised c.loop-i.invariant.greatest (let fits : FitsSigned w128 w.level.result = omega (arith, ints) in to_z-of_z w128 w.level.result fits ∙ w.level.ensures)
            ∙ sym (greatest_more levels i set (sym c.is_met.ensures.value ∙ w.if-is_met.false));
      }
    ]
