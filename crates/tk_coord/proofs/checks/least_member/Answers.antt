use Rattle.std.proofs.Common.{◌∙◌, ℕ, sym, ap, ap₂, arith}
use Rattle.std.specs.Prelude.{FitsSigned}
use Rattle.std.specs.Int.{w128}
use Rattle.std.proofs.lemmas.Int.{to_z-of_z, ints}
use Rattle.tk_border.specs.Levels.{lowered}
use Rattle.tk_border.proofs.LevelLemmas.{least_none}
use Rattle.tk_journal.specs.Refusal.{level_in}
use Rattle.tk_coord.specs.Checks.{known_in}
use Rattle.tk_coord.proofs.ContentLemmas.{least_next}
use Rattle.tk_coord.proofs.checks.least_member.Goals as goal

pub loop-i-init : goal.loop-i-init
loop-i-init c = sym least_none

pub loop-i-preserved : goal.loop-i-preserved
loop-i-preserved c =
    let level : ℕ → _ = level_in (known_in c.args.known) c.args.values.now in
    let fits : FitsSigned w128 c.level.result = omega (arith, ints) in
    c.lower-least.ensures
    ∙ ap₂ lowered c.loop-i.invariant (to_z-of_z w128 c.level.result fits ∙ c.level.ensures ∙ ap level c.at.ensures.value)
    ∙ sym (least_next level (known_in c.args.known).members c.loop-i.i (omega arith))
