use Rattle.std.proofs.Common.{◌≡◌, ◌∙◌, length, ap, sym, arith, to_z, of_z}
use Rattle.std.specs.Prelude.{◌-ℤ◌}
use Rattle.std.specs.Int.{w128}
use Rattle.std.proofs.lemmas.Int.{ints}
use Rattle.tk_border.specs.Levels.{level_at}
use Rattle.tk_monitor.specs.Board.{BoardView}
use Rattle.tk_monitor.specs.Factors.{factor_in}
use Rattle.tk_monitor.proofs.ValuesLemmas.{value_under}
use Rattle.tk_monitor.proofs.board.Board.value.Goals as goal

pub returns : goal.returns
returns c =
    let inside = c.self.inside in
    let o = c.args.o.0 in
    let size : length inside.rank.levels ≡ length c.args.self.now.levels = ap (λ (s : BoardView). length s.levels) c.self.view_is in
    let is : to_z w128 (of_z w128 (to_z w128 (of_z w128 c.level.result) -ℤ to_z w128 (of_z w128 c.of.result))) ≡ level_at inside.rank.levels o -ℤ factor_in inside.factors o =
    omega (arith, ints, c.level.ensures.value, c.level.ensures.size, c.of.ensures.value, c.of.ensures.size) in
    is ∙ sym (value_under inside.rank.levels inside.factors o c.requires.from_one (omega (arith, size, c.requires.within)))
    ∙ ap (λ (s : BoardView). level_at s.values o) c.self.view_is
