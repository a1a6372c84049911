use Rattle.std.proofs.Common.{◌≡◌, ◌-◌, ◌∙◌, List, length, arith, ap, subst, sym}
use Rattle.std.specs.Prelude.{ℤ, ◌+ℤ◌, FitsSigned, slice_set}
use Rattle.std.specs.Int.{w128}
use Rattle.std.proofs.lemmas.Int.{ints, to_z-of_z}
use Rattle.tk_rank.specs.Rank.{RankView}
use Rattle.tk_border.specs.Levels.{level_at}
use Rattle.tk_monitor.specs.Board.{BoardView, IsBoard, board_of, shifted, values_under}
use Rattle.tk_monitor.proofs.ValuesLemmas.{board_shifted, view_shifted}
use Rattle.tk_monitor.proofs.board.Board.shift.Goals as goal

levels-are : (c : goal.After-shift) → c.shift.new.self.levels ≡ slice_set c.self.inside.rank.levels (c.args.o.0 - 1) (level_at c.self.inside.rank.levels c.args.o.0 +ℤ c.args.by)
levels-are c =
    let inside = c.self.inside in
    let o = c.args.o.0 in
    let fits : FitsSigned w128 c.args.by = omega (arith, ints, c.ranges.by.sfits) in
    ap (λ (r : RankView). r.levels) c.shift.ensures
    ∙ ap (λ (z : ℤ). slice_set inside.rank.levels (o - 1) (level_at inside.rank.levels o +ℤ z)) (to_z-of_z w128 c.args.by fits)

pub invariant_of-self : goal.invariant_of-self
invariant_of-self c =
    let inside = c.self.inside in
    let o = c.args.o.0 in
    let size : length inside.rank.levels ≡ length c.args.self.now.levels = ap (λ (s : BoardView). length s.levels) c.self.view_is in
    let value : level_at (values_under inside.rank.levels inside.factors) o ≡ level_at c.args.self.now.values o = ap (λ (s : BoardView). level_at s.values o) c.self.view_is in (
      subst (λ (levels : List ℤ). IsBoard (board_of levels inside.factors inside.members)) (sym (levels-are c))
          (board_shifted inside.rank.levels inside.factors inside.members o c.args.by c.self.invariant.0 c.requires.object.from_one (omega (arith, size, c.requires.object.within))
          (omega (arith, ints, value, c.requires.size))),
      λ some. ap (λ (r : RankView). r.members) c.shift.ensures ∙ c.self.invariant.1 some,
    )

pub returns : goal.returns
returns c =
    let inside = c.self.inside in
    let o = c.args.o.0 in
    let size : length inside.rank.levels ≡ length c.args.self.now.levels = ap (λ (s : BoardView). length s.levels) c.self.view_is in
    ap (λ (levels : List ℤ). board_of levels inside.factors inside.members) (levels-are c)
    ∙ view_shifted inside.rank.levels inside.factors inside.members o c.args.by c.requires.object.from_one (omega (arith, size, c.requires.object.within))
    ∙ ap (λ (s : BoardView). shifted s (o, c.args.by)) c.self.view_is
