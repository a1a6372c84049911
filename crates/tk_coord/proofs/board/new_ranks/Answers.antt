use Rattle.std.proofs.Common.{◌∙◌, sym, subst}
use Rattle.tk_border.specs.Levels.{AreSmall}
use Rattle.tk_coord.proofs.BoardLemmas.{own_small}
use Rattle.tk_coord.proofs.board.new_ranks.Goals as goal

pub new-requires-clause-sizes : goal.new-requires-clause-sizes
new-requires-clause-sizes c = subst AreSmall (sym (c.as_slice.ensures.value ∙ c.in_ok-levels.ensures)) (own_small c.args.table.now c.promise.ensures)
