use Rattle.std.proofs.Common.{ap, ◌∙◌}
use Rattle.tk_journal.specs.Deciding.{passes_short_test}
use Rattle.tk_coord.specs.Board.{BoardView}
use Rattle.tk_coord.proofs.DealingLemmas.{as_board, test_is}
use Rattle.tk_coord.proofs.dealing.passes.Goals as goal

pub returns : goal.returns
returns c =
    test_is c.args.settings.now c.table.result.now c.members.result.now c.args.report.now c.short_test.result c.short_test.ensures
    ∙ ap (λ (b : BoardView). passes_short_test c.args.settings.now b.table b.members c.args.report.now) (as_board c.args.board.now c.members.ensures c.table.ensures)
