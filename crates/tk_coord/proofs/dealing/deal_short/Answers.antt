use Rattle.std.proofs.Common.{FitsSigned, rules, ◌∙◌, sym, ap, subst}
use Rattle.std.specs.Int.{w128}
use Rattle.std.specs.Prelude.{IfOk}
use Rattle.std.proofs.lemmas.Int.{to_z-of_z}
use Rattle.tk_base.specs.Pairs.{objects_of}
use Rattle.tk_alloc.specs.Resolving.{PassesShortTest, round_border}
use Rattle.tk_journal.specs.Deciding.{short_decides}
use Rattle.tk_coord.specs.Dealing.{IsDealt}
use Rattle.tk_journal.proofs.Ending.{passed}
use Rattle.tk_coord.specs.Board.{BoardView}
use Rattle.tk_coord.proofs.DealingLemmas.{as_board, short_dealt}
use Rattle.tk_coord.proofs.dealing.deal_short.Goals as goal

pub short_with_border-requires-clause-test : goal.short_with_border-requires-clause-test
short_with_border-requires-clause-test c =
    let s = c.args.settings.now in
    let board = c.args.board.now in
    subst (λ (b : BoardView). PassesShortTest s b.table b.members c.args.report.now) (sym (as_board c.args.board.now c.members.ensures c.table.ensures)) (passed s board.table board.members c.args.report.now c.requires.test)

pub returns : goal.returns
returns c =
    let s = c.args.settings.now in
    let report = c.args.report.now in
    subst (λ (b : BoardView). IfOk c.within.result (IsDealt b.table (short_decides s b.table b.members report))) (as_board c.args.board.now c.members.ensures c.table.ensures)
    (subst (λ r. IfOk r (IsDealt c.table.result.now (short_decides s c.table.result.now c.members.result.now report))) (sym c.within.ensures)
    (short_dealt s c.table.result.now c.members.result.now report c.short_with_border.result c.short_with_border.ensures.value c.short_with_border.ensures.fits c.short_with_border.ensures.within c.short_with_border.ensures.past))

pub short_with_border-requires-clause-border : goal.short_with_border-requires-clause-border
short_with_border-requires-clause-border c =
    let fits : FitsSigned w128 c.args.border = search rules in
    to_z-of_z w128 c.args.border fits ∙ c.requires.border ∙ sym (ap (λ (b : BoardView). round_border c.args.settings.now b.table b.members (objects_of c.args.report.now.values)) (as_board c.args.board.now c.members.ensures c.table.ensures))
