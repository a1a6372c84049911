use Rattle.std.proofs.Common.{FitsSigned, rules, ◌∙◌, sym, ap, subst}
use Rattle.std.specs.Int.{w128}
use Rattle.std.specs.Prelude.{IfOk}
use Rattle.std.proofs.lemmas.Int.{to_z-of_z}
use Rattle.tk_alloc.specs.Resolving.{objects_over, round_border}
use Rattle.tk_journal.specs.Deciding.{full_decides}
use Rattle.tk_coord.specs.Dealing.{IsDealt}
use Rattle.tk_coord.specs.Board.{BoardView}
use Rattle.tk_coord.proofs.DealingLemmas.{as_board, full_dealt}
use Rattle.tk_coord.proofs.dealing.deal_full.Goals as goal

pub returns : goal.returns
returns c =
    let s = c.args.settings.now in
    let reports = c.args.reports.now in
    subst (λ (b : BoardView). IfOk c.within.result (IsDealt b.table (full_decides s b.table b.members reports))) (as_board c.args.board.now c.members.ensures c.table.ensures)
    (subst (λ r. IfOk r (IsDealt c.table.result.now (full_decides s c.table.result.now c.members.result.now reports))) (sym c.within.ensures)
    (full_dealt s c.table.result.now c.members.result.now reports c.full_with_border.result c.full_with_border.ensures.value c.full_with_border.ensures.fits c.full_with_border.ensures.within c.full_with_border.ensures.past))

pub full_with_border-requires-clause-border : goal.full_with_border-requires-clause-border
full_with_border-requires-clause-border c =
    let fits : FitsSigned w128 c.args.border = search rules in
    to_z-of_z w128 c.args.border fits ∙ c.requires.border ∙ sym (ap (λ (b : BoardView). round_border c.args.settings.now b.table b.members (objects_over c.args.reports.now)) (as_board c.args.board.now c.members.ensures c.table.ensures))
