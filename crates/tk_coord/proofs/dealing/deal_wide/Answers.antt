use Rattle.std.specs.Prelude.{Result, Ok, Err, IfOk}
use Rattle.tk_base.specs.Settings.{Setup}
use Rattle.tk_base.specs.declared.memory.NoMemory.{NoMemory}
use Rattle.std.proofs.Common.{ℕ, List, subst}
use Rattle.tk_rows.specs.Factors.{Grid}
use Rattle.tk_rows.specs.Replacing.{IsReplacement}
use Rattle.tk_rows.specs.declared.reallocation.Reallocation.{Reallocation}
use Rattle.tk_alloc.specs.Rounds.{IsWideRound}
use Rattle.tk_alloc.specs.declared.reported.Reported.{Reported}
use Rattle.tk_journal.specs.Deciding.{wide_decides}
use Rattle.tk_coord.specs.Dealing.{IsDecided}
use Rattle.tk_coord.specs.Board.{BoardView}
use Rattle.tk_coord.proofs.DealingLemmas.{as_board, wide_dealt}
use Rattle.tk_coord.proofs.dealing.deal_wide.Goals as goal

if_dealt : (s : Setup) (grid : Grid) (present : List ℕ) (reports : List Reported) (r : Result Reallocation NoMemory) → IfOk r (λ c. IsWideRound s grid present reports c)
    → IfOk r (λ c. IsReplacement grid c)
    → IfOk r (IsDecided grid (wide_decides s grid present reports))
if_dealt s grid present reports (Ok c) is fits = wide_dealt s grid present reports c is fits
if_dealt s grid present reports (Err e) is fits = tt

pub returns : goal.returns
returns c =
    let s = c.args.settings.now in
    subst (λ (b : BoardView). IfOk c.wide.result (IsDecided b.table (wide_decides s b.table b.members c.args.reports.now))) (as_board c.args.board.now c.members.ensures c.table.ensures)
    (if_dealt s c.table.result.now c.members.result.now c.args.reports.now c.wide.result c.wide.ensures.value c.wide.ensures.fits)
