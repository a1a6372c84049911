use Rattle.std.proofs.Common.{◌∙◌, sym}
use Rattle.tk_monitor.proofs.BoardLemmas.{some_members}
use Rattle.tk_monitor.proofs.board.assign.answer.Goals as goal

pub report-requires : goal.report-requires
report-requires c = some_members c.args.board.now.levels c.args.board.now.members (sym c.is_broken.ensures ∙ c.if-is_broken.true)
