use Rattle.std.proofs.Common.{ℕ, List}
use Rattle.tk_session.specs.declared.session_line.SessionLine.{SessionLine}
use Rattle.tk_commands.specs.SessionInput.{session_order_by}
use Rattle.tk_load.specs.Reads.{reads_by}
use Rattle.tk_load.proofs.FailLemmas.{counts_other}
use Rattle.tk_commands.proofs.OtherLemmas.{session_order_other}
use Rattle.tk_commands.proofs.sessions.order_from_file.Goals as goal

pub returns-in-Ok-clause-counts : goal.returns-in-Ok-clause-counts
returns-in-Ok-clause-counts g c = counts_other {V = List (ℕ × SessionLine)} (λ (o : List (ℕ × SessionLine)). o) (reads_by g.F.Files c.args.files.now c.read.new.files) (session_order_by c.args.settings.now c.args.logs.now c.args.file.now c.as_slice.result.now) c.tested_order.result c.in-Ok.ensures.counts
    (session_order_other c.args.settings.now c.args.logs.now c.args.file.now c.as_slice.result.now) c.tested_order.ensures
