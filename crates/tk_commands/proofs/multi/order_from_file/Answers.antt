use Rattle.tk_multi.specs.Order.{MultiOrderView}
use Rattle.tk_commands.specs.MultiInput.{multi_order_from}
use Rattle.tk_load.specs.Reads.{reads_by}
use Rattle.tk_load.proofs.FailLemmas.{counts_other}
use Rattle.tk_commands.proofs.OtherLemmas.{multi_order_other}
use Rattle.tk_commands.proofs.multi.order_from_file.Goals as goal

pub returns-in-Ok-clause-counts : goal.returns-in-Ok-clause-counts
returns-in-Ok-clause-counts g c = counts_other {V = MultiOrderView} (λ (o : MultiOrderView). o) (reads_by g.F.Files c.args.files.now c.read.new.files) (multi_order_from c.args.file.now c.as_slice.result.now) c.order_of.result c.in-Ok.ensures.counts (multi_order_other c.args.file.now c.as_slice.result.now) c.order_of.ensures
