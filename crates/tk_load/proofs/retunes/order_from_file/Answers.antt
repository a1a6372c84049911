use Rattle.tk_input.specs.Order.{OrderView}
use Rattle.tk_load.specs.Input.{order_of_bytes}
use Rattle.tk_load.specs.Reads.{reads_by}
use Rattle.tk_load.proofs.FailLemmas.{counts_other}
use Rattle.tk_load.proofs.OtherLemmas.{order_bytes_other}
use Rattle.tk_load.proofs.retunes.order_from_file.Goals as goal

pub returns-in-Ok-clause-counts : goal.returns-in-Ok-clause-counts
returns-in-Ok-clause-counts g c = counts_other {V = OrderView} (λ (o : OrderView). o) (reads_by g.F.Files c.args.files.now c.read.new.files) (order_of_bytes c.args.settings.now c.args.file.now c.as_slice.result.now) c.tested_order.result c.in-Ok.ensures.counts
    (order_bytes_other (reads_by g.F.Files c.args.files.now c.read.new.files) c.args.settings.now c.args.file.now c.as_slice.result.now) c.tested_order.ensures
