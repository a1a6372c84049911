use Rattle.tk_commands.specs.MultiInput.{queries_from}
use Rattle.tk_load.specs.Reads.{reads_by}
use Rattle.tk_load.proofs.FailLemmas.{counts_other}
use Rattle.tk_commands.proofs.OtherLemmas.{queries_other}
use Rattle.tk_commands.proofs.multi.read_queries.Goals as goal

pub returns-in-Ok-clause-counts : goal.returns-in-Ok-clause-counts
returns-in-Ok-clause-counts g c = counts_other _ (reads_by g.F.Files c.args.files.now c.read.new.files) (queries_from c.args.file.now c.as_slice.result.now) c.queries_of.result c.in-Ok.ensures.counts (queries_other c.args.file.now c.as_slice.result.now) c.queries_of.ensures
