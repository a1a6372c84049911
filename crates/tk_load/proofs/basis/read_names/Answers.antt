use Rattle.tk_input.specs.Catalog.{catalog_of}
use Rattle.tk_load.specs.Faults.{catalog_fault, telling}
use Rattle.tk_load.specs.Reads.{reads_by}
use Rattle.tk_load.proofs.FailLemmas.{counts_other}
use Rattle.tk_load.proofs.OtherLemmas.{names_other}
use Rattle.tk_load.proofs.basis.read_names.Goals as goal

pub returns-in-Ok-clause-counts : goal.returns-in-Ok-clause-counts
returns-in-Ok-clause-counts g c = counts_other _ (reads_by g.F.Files c.args.files.now c.read.new.files) (telling (catalog_fault c.args.file.now) (catalog_of c.as_slice.result.now)) c.names_of.result c.in-Ok.ensures.counts (names_other c.args.file.now c.as_slice.result.now) c.names_of.ensures.meets
