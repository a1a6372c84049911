use Rattle.tk_load.specs.Batch.{IsLogOf, IsParsed, IsReadAs}
use Rattle.tk_load.specs.Reads.{reads_by}
use Rattle.tk_load.proofs.BatchLemmas.{each_through, read_and_parsed}
use Rattle.tk_load.proofs.FailLemmas.{parsed_counted}
use Rattle.tk_load.proofs.batch.next_logs.Goals as goal

pub returns-clause-read : goal.returns-clause-read
returns-clause-read g c =
    let reads = reads_by g.F.Files c.args.files.now c.read.new.files in
    each_through (IsReadAs reads) (IsParsed c.args.width c.args.names.now) (IsLogOf reads c.args.width c.args.names.now) c.args.words.now c.in_ok-batch.batch.logs.items c.in_ok-parse.field-0.items
    c.in_ok-parse.ensures.count (read_and_parsed reads c.args.width c.args.names.now) c.in_ok-batch.ensures.read c.in_ok-parse.ensures.parsed

pub returns-clause-counts : goal.returns-clause-counts
returns-clause-counts g c =
    parsed_counted (reads_by g.F.Files c.args.files.now c.read.new.files) c.args.width c.args.names.now c.in_ok-batch.batch.logs.items c.in_ok-parse.field-0.items
    c.in_ok-parse.ensures.count c.in_ok-parse.ensures.parsed c.in_ok-batch.ensures.counts
