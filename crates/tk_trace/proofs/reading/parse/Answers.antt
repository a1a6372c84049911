use Rattle.std.proofs.Common.{arith}
use Rattle.tk_trace.specs.Recorded.{recorded}
use Rattle.tk_trace.proofs.TraceLemmas.{read_is, read_only, read_refused}
use Rattle.tk_trace.proofs.reading.parse.Goals as goal

pub returns-clause-ok : goal.returns-clause-ok
returns-clause-ok c = read_is recorded c.args.bytes.now c.read.result (λ i. omega (arith, c.type_inv.bytes i)) c.read.ensures

pub returns-clause-only : goal.returns-clause-only
returns-clause-only c = read_only recorded c.args.bytes.now c.read.result c.read.ensures

pub returns-clause-refused : goal.returns-clause-refused
returns-clause-refused c = read_refused recorded c.args.bytes.now c.read.result c.read.ensures
