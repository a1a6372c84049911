-- What is found of a record, as what is wrong with its trace.
use Rattle.tk_verify.specs.declared.finding.Finding.{Finding}
use Rattle.tk_verify.specs.declared.finding.Finding.TheVariants as f
use Rattle.tk_verify.specs.declared.trace_fault.TraceFault.{TraceFault}
use Rattle.tk_verify.specs.declared.trace_fault.TraceFault.TheVariants as t

-- what is found of a story, as a fault of its trace
abbrev pub as_found : Finding → TraceFault
as_found (f.NotLegal part place) = t.NotLegal part place
as_found (f.Links mon direction place) = t.Links mon direction place
as_found f.NotFinal = t.NotFinal
as_found f.NoMemory = t.NoMemory
