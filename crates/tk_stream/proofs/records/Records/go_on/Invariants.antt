use Rattle.tk_stream.proofs.TurnLemmas.{Passes}
use Rattle.tk_stream.proofs.records.Records.go_on.Given as goal

-- so far lines were passed over
abbrev pub invariant-loop : goal.invariant-loop
invariant-loop g l = Passes l.fn.ticks l.fn.names l.fn.self l.self
