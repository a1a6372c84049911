use Rattle.std.proofs.Common.{true}
use Rattle.tk_hub.specs.Visitor.{IsUnused}
use Rattle.tk_hub_tests.proofs.tests.wire.Given as goal

-- nothing has passed the wire yet
abbrev pub invariant-loop : goal.invariant-loop
invariant-loop l = IsUnused true l.wire.traffic
