use Rattle.std.proofs.Common.{◌≡◌}
use Rattle.tk_port_tests.proofs.tests.send.Given as goal

-- the port stays on its course, with its monitor as it was
abbrev pub invariant-loop : goal.invariant-loop
invariant-loop l = (l.port.course ≡ l.initial.port.course) × (l.port.monitor ≡ l.initial.port.monitor)
