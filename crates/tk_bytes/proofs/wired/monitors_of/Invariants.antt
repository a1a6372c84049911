use Rattle.std.proofs.Common.{◌≡◌, map}
use Rattle.tk_bytes.specs.declared.walked.Walked.{Walked}
use Rattle.tk_bytes.proofs.wired.monitors_of.Given as goal

-- the monitors of the lines passed
abbrev pub invariant-loop-walked : goal.invariant-loop-walked
invariant-loop-walked l = l.monitors.items ≡ map (λ (w : Walked). w.line.port.monitor) l.yielded
