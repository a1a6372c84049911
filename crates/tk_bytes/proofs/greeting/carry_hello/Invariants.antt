use Rattle.std.proofs.Common.{◌≡◌, ◌-◌, ℕ}
use Rattle.tk_bytes.specs.Greeting.{HasCarried, IsOver}
use Rattle.tk_bytes.proofs.greeting.carry_hello.Given as goal

-- so many bytes of the Hello wait
abbrev pub invariant-loop-came : goal.invariant-loop-came
invariant-loop-came l = record {
  carried : HasCarried l.came l.line l.wire;
  monitor : l.line.port.monitor ≡ l.initial.line.port.monitor;
  over : (piece version : ℕ) → IsOver piece version l.initial.line → IsOver piece version l.line;
}

abbrev pub decreases-loop-came : goal.decreases-loop-came
decreases-loop-came l = 18 - l.came
