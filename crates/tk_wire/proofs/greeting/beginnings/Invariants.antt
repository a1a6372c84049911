use Rattle.std.proofs.Common.{◌≡◌, ◌*◌, ◌-◌, ◌≤◌, ◌++◌, length}
use Rattle.tk_wire.specs.GreetingReading.{beginnings_at}
use Rattle.tk_wire.proofs.greeting.beginnings.Given as goal

-- what was read and what is still to read make the whole
abbrev pub invariant-loop : goal.invariant-loop
invariant-loop l =
    (l.list.items ++ beginnings_at (l.count - l.counter) l.rest ≡ beginnings_at l.count l.bytes)
    × (12 * (l.count - l.counter) ≤ length l.rest)
