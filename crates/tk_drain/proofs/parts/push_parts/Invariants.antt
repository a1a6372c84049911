use Rattle.std.proofs.Common.{◌≡◌, ◌++◌, map}
use Rattle.std.specs.List.{range_with_len}
use Rattle.tk_world.specs.Events.{raise_at}
use Rattle.tk_drain.specs.Passing.{raises}
use Rattle.tk_drain.proofs.parts.push_parts.Given as goal

abbrev pub invariant-loop-f : goal.invariant-loop-f
invariant-loop-f l = raises l.parts.items ≡ raises l.initial.parts.items ++ map (raise_at l.mon.0) (range_with_len 1 l.f)
