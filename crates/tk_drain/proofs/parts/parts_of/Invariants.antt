use Rattle.std.proofs.Common.{◌≡◌}
use Rattle.std.specs.Prelude.{flat_map}
use Rattle.std.specs.List.{range_with_len}
use Rattle.tk_drain.specs.Drive.{raises_of}
use Rattle.tk_drain.specs.Passing.{raises}
use Rattle.tk_drain.proofs.parts.parts_of.Given as goal

abbrev pub invariant-loop-j : goal.invariant-loop-j
invariant-loop-j l = raises l.parts.items ≡ flat_map (raises_of l.logs) (range_with_len 1 l.j)
