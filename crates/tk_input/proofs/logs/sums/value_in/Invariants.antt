use Rattle.std.proofs.Common.{◌≡◌, take}
use Rattle.tk_input.specs.Logs.{value_of}
use Rattle.tk_input.proofs.logs.sums.value_in.Given as goal

-- the parts so far are summed
abbrev pub invariant-loop-f : goal.invariant-loop-f
invariant-loop-f l = l.value ≡ value_of (take l.f l.row) (take l.f l.places) l.obj.0
