use Rattle.std.proofs.Common.{◌≡◌, take}
use Rattle.tk_input.specs.Logs.{updates_of}
use Rattle.tk_input.proofs.logs.judging.updates_in.Given as goal

-- the parts so far are counted
abbrev pub invariant-loop-part : goal.invariant-loop-part
invariant-loop-part l = l.updates ≡ updates_of (take l.part-index l.row)
