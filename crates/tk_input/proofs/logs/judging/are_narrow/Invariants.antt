use Rattle.std.proofs.Common.{take}
use Rattle.std.specs.Prelude.{All}
use Rattle.tk_input.specs.Changes.{AreSmall}
use Rattle.tk_input.proofs.logs.judging.are_narrow.Given as goal

-- the parts so far are small
abbrev pub invariant-loop-part : goal.invariant-loop-part
invariant-loop-part l = All AreSmall (take l.part-index l.row)
