use Rattle.std.proofs.Common.{◌≡◌, ◌++◌}
use Rattle.tk_base.specs.History.{IsFront}
use Rattle.tk_frames.specs.Spelling.{groups}
use Rattle.tk_frames.proofs.writing.groups.Given as goal

-- what was written and the groups of the rest make the whole
abbrev pub invariant-loop-rest : goal.invariant-loop-rest
invariant-loop-rest l = record { told : l.out.items ++ groups l.rest ≡ l.fn.out.items ++ groups l.value; front : IsFront l.fn.out.items l.out.items }

abbrev pub decreases-loop-rest : goal.decreases-loop-rest
decreases-loop-rest l = l.rest
