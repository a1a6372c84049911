use Rattle.std.proofs.Common.{◌≡◌, take}
use Rattle.tk_base.specs.Ascending.{numbers_of}
use Rattle.tk_rank.proofs.sides.are_listed.Given as goal

-- both have the same objects up to here
abbrev pub invariant-loop-index : goal.invariant-loop-index
invariant-loop-index l = take l.index (numbers_of l.list) ≡ take l.index l.members
