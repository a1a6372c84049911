use Rattle.std.proofs.Common.{◌≡◌, take}
use Rattle.tk_base.specs.Pairs.{objects_of}
use Rattle.tk_alloc.specs.Terms.{dealt_by}
use Rattle.tk_alloc.proofs.reallocating.factors.Given as goal

-- the first objects have their factors
abbrev pub invariant-loop-place : goal.invariant-loop-place
invariant-loop-place l = l.list ≡ dealt_by l.values l.border l.weights l.p (take l.place (objects_of l.values)) (take l.place l.leeways)
