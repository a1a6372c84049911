use Rattle.std.proofs.Common.{◌≡◌, not, take}
use Rattle.std.specs.List.{filter}
use Rattle.tk_base.specs.Ascending.{numbers_of}
use Rattle.tk_base.specs.Pairs.{objects_of}
use Rattle.tk_alloc.specs.Candidates.{candidate, comes_first}
use Rattle.tk_alloc.proofs.picking.first_ones.Given as goal

-- those of the first objects that are not past the last that goes first
abbrev pub invariant-loop-place : goal.invariant-loop-place
invariant-loop-place l = numbers_of l.list.items ≡ objects_of (filter (λ p. not (comes_first l.last (candidate l.old p))) (take l.place l.totals))
