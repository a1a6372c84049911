use Rattle.std.proofs.Common.{◌≡◌, map, take}
use Rattle.tk_alloc.specs.Candidates.{candidate}
use Rattle.tk_alloc.proofs.picking.ranked.Given as goal

abbrev pub invariant-loop-place : goal.invariant-loop-place
invariant-loop-place l = l.list.items ≡ map (candidate l.old) (take l.place l.totals)
