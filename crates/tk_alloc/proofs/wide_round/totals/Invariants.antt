use Rattle.std.proofs.Common.{◌≡◌, map, take}
use Rattle.tk_base.specs.Pairs.{objects_of}
use Rattle.tk_alloc.specs.Rounds.{total}
use Rattle.tk_alloc.proofs.wide_round.totals.Given as goal

abbrev pub invariant-loop-place : goal.invariant-loop-place
invariant-loop-place l = l.list ≡ map (λ o. (o, total l.reports o)) (take l.place (objects_of l.objects))
