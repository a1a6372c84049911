use Rattle.std.proofs.Common.{◌≡◌, ◌≤◌, ◌*◌, ◌^◌, take, get_or, unsigned_abs}
use Rattle.tk_base.specs.Pairs.{objects_of}
use Rattle.tk_alloc.specs.Rounds.{total}
use Rattle.tk_alloc.proofs.wide_round.total.Given as goal

-- the sum over the first reports
abbrev pub invariant-loop-report : goal.invariant-loop-report
invariant-loop-report l = (l.sum ≡ total (take l.report-index l.reports) (get_or (objects_of l.objects) l.place 0)) × (unsigned_abs l.sum ≤ l.report-index * 2 ^ 100)
