use Rattle.std.proofs.Common.{◌≡◌, ◌≤◌, ◌+◌, ◌*◌, ◌^◌, map, take, get_or, unsigned_abs}
use Rattle.tk_base.specs.Pairs.{objects_of}
use Rattle.tk_base.specs.Sum.{int_sum}
use Rattle.tk_alloc.specs.Parts.{above}
use Rattle.tk_alloc.specs.Terms.{parts_of}
use Rattle.tk_alloc.proofs.reallocating.leeway.Given as goal

-- the sum over the coordinator and the first reports
abbrev pub invariant-loop-report : goal.invariant-loop-report
invariant-loop-report l =
    (l.sum ≡ int_sum (map (above l.table (get_or (objects_of l.terms.own_values) l.place 0)) (parts_of l.terms (take l.report-index l.reports)))) × (unsigned_abs l.sum ≤ (l.report-index + 1) * 2 ^ 114)
