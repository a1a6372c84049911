use Rattle.std.proofs.Common.{◌≡◌, take}
use Rattle.tk_base.specs.Pairs.{objects_of}
use Rattle.tk_alloc.specs.Parts.{by_monitor, dealt_from}
use Rattle.tk_alloc.specs.Terms.{monitors_in, parts_of}
use Rattle.tk_alloc.proofs.reallocating.all_changes.Given as goal

-- the first monitors have their changes
abbrev pub invariant-loop-place : goal.invariant-loop-place
invariant-loop-place l = by_monitor l.at.items ≡ dealt_from l.table (parts_of l.terms l.reports) (objects_of l.terms.own_values) 1 (take l.place (monitors_in l.terms l.reports))
