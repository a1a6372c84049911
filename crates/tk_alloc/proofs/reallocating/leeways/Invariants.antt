use Rattle.std.proofs.Common.{◌≡◌, ◌<◌, ◌^◌, map, take, unsigned_abs}
use Rattle.std.specs.List.{All}
use Rattle.tk_base.specs.Pairs.{objects_of}
use Rattle.tk_alloc.specs.Parts.{leeway}
use Rattle.tk_alloc.specs.Terms.{parts_of}
use Rattle.tk_alloc.proofs.reallocating.leeways.Given as goal

abbrev pub invariant-loop-place : goal.invariant-loop-place
invariant-loop-place l =
    (l.list.items ≡ map (leeway l.table (parts_of l.terms l.reports)) (take l.place (objects_of l.terms.own_values))) × All (λ z. unsigned_abs z < 2 ^ 122) l.list.items
