use Rattle.std.proofs.Common.{◌≡◌, ◌+◌, ◌∷◌, replicate}
use Rattle.std.specs.List.{sum}
use Rattle.tk_alloc.proofs.reallocating.weights.Given as goal

abbrev pub invariant-loop-mon : goal.invariant-loop-mon
invariant-loop-mon l = (l.list.items ≡ l.own_weight ∷ replicate l.mon 1) × (sum l.list.items ≡ l.own_weight + l.mon)
