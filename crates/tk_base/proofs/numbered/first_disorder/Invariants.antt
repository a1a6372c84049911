use Rattle.std.proofs.Common.{◌≡◌, ◌∷◌, map, take, slice_index}
use Rattle.tk_base.specs.Ascending.{IsAscending}
use Rattle.tk_base.proofs.numbered.first_disorder.Given as goal

-- the front ascends, and the number before is its last
abbrev pub invariant-loop-place : goal.invariant-loop-place
invariant-loop-place g l =
    let numbers = map g.T.Numbered.number l.list in
    IsAscending (take l.place numbers) × (l.before ≡ slice_index (0 ∷ numbers) l.place)
