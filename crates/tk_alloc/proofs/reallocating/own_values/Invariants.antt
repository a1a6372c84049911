use Rattle.std.proofs.Common.{◌≡◌, pos, map, take, if◌then◌else◌}
use Rattle.tk_base.specs.Objects.{is_in}
use Rattle.tk_base.specs.Pairs.{objects_of}
use Rattle.tk_alloc.proofs.reallocating.own_values.Given as goal

abbrev pub invariant-loop-place : goal.invariant-loop-place
invariant-loop-place l = l.list ≡ map (λ o. (o, if is_in l.members o then l.epsilon else pos 0)) (take l.place (objects_of l.objects))
