use Rattle.std.proofs.Common.{◌≡◌, ◌++◌, map, take, drop}
use Rattle.std.specs.List.{zip}
use Rattle.tk_input.specs.declared.event.Event.TheVariants.{Raise}
use Rattle.tk_multi.specs.Multi.{moved_at}
use Rattle.tk_multi.proofs.multi.raise_where.Given as goal

-- the queries passed have the raise, the others not yet
abbrev pub invariant-loop-i : goal.invariant-loop-i
invariant-loop-i g l =
    l.worlds ≡ take l.i (map (moved_at (Raise l.mon l.f) l.obj.0) (zip l.watches l.initial.worlds)) ++ drop l.i l.initial.worlds
