use Rattle.std.proofs.Common.{◌≡◌, ℕ, length, ltb, cond, get_or, pos, Some, None}
use Rattle.tk_rank.proofs.sides.seat.Given as goal

-- the objects so far have their levels, the others nothing
abbrev pub invariant-loop-i : goal.invariant-loop-i
invariant-loop-i l = record {
  room : length l.outsiders.leaves ≡ length l.initial.outsiders.leaves;
  seated : (place : ℕ) → get_or l.outsiders.leaves place None ≡ cond (ltb place l.i) (Some (get_or l.levels place (pos 0))) None;
}
