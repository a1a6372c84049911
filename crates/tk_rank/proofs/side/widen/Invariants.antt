use Rattle.std.proofs.Common.{◌≡◌, ℕ, length, ltb, cond, get_or, None}
use Rattle.tk_rank.proofs.side.widen.Given as goal

-- the leaves so far are written, and no other
abbrev pub invariant-loop-place : goal.invariant-loop-place
invariant-loop-place l = record {
  count : length l.wide.leaves ≡ length l.narrow.leaves;
  written : (i : ℕ) → get_or l.wide.leaves i None ≡ cond (ltb i l.place) (get_or l.narrow.leaves i None) None;
  room : l.wide.room ≡ l.fn.wide.room;
}
