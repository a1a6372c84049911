use Rattle.std.proofs.Common.{◌≡◌, ◌≤◌, ℤ, List, length}
use Rattle.std.specs.Prelude.{All}
use Rattle.tk_base.specs.Ascending.{numbers_of}
use Rattle.tk_rank.specs.Sides.{AreOutsiderLeaves, AreSides}
use Rattle.tk_rank.proofs.ExchangeLemmas.{is_left}
use Rattle.tk_rank.proofs.sides.release.Given as goal

-- the members so far are outsiders, whatever the levels
abbrev pub invariant-loop-place : goal.invariant-loop-place
invariant-loop-place l = record {
  room : length l.outsiders.leaves ≡ length l.fn.outsiders.leaves;
  sides : (levels : List ℤ) → All (λ o. o ≤ length levels) (numbers_of l.list) → AreSides levels (numbers_of l.list) l.members.leaves l.fn.outsiders.leaves → AreOutsiderLeaves levels (is_left (numbers_of l.list) l.place) l.outsiders.leaves;
}
