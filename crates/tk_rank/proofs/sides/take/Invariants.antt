use Rattle.std.proofs.Common.{◌≡◌, ◌≤◌, ℤ, List, [], length}
use Rattle.std.specs.Prelude.{All}
use Rattle.tk_base.specs.Objects.{is_in}
use Rattle.tk_rank.specs.Sides.{AreOutsiderLeaves, AreSmallLeaves}
use Rattle.tk_rank.proofs.ExchangeLemmas.{AreTaken}
use Rattle.tk_rank.proofs.sides.take.Given as goal

-- the new members so far have their places, whatever the levels
abbrev pub invariant-loop-place : goal.invariant-loop-place
invariant-loop-place l = record {
  enough : length l.new ≤ length l.members.leaves;
  member_room : l.members.room ≡ l.fn.members.room;
  outsider_room : length l.outsiders.leaves ≡ length l.fn.outsiders.leaves;
  small : AreSmallLeaves l.outsiders.leaves;
  sides : (levels : List ℤ) → All (λ o. o ≤ length levels) l.new → AreOutsiderLeaves levels (is_in []) l.fn.outsiders.leaves → AreTaken levels l.new l.place l.members.leaves l.outsiders.leaves;
}
