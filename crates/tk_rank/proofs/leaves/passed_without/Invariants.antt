use Rattle.std.proofs.Common.{◌≤◌, ◌<◌, ◌+◌, map}
use Rattle.std.specs.List.{AllWithin}
use Rattle.tk_rank.specs.Tree.{IsOther}
use Rattle.tk_rank.proofs.leaves.passed_without.Given as goal

-- the objects so far are not behind the leaves, and none of them has the number
abbrev pub invariant-loop-next : goal.invariant-loop-next
invariant-loop-next g l = record {
  order : l.fn.place ≤ l.next;
  passed : AllWithin (λ o. o < l.to + 1) l.set 0 l.next;
  other : AllWithin (IsOther (map g.N.Node.number l.leaves) (g.N.Node.number l.top)) l.set l.fn.place l.next;
}
