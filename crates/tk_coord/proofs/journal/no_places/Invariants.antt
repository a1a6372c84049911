use Rattle.std.proofs.Common.{◌≡◌, ◌≤◌, [], vec_capacity, vec_len}
use Rattle.std.specs.List.{All}
use Rattle.tk_coord.proofs.journal.no_places.Given as goal

-- an empty list for each monitor so far, and there is room for the others
abbrev pub invariant-loop-j : goal.invariant-loop-j
invariant-loop-j l = record {
  len : vec_len l.sent ≡ l.j;
  room : l.monitors ≤ vec_capacity l.sent;
  none : All (λ v. v.items ≡ []) l.sent.items;
}
