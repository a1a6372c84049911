use Rattle.std.proofs.Common.{◌≡◌, true, take}
use Rattle.std.specs.List.{list_all}
use Rattle.tk_coord.specs.Keeping.{has_settled}
use Rattle.tk_coord.proofs.state.all_settled.Given as goal

-- those up to here have settled
abbrev pub invariant-loop-peer : goal.invariant-loop-peer
invariant-loop-peer l = list_all has_settled (take l.peer-index l.peers) ≡ true
