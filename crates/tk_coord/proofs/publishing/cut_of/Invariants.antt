use Rattle.std.proofs.Common.{◌≡◌, map}
use Rattle.std.specs.List.{range_with_len}
use Rattle.tk_coord.specs.Closing.{said_at}
use Rattle.tk_coord.proofs.publishing.cut_of.Given as goal

-- the places of those up to here
abbrev pub invariant-loop-other : goal.invariant-loop-other
invariant-loop-other l = l.list.items ≡ map (λ mon. (said_at l.answers.peers.now l.answers.place l.answers.here.now mon).places) (range_with_len 1 l.other)
