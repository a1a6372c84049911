use Rattle.std.proofs.Common.{◌≡◌, ◌+◌, ℕ, ◌<◌, true}
use Rattle.tk_coord.specs.Closing.{said_at}
use Rattle.tk_coord.proofs.publishing.all_last.Given as goal

-- those up to here are at their ends
abbrev pub invariant-loop-other : goal.invariant-loop-other
invariant-loop-other l = (k : ℕ) → k < l.other → (said_at l.answers.peers.now l.answers.place l.answers.here.now (1 + k)).last ≡ true
