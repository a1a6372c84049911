use Rattle.std.proofs.Common.{◌≡◌, take}
use Rattle.tk_journal.specs.Kinds.{counts_of}
use Rattle.tk_ledger.proofs.rounds.count_turns.Given as goal

-- the turns so far are counted
abbrev pub invariant-loop-turn : goal.invariant-loop-turn
invariant-loop-turn l = record {
  short : l.rounds.short ≡ (counts_of (take l.turn-index l.turns)).short;
  full : l.rounds.full ≡ (counts_of (take l.turn-index l.turns)).full;
  wide : l.rounds.wide ≡ (counts_of (take l.turn-index l.turns)).wide;
  stale : l.rounds.stale ≡ (counts_of (take l.turn-index l.turns)).stale;
}
