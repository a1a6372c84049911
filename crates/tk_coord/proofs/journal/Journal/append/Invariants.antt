use Rattle.std.proofs.Common.{◌≡◌, ◌+◌, ◌++◌, length}
use Rattle.tk_coord.proofs.journal.Journal.append.Given as goal

-- the entries up to here were appended, and there is room for the others
abbrev pub invariant-loop-entry : goal.invariant-loop-entry
invariant-loop-entry l = record {
  entries : l.self.entries ≡ l.initial.self.entries ++ l.yielded;
  monitors : l.self.monitors ≡ l.initial.self.monitors;
  room : l.self.spare + length l.yielded ≡ l.initial.self.spare;
}
