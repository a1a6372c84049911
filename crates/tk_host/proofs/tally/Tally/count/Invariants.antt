use Rattle.std.proofs.Common.{◌≡◌, ◌≤◌, length, take}
use Rattle.tk_host.specs.Room.{bytes_of}
use Rattle.tk_input.specs.Rows.{capped}
use Rattle.tk_host.proofs.tally.Tally.count.Given as goal

-- the entries so far are counted
abbrev pub invariant-loop-i : goal.invariant-loop-i
invariant-loop-i l = record {
  within : l.i ≤ length l.journal;
  bytes : l.self.bytes ≡ capped (bytes_of (take l.i l.journal));
}
