use Rattle.std.proofs.Common.{◌≡◌, drop}
use Rattle.tk_host.specs.Seats.{is_missing}
use Rattle.tk_host.proofs.roster.Roster.misses.Given as goal

-- it is none of those passed
abbrev pub invariant-loop-i : goal.invariant-loop-i
invariant-loop-i l = is_missing l.self l.mon ≡ is_missing (drop l.i l.self) l.mon
