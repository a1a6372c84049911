use Rattle.std.proofs.Common.{◌≡◌, drop}
use Rattle.tk_host.specs.Seats.{beginnings_of}
use Rattle.tk_host.proofs.roster.Roster.beginnings.Given as goal

-- it is none of those passed
abbrev pub invariant-loop-i : goal.invariant-loop-i
invariant-loop-i l = beginnings_of l.self l.mon ≡ beginnings_of (drop l.i l.self) l.mon
