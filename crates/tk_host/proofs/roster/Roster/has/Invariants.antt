use Rattle.std.proofs.Common.{◌≡◌, drop}
use Rattle.tk_host.specs.Seats.{has_joined}
use Rattle.tk_host.proofs.roster.Roster.has.Given as goal

-- it is none of those passed
abbrev pub invariant-loop-i : goal.invariant-loop-i
invariant-loop-i l = has_joined l.self l.mon ≡ has_joined (drop l.i l.self) l.mon
