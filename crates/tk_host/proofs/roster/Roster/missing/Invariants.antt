use Rattle.std.proofs.Common.{◌≡◌, drop}
use Rattle.tk_host.specs.Seats.{has_stand_in}
use Rattle.tk_host.proofs.roster.Roster.missing.Given as goal

-- no stand-in sits in those passed
abbrev pub invariant-loop-i : goal.invariant-loop-i
invariant-loop-i l = has_stand_in l.self ≡ has_stand_in (drop l.i l.self)
