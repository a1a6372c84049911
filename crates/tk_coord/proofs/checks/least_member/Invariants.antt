use Rattle.std.proofs.Common.{◌≡◌, map, take}
use Rattle.tk_border.specs.Levels.{least_of}
use Rattle.tk_journal.specs.Refusal.{level_in}
use Rattle.tk_coord.specs.Checks.{known_in}
use Rattle.tk_coord.proofs.checks.least_member.Given as goal

abbrev pub invariant-loop-i : goal.invariant-loop-i
invariant-loop-i l = l.least ≡ least_of (map (level_in (known_in l.known) l.values) (take l.i (known_in l.known).members))
