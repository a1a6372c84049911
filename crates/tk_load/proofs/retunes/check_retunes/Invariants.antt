use Rattle.std.proofs.Common.{◌≡◌, drop}
use Rattle.std.specs.List.{zip}
use Rattle.tk_input.specs.Records.{through}
use Rattle.tk_load.specs.Input.{retune_tested, retunes_tested}
use Rattle.tk_load.proofs.retunes.check_retunes.Given as goal

-- the events before pass, so those that are left decide
abbrev pub invariant-loop-i : goal.invariant-loop-i
invariant-loop-i l = through (retune_tested l.settings l.file) tt (drop l.i (zip l.order.events l.order.lines)) ≡ retunes_tested l.settings l.file l.order
