use Rattle.std.proofs.Common.{◌≡◌, take}
use Rattle.tk_commands.specs.RunMark.{mark_of, run_lines}
use Rattle.tk_commands.proofs.run_mark.mark_of_run.Given as goal

-- the number and the names before were marked
abbrev pub invariant-loop-i : goal.invariant-loop-i
invariant-loop-i l = l.mark ≡ mark_of (run_lines l.run (take l.i l.names))
