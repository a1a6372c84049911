use Rattle.std.proofs.Common.{◌≡◌, drop}
use Rattle.tk_input.specs.Records.{through}
use Rattle.tk_commands.specs.SessionInput.{line_tested, lines_tested}
use Rattle.tk_commands.proofs.sessions.check_lines.Given as goal

-- the lines before pass, so those that are left decide
abbrev pub invariant-loop-i : goal.invariant-loop-i
invariant-loop-i l = through (line_tested l.settings l.file) tt (drop l.i l.order) ≡ lines_tested l.settings l.file l.order
