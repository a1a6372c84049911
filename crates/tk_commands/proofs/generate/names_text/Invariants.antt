use Rattle.std.proofs.Common.{◌≡◌}
use Rattle.tk_commands.specs.Generated.{names_text}
use Rattle.tk_commands.proofs.generate.names_text.Given as goal

-- the names before
abbrev pub invariant-loop-j : goal.invariant-loop-j
invariant-loop-j l = l.text.items ≡ names_text l.j
