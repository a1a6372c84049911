use Rattle.std.proofs.Common.{◌≡◌, ◌≤◌, All, length, map}
use Rattle.tk_input.specs.Logs.{IsObject}
use Rattle.tk_commands.specs.Generated.{logs_made, shown}
use Rattle.tk_commands.proofs.making.parts_of.Given as goal

-- the logs of the monitors before
abbrev pub invariant-loop-j : goal.invariant-loop-j
invariant-loop-j l = record {
  monitors : All (λ p. (1 ≤ p.0.0) × (p.0.0 ≤ 64)) l.parts.items;
  objects : All (λ p. All (λ c. IsObject l.objects c.0) p.1) l.parts.items;
  lengths : All (λ p. length p.1 ≤ 1000000) l.parts.items;
  value : l.parts.items ≡ logs_made l.j (map shown l.updates);
}
