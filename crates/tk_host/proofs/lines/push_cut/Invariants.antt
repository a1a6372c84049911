use Rattle.std.proofs.Common.{◌≡◌, ◌++◌}
use Rattle.std.specs.Prelude.{flat_map}
use Rattle.std.specs.List.{range_with_len}
use Rattle.tk_host.specs.Text.{monitor_text}
use Rattle.tk_host.proofs.lines.push_cut.Given as goal

-- the monitors so far are written
abbrev pub invariant-loop-i : goal.invariant-loop-i
invariant-loop-i l = l.line.items ≡ l.initial.line.items ++ flat_map (monitor_text l.roster l.cut) (range_with_len 1 l.i)
