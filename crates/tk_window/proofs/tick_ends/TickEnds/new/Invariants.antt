use Rattle.std.proofs.Common.{◌≡◌, map}
use Rattle.std.specs.List.{range_with_len}
use Rattle.tk_window.specs.Expanded.{rows_shown, sources_of}
use Rattle.tk_window.specs.TickEnds.{ends_of}
use Rattle.tk_window.proofs.tick_ends.TickEnds.new.Given as goal

-- the rows so far are there
abbrev pub invariant-loop-place : goal.invariant-loop-place
invariant-loop-place l = rows_shown l.rows.items ≡ map (ends_of (sources_of l.logs)) (range_with_len 1 l.place)
