use Rattle.std.proofs.Common.{◌≡◌, ℕ, List, Some, map, take}
use Rattle.std.specs.List.{zip}
use Rattle.tk_window.specs.TickEnds.{all_of, ticks_in}
use Rattle.tk_window.proofs.tick_ends.TickEnds.at.Given as goal

-- at each place of the monitors so far a tick ends
abbrev pub invariant-loop-j : goal.invariant-loop-j
invariant-loop-j l = all_of (map (λ (p : List (List ℕ) × List ℕ). ticks_in p.0 p.1) (take l.j (zip l.self l.cut))) ≡ Some l.list.items
