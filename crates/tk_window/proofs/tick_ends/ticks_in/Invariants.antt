use Rattle.std.proofs.Common.{◌≡◌, ℕ, List, Some, map, take}
use Rattle.std.specs.List.{zip}
use Rattle.tk_window.specs.Expanded.{ends_shown}
use Rattle.tk_window.specs.TickEnds.{all_of}
use Rattle.tk_window.specs.Window.{tick_ending}
use Rattle.tk_window.proofs.tick_ends.ticks_in.Given as goal

-- at each place so far a tick ends
abbrev pub invariant-loop-f : goal.invariant-loop-f
invariant-loop-f l = all_of (map (λ (p : List ℕ × ℕ). tick_ending p.0 p.1) (take l.f (zip (ends_shown l.row) l.places))) ≡ Some l.list.items
