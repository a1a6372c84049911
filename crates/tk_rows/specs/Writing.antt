-- How one row is written. No public clause cites this.
use Rattle.std.specs.Prelude.{ℕ, ℤ, pos, List, map, fold, slice_index_or, slice_set}
use Rattle.tk_rows.specs.declared.mon_change.MonChange.{MonChange}

-- each named monitor, with the factor at a place of its changes
abbrev pub named_at : List MonChange → ℕ → List (ℕ × ℤ)
named_at at place = map (λ c. (c.mon.0, (slice_index_or {A = ℕ × ℤ} c.changes place (0, pos 0)).1)) at

-- a row in which some nodes have new factors
abbrev pub written : List ℤ → List (ℕ × ℤ) → List ℤ
written row named = fold (λ r p. slice_set r p.0 p.1) row named
