-- Sets that are valid for the sums of windows.
use Rattle.std.specs.Prelude.{◌≡◌, ℕ, ◌≤◌, ℤ, ◌+ℤ◌, ◌≤ℤ◌, List, [], length, map, slice_index_or, All, Contains}
use Rattle.std.specs.List.{zip}
use Rattle.tk_base.specs.Ascending.{IsAscending}
use Rattle.tk_base.specs.Sum.{int_sum}
use Rattle.tk_window.specs.Window.{expansion, window_sum}

-- the logs in ticks of each monitor, expanded
abbrev pub expanded_logs : ℕ → List (List (List (List (ℕ × ℤ)))) → List (List (List (ℕ × ℤ)))
expanded_logs width logs = map (λ row. map (λ ticks. (expansion width ticks).part) row) logs

-- where the ticks of these logs end once they are expanded
abbrev pub expanded_ends : ℕ → List (List (List (List (ℕ × ℤ)))) → List (List (List ℕ))
expanded_ends width logs = map (λ row. map (λ ticks. (expansion width ticks).ends) row) logs

-- the sums of an object in the windows of one monitor's logs, each at a tick of its own
abbrev pub window_value : ℕ → List (List (List (ℕ × ℤ))) → List ℕ → ℕ → ℤ
window_value width row ticks o = int_sum (map (λ p. window_sum width p.0 p.1 o) (zip row ticks))

-- its total: those sums over all monitors
abbrev pub window_total : ℕ → List (List (List (List (ℕ × ℤ)))) → ℕ → List (List ℕ) → ℤ
window_total width logs o ticks = int_sum (map (λ p. window_value width p.0 p.1 o) (zip logs ticks))

-- one tick per log of a monitor, none past its last; tick 0 stands before the first
pub record AreTicksIn (row : List (List (List (ℕ × ℤ)))) (ticks : List ℕ) : Type 0 where
  pub shape : length ticks ≡ length row
  pub within : (f : ℕ) → slice_index_or ticks f 0 ≤ length (slice_index_or row f [])

-- ticks of the logs
pub record AreTicksOf (logs : List (List (List (List (ℕ × ℤ))))) (ticks : List (List ℕ)) : Type 0 where
  pub shape : length ticks ≡ length logs
  pub each : (j : ℕ) → AreTicksIn (slice_index_or logs j []) (slice_index_or ticks j [])

-- the ticks are ones of the logs, and the set has k objects of a catalogue of n, each of whose totals over the windows
-- at these ticks plus epsilon is at least that of every object outside
pub record IsWindowValid (width : ℕ) (logs : List (List (List (List (ℕ × ℤ))))) (n k : ℕ) (epsilon : ℤ) (ticks : List (List ℕ)) (set : List ℕ) : Type 0 where
  pub are_ticks : AreTicksOf logs ticks
  pub size : length set ≡ k
  pub ascends : IsAscending set
  pub within : All (λ t. t ≤ n) set
  pub greatest : (t s : ℕ) → Contains set t → 1 ≤ s → s ≤ n → (Contains set s → ⊥) → window_total width logs s ticks ≤ℤ (window_total width logs t ticks +ℤ epsilon)
