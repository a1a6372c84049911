-- Sums over a sliding window of ticks, and the log that moves such a window: in front of the changes of a tick it takes
-- back those that leave the window.
use Rattle.std.specs.Prelude.{◌≡◌, ℕ, suc, zero, ◌-◌, ◌≤◌, ℤ, neg_ℤ, nat_lt, ◌==◌, if◌then◌else◌, List, [], ◌∷◌, ◌++◌, length, map, flat_map, take, drop, position, slice_index_or, Option, Result, Ok, Err}
use Rattle.std.specs.List.{range_with_len}
use Rattle.tk_input.specs.Logs.{sum_for}
use Rattle.tk_window.specs.declared.fault.ExpandFault.{ExpandFault}
use Rattle.tk_window.specs.declared.fault.ExpandFault.TheVariants.{TooLong, NoMemory}

-- the changes of tick t, from 1; none where there is no such tick
abbrev pub changes_at : List (List (ℕ × ℤ)) → ℕ → List (ℕ × ℤ)
changes_at ticks zero = []
changes_at ticks (suc i) = slice_index_or ticks i []

-- ---- the window

-- the changes of the last ticks up to tick t, as many as the window is wide
abbrev pub in_window : ℕ → List (List (ℕ × ℤ)) → ℕ → List (ℕ × ℤ)
in_window width ticks t = flat_map (λ tick. tick) (drop (t - width) (take t ticks))

-- the sum of the changes of an object in the window at tick t
abbrev pub window_sum : ℕ → List (List (ℕ × ℤ)) → ℕ → ℕ → ℤ
window_sum width ticks t o = sum_for o (in_window width ticks t)

-- ---- the expanded log

-- changes taken back
abbrev pub withdrawn : List (ℕ × ℤ) → List (ℕ × ℤ)
withdrawn changes = map (λ c. (c.0, neg_ℤ c.1)) changes

-- what moves the window to tick t: the changes that leave it, taken back, then those of tick t
abbrev pub step_to : ℕ → List (List (ℕ × ℤ)) → ℕ → List (ℕ × ℤ)
step_to width ticks t = withdrawn (changes_at ticks (t - width)) ++ changes_at ticks t

-- what moves it there from before the first tick
unfoldable pub up_to : ℕ → List (List (ℕ × ℤ)) → ℕ → List (ℕ × ℤ)
up_to width ticks t = flat_map (step_to width ticks) (range_with_len 1 t)

-- a log with the place after each tick
pub record Expansion : Type 0 where
  pub part : List (ℕ × ℤ)
  pub ends : List ℕ

-- the expanded log
abbrev pub expansion : ℕ → List (List (ℕ × ℤ)) → Expansion
expansion width ticks = record {
  part = up_to width ticks (length ticks);
  ends = map (λ t. length (up_to width ticks t)) (range_with_len 1 (length ticks));
}

-- the same, unless it has over 1,000,000 changes
abbrev pub fitting : Expansion → Result Expansion ExpandFault
fitting e = if nat_lt 1000000 (length e.part) then Err (TooLong (length e.part)) else Ok e

-- the log that a window of this width makes of some ticks, or that it is too long
abbrev pub expanded_of : ℕ → List (List (ℕ × ℤ)) → Result Expansion ExpandFault
expanded_of width ticks = fitting (expansion width ticks)

-- a fault is the one that is meant, but for want of memory
abbrev pub IsExpandFault : {A : Type 0} → ExpandFault → Result A ExpandFault → Type 0
IsExpandFault (TooLong n) meant = meant ≡ Err (TooLong n)
IsExpandFault NoMemory meant = Unit

-- ---- places and ticks

-- the place at which tick t ends; 0 for tick 0, which stands before the first
abbrev pub end_of : List ℕ → ℕ → ℕ
end_of ends t = slice_index_or (0 ∷ ends) t 0

-- the first tick that ends at a place
abbrev pub tick_ending : List ℕ → ℕ → Option ℕ
tick_ending ends place = position (λ e. e == place) (0 ∷ ends)

-- at the end of each tick a log sums to the window there, for every object
abbrev pub SumsToWindow : ℕ → List (List (ℕ × ℤ)) → List (ℕ × ℤ) → List ℕ → Type 0
SumsToWindow width ticks part ends = (t o : ℕ) → t ≤ length ticks → sum_for o (take (end_of ends t) part) ≡ window_sum width ticks t o
