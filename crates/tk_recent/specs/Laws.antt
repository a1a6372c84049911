-- What holds of the streams whose old ticks are taken back.
use Rattle.std.specs.Prelude.{◌≡◌, ℕ, ℤ, List, length, All}
use Rattle.tk_input.specs.Logs.{IsObject, sum_for}
use Rattle.tk_window.specs.Ticks.{AreOver}
use Rattle.tk_window.specs.Window.{expansion, window_sum}
use Rattle.tk_recent.specs.Run.{run, told_to}

-- at the end of each tick what was told sums, for every object, to the window there
abbrev pub ValuesAreThoseOfTheWindow : Type 0
ValuesAreThoseOfTheWindow =
    (n width o : ℕ) (ticks : List (List (ℕ × ℤ)))
    → All (AreOver n) ticks → IsObject n o
    → sum_for o (run n width ticks).told ≡ window_sum width ticks (length ticks) o

-- as the expanded log of the same ticks does
abbrev pub SumsAreThoseOfTheExpandedLog : Type 0
SumsAreThoseOfTheExpandedLog =
    (n width o : ℕ) (ticks : List (List (ℕ × ℤ)))
    → All (AreOver n) ticks → IsObject n o
    → sum_for o (run n width ticks).told ≡ sum_for o (expansion width ticks).part

-- what is told is this, tick by tick
abbrev pub TicksAreToldInOrder : Type 0
TicksAreToldInOrder =
    (n width : ℕ) (ticks : List (List (ℕ × ℤ)))
    → All (AreOver n) ticks
    → (run n width ticks).told ≡ told_to n width ticks (length ticks)
