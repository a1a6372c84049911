-- What holds of windows over expanded logs.
use Rattle.std.specs.Prelude.{ℕ, ℤ, ◌≡◌, List, Some}
use Rattle.tk_input.specs.Logs.{IsValid, total}
use Rattle.tk_window.specs.TickEnds.{ticks_at}
use Rattle.tk_window.specs.Validity.{IsWindowValid, expanded_ends, expanded_logs, window_total}

-- a cut at which ticks end has the totals of the windows at these ticks
abbrev pub TotalsAreThoseOfTheWindows : Type 0
TotalsAreThoseOfTheWindows =
    (width o : ℕ) (logs : List (List (List (List (ℕ × ℤ))))) (cut ticks : List (List ℕ))
    → ticks_at (expanded_ends width logs) cut ≡ Some ticks
    → total (expanded_logs width logs) o cut ≡ window_total width logs o ticks

-- a set that is valid at such a cut is valid for the windows
abbrev pub ValidSetIsValidForTheWindows : Type 0
ValidSetIsValidForTheWindows =
    (width n k : ℕ) (epsilon : ℤ) (logs : List (List (List (List (ℕ × ℤ))))) (cut ticks : List (List ℕ)) (set : List ℕ)
    → ticks_at (expanded_ends width logs) cut ≡ Some ticks
    → IsValid (expanded_logs width logs) n k epsilon cut set → IsWindowValid width logs n k epsilon ticks set
