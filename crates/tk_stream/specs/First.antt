-- The first record or tick of some lines, or the first fault in them.
use Rattle.std.specs.Prelude.{ℕ, ◌+◌, ◌-◌, ◌^◌, min, Bool, true, false, List, [], ◌∷◌, Option, Some, None, Result, Ok, Err}
use Rattle.tk_input.specs.Files.{one_more}
use Rattle.tk_stream.specs.Line.{line_of}
use Rattle.tk_stream.specs.declared.line_fault.LineFault.{LineFault}
use Rattle.tk_window.specs.Ticks.{Entry}

-- a record or a tick, the end, or the fault of a bad line; with the number of the last line, how many bad ones were skipped, and the
-- lines that are left
pub record Found : Type 0 where
  pub what : Result (Option Entry) LineFault
  pub number : ℕ
  pub skipped : ℕ
  pub left : List (List ℕ)

-- the number of the next line, which stays at the greatest u32
abbrev pub next_number : ℕ → ℕ
next_number number = min (number + 1) (2 ^ 32 - 1)

-- what is found at a line of this number that is so: what comes behind it where it is empty, and behind a bad one that is
-- skipped; else what it is, and the lines left
abbrev pub found_at : Bool → Option (Result Entry LineFault) → ℕ → ℕ → List (List ℕ) → Found → Found → Found
found_at skips None number skipped left behind skipping = behind
found_at skips (Some (Ok entry)) number skipped left behind skipping =
    record { what = Ok (Some entry); number = number; skipped = skipped; left = left }
found_at true (Some (Err fault)) number skipped left behind skipping = skipping
found_at false (Some (Err fault)) number skipped left behind skipping =
    record { what = Err fault; number = number; skipped = skipped; left = left }

-- the first record or tick of some lines over these names, or their first fault, behind so many lines and skipped ones; lines
-- count with the empty ones
unfoldable pub first_of : Bool → List (List ℕ) → Bool → ℕ → ℕ → List (List ℕ) → Found
first_of ticks names skips number skipped [] = record { what = Ok None; number = number; skipped = skipped; left = [] }
first_of ticks names skips number skipped (line ∷ left) =
    found_at skips (line_of ticks names line) (next_number number) skipped left
    (first_of ticks names skips (next_number number) skipped left)
    (first_of ticks names skips (next_number number) (one_more skipped) left)
