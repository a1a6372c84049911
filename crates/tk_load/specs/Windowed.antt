-- A window over an input: the logs in ticks that its files hold, and that the input's logs are what the window makes of them.
use Rattle.std.specs.Prelude.{ℕ, ℤ, ◌≡◌, ◌==◌, List, [], filter, map, All, Option, Some, None, Result, Ok, Err}
use Rattle.std.specs.List.{range_with_len}
use Rattle.tk_input.specs.declared.part.PartFault.{PartFault}
use Rattle.tk_load.specs.Input.{File, ReadWords, greatest_monitor}
use Rattle.tk_load.specs.declared.input.Input.{Input}
use Rattle.tk_window.specs.Ticks.{ticked_of}
use Rattle.tk_window.specs.Validity.{expanded_ends, expanded_logs}

-- the ticks that were found, or none where there was a fault
abbrev pub ticks_or_none : Result (List (List (ℕ × ℤ))) PartFault → List (List (ℕ × ℤ))
ticks_or_none (Ok ticks) = ticks
ticks_or_none (Err fault) = []

-- the ticks of a log over these names, of its file's content; none where it could not be read
abbrev pub ticks_from : List (List ℕ) → Option (List ℕ) → List (List (ℕ × ℤ))
ticks_from names None = []
ticks_from names (Some bytes) = ticks_or_none (ticked_of names bytes)

-- the logs of a monitor in ticks, in the order of the words
abbrev pub ticked_row : List (List ℕ) → List (ℕ × File) → ℕ → List (List (List (ℕ × ℤ)))
ticked_row names logs mon = map (λ log. ticks_from names log.1.content) (filter (λ log. log.0 == mon) logs)

-- those of each monitor
abbrev pub ticked_rows : List (List ℕ) → List (ℕ × File) → List (List (List (List (ℕ × ℤ))))
ticked_rows names logs = map (ticked_row names logs) (range_with_len 1 (greatest_monitor logs))

-- a file was read, and is a log in ticks over these names
pub record IsTicked (names : List (List ℕ)) (file : File) : Type 0 where
  pub bytes : List ℕ
  pub read : file.content ≡ Some bytes
  pub ticks : ticked_of names bytes ≡ Ok (ticks_from names file.content)

-- a window of this width goes over the logs of an input: each file of the words is a log in ticks, and the input has
-- these logs expanded, and where their ticks end
pub record IsWindowedOver (width : ℕ) (words : ReadWords) (input : Input) : Type 0 where
  pub files : All (λ log. IsTicked input.names log.1) words.logs
  pub logs : input.logs.logs ≡ expanded_logs width (ticked_rows input.names words.logs)
  pub ends : input.ends ≡ Some (expanded_ends width (ticked_rows input.names words.logs))
