-- The events and restarts that an order of sessions is, and the stretches that the restarts part.
use Rattle.std.specs.Prelude.{◌≡◌, ℕ, ◌≤◌, Bool, true, false, nat_lt, if◌then◌else◌, List, [], ◌∷◌, ◌++◌, map, filter_map, count_by, Option, Some, None, IsSome, option_map, Result, Ok, Err, bytes_eq, codes}
use Rattle.std.specs.List.{slice_split}
use Rattle.std.specs.Str.Lines.{lines}
use Rattle.tk_base.specs.declared.memory.NoMemory.{NoMemory}
use Rattle.tk_input.specs.Order.{event_in, filled, numbered, words}
use Rattle.tk_input.specs.Records.{through}
use Rattle.tk_input.specs.declared.event.Event.{Event}
use Rattle.tk_input.specs.declared.order.OrderFault.{OrderFault}
use Rattle.tk_input.specs.declared.order.OrderFault.TheVariants.{BadOrder}
use Rattle.tk_session.specs.declared.session_line.SessionLine.{SessionLine}
use Rattle.tk_session.specs.declared.session_line.SessionLine.TheVariants.{Step, Restart}

-- ---- what a line is

-- the restart or the event that a line is
abbrev pub line_in : List ℕ → Option SessionLine
line_in line = if bytes_eq line (codes "restart") then Some Restart else option_map Step (event_in (words line))

-- whether a line is a restart
abbrev pub is_restart : SessionLine → Bool
is_restart (Step event) = false
is_restart Restart = true

-- the event of a line that is no restart
abbrev pub event_of : SessionLine → Option Event
event_of (Step event) = Some event
event_of Restart = None

-- ---- what a file is

-- what the lines of an order are, without their numbers
abbrev pub lines_of : List (ℕ × SessionLine) → List SessionLine
lines_of order = map (λ line. line.1) order

-- the numbers of the lines of an order
abbrev pub numbers_of : List (ℕ × SessionLine) → List ℕ
numbers_of order = map (λ line. line.0) order

-- how many restarts there are
abbrev pub restarts_in : List (ℕ × SessionLine) → ℕ
restarts_in order = count_by is_restart (lines_of order)

-- an order with at most 15 restarts; the 16th is the fault of its line
abbrev pub within_limit : ℕ → List (ℕ × SessionLine) → Result (List (ℕ × SessionLine)) OrderFault
within_limit n order = if nat_lt 15 (restarts_in order) then Err (BadOrder n) else Ok order

-- the order before with what line n is, or the fault of that line
abbrev pub line_taken : List (ℕ × SessionLine) → ℕ → Option SessionLine → Result (List (ℕ × SessionLine)) OrderFault
line_taken before n None = Err (BadOrder n)
line_taken before n (Some line) = within_limit n (before ++ (n, line) ∷ [])

-- the order before with a line, or its fault
abbrev pub line_added : List (ℕ × SessionLine) → (ℕ × List ℕ) → Result (List (ℕ × SessionLine)) OrderFault
line_added before line = line_taken before line.0 (line_in line.1)

-- the events and restarts of an order of sessions with their lines, or its first line that is none
abbrev pub session_order_of : List ℕ → Result (List (ℕ × SessionLine)) OrderFault
session_order_of bytes = through line_added [] (filled (numbered 1 (lines bytes)))

-- ---- what its restarts part

-- the stretches of an order: its events before, between and behind its restarts
abbrev pub stretches : List SessionLine → List (List Event)
stretches lines = map (filter_map event_of) (slice_split is_restart lines)

-- ---- inside

-- what a line was read as is what it means; memory is wanted only where it means something
abbrev pub IsReadAs : Option (Result SessionLine NoMemory) → Option SessionLine → Type 0
IsReadAs None meant = meant ≡ None
IsReadAs (Some (Ok line)) meant = meant ≡ Some line
IsReadAs (Some (Err no_room)) meant = IsSome meant

-- so many of the lines are restarts, and no more than may be
pub record HasRestarts (order : List (ℕ × SessionLine)) (restarts : ℕ) : Type 0 where
  pub is : restarts ≡ restarts_in order
  pub most : restarts ≤ 15
