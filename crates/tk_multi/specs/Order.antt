-- The events that an order file of several queries is.
use Rattle.std.specs.Prelude.{◌≡◌, ℕ, nat_le, if◌then◌else◌, List, [], ◌∷◌, ◌++◌, length, Option, Some, None, option_map, option_and_then, Result, Ok, Err, bytes_eq, codes}
use Rattle.std.specs.Str.Lines.{lines}
use Rattle.tk_base.specs.declared.ids.Mon.{Mon}
use Rattle.tk_input.specs.Order.{filled, number_in, numbered, words}
use Rattle.tk_input.specs.Records.{through}
use Rattle.tk_input.specs.declared.order.OrderFault.{OrderFault}
use Rattle.tk_input.specs.declared.order.OrderFault.TheVariants.{BadOrder, NoMemory}
use Rattle.tk_multi.specs.declared.event.MultiEvent.{MultiEvent}
use Rattle.tk_multi.specs.declared.event.MultiEvent.TheVariants.{Raise, Check, Up, Down}

-- the number of a query that a word of 1 or 2 digits without a leading zero writes
abbrev pub query_number : List ℕ → Option ℕ
query_number word = if nat_le (length word) 2 then number_in word else None

-- the raise of a monitor and a feeder
abbrev pub raise_in : List ℕ → List ℕ → Option MultiEvent
raise_in mon feeder = option_and_then (λ m. option_map (λ f. Raise (record { 0 = m }) (record { 0 = f })) (number_in feeder)) (number_in mon)

-- the event of a query and a monitor
abbrev pub event_at : (ℕ → Mon → MultiEvent) → List ℕ → List ℕ → Option MultiEvent
event_at make query mon = option_and_then (λ q. option_map (λ m. make q (record { 0 = m })) (number_in mon)) (query_number query)

-- the event of a verb and two words; only a raise is no query's
abbrev pub event_of_two : List ℕ → List ℕ → List ℕ → Option MultiEvent
event_of_two verb first second =
    if bytes_eq verb (codes "raise") then raise_in first second
    else (if bytes_eq verb (codes "check") then event_at Check first second
    else (if bytes_eq verb (codes "up") then event_at Up first second
    else (if bytes_eq verb (codes "down") then event_at Down first second
    else None)))

-- the event that the words of a line are
abbrev pub event_in : List (List ℕ) → Option MultiEvent
event_in [] = None
event_in (verb ∷ []) = None
event_in (verb ∷ first ∷ []) = None
event_in (verb ∷ first ∷ second ∷ []) = event_of_two verb first second
event_in (verb ∷ first ∷ second ∷ more ∷ rest) = None

-- events, and the number of the line of each
pub record MultiOrderView : Type 0 where
  pub events : List MultiEvent
  pub lines : List ℕ

-- these events, with the numbers of their lines
abbrev pub ordered : List MultiEvent → List ℕ → MultiOrderView
ordered events lines = record { events = events; lines = lines }

-- no event
abbrev pub nothing_ordered : MultiOrderView
nothing_ordered = record { events = []; lines = [] }

-- one more event, of line n
abbrev pub with_event : MultiOrderView → ℕ → MultiEvent → MultiOrderView
with_event before n event = record { events = before.events ++ event ∷ []; lines = before.lines ++ n ∷ [] }

-- the order before with the event of line n, or the fault of that line
abbrev pub event_taken : MultiOrderView → ℕ → Option MultiEvent → Result MultiOrderView OrderFault
event_taken before n None = Err (BadOrder n)
event_taken before n (Some event) = Ok (with_event before n event)

-- the order before with a line, or its fault
abbrev pub line_added : MultiOrderView → (ℕ × List ℕ) → Result MultiOrderView OrderFault
line_added before line = event_taken before line.0 (event_in (words line.1))

-- an order is the one before with a line
abbrev pub AddsLine : ℕ × List ℕ → MultiOrderView → MultiOrderView → Type 0
AddsLine line before after = line_added before line ≡ Ok after

-- the events of an order file with their lines, or its first line that is none
abbrev pub multi_order_of : List ℕ → Result MultiOrderView OrderFault
multi_order_of bytes = through line_added nothing_ordered (filled (numbered 1 (lines bytes)))

-- a fault is the one that is meant, but for want of memory
abbrev pub IsFault : OrderFault → Result MultiOrderView OrderFault → Type 0
IsFault (BadOrder n) meant = meant ≡ Err (BadOrder n)
IsFault NoMemory meant = Unit
