-- The events that an order file is.
use Rattle.std.specs.Prelude.{◌≡◌, ℕ, ◌+◌, ◌-◌, ◌^◌, min, Bool, false, not, ◌&&◌, ◌==◌, nat_le, nat_lt, if◌then◌else◌, List, [], ◌∷◌, ◌++◌, length, filter, Option, Some, None, IsSome, IsTrue, is_ok, option_map, option_and_then, Result, Ok, Err, bytes_eq, codes}
use Rattle.std.specs.List.{slice_split}
use Rattle.std.specs.Str.Lines.{lines}
use Rattle.tk_input.specs.Records.{through}
use Rattle.tk_base.specs.declared.ids.Mon.{Mon}
use Rattle.tk_base.specs.declared.memory.NoMemory.{NoMemory}
use Rattle.tk_base.specs.Digits.{digits_in, short_in}
use Rattle.tk_input.specs.declared.event.Event.{Event}
use Rattle.tk_input.specs.declared.event.Event.TheVariants.{Raise, Check, Up, Down, Retune}
use Rattle.tk_input.specs.declared.order.OrderFault.{OrderFault}
use Rattle.tk_input.specs.declared.order.OrderFault.TheVariants.{BadOrder, NoMemory as OutOfMemory}

-- a word has 1 to 3 bytes, and does not begin with a zero
abbrev pub is_short : List ℕ → Bool
is_short [] = false
is_short (c ∷ rest) = not (c == 48) && nat_le (length rest) 2

-- the number that a word of 1 to 3 digits without a leading zero writes
abbrev pub number_in : List ℕ → Option ℕ
number_in word = if is_short word then digits_in word else None

-- the event of a monitor that a word names
abbrev pub event_at : (Mon → Event) → List ℕ → Option Event
event_at make word = option_map (λ n. make (record { 0 = n })) (number_in word)

-- the raise of a monitor and a feeder
abbrev pub raise_at : List ℕ → List ℕ → Option Event
raise_at mon feeder = option_and_then (λ m. option_map (λ f. Raise (record { 0 = m }) (record { 0 = f })) (number_in feeder)) (number_in mon)

-- the retune to a k and an epsilon, the latter of 1 to 38 decimal digits
abbrev pub retune_at : List ℕ → List ℕ → Option Event
retune_at k epsilon = option_and_then (λ asked. option_map (λ e. Retune (record { k = asked; epsilon = e })) (digits_in epsilon)) (short_in k)

-- the event of a verb and one word
abbrev pub event_of_one : List ℕ → List ℕ → Option Event
event_of_one verb mon =
    if bytes_eq verb (codes "check") then event_at Check mon
    else (if bytes_eq verb (codes "up") then event_at Up mon
    else (if bytes_eq verb (codes "down") then event_at Down mon
    else None))

-- the event of a verb and two words
abbrev pub event_of_two : List ℕ → List ℕ → List ℕ → Option Event
event_of_two verb first second =
    if bytes_eq verb (codes "raise") then raise_at first second
    else (if bytes_eq verb (codes "retune") then retune_at first second
    else None)

-- the event that the words of a line are
abbrev pub event_in : List (List ℕ) → Option Event
event_in [] = None
event_in (verb ∷ []) = None
event_in (verb ∷ mon ∷ []) = event_of_one verb mon
event_in (verb ∷ first ∷ second ∷ []) = event_of_two verb first second
event_in (verb ∷ first ∷ second ∷ more ∷ rest) = None

-- the words of a line, parted by single spaces
abbrev pub words : List ℕ → List (List ℕ)
words line = slice_split (λ b. b == 32) line

-- the number after n, which stands still at the greatest u32
abbrev pub number_after : ℕ → ℕ
number_after n = min (n + 1) (2 ^ 32 - 1)

-- lines with their numbers, from n on
abbrev pub numbered : ℕ → List (List ℕ) → List (ℕ × List ℕ)
numbered n [] = []
numbered n (line ∷ rest) = (n, line) ∷ numbered (number_after n) rest

-- the lines of a file that are not empty, with their numbers
abbrev pub filled : List (ℕ × List ℕ) → List (ℕ × List ℕ)
filled lines = filter (λ line. nat_lt 0 (length line.1)) lines

-- what is left behind the line of this number
abbrev pub left_after : ℕ → List ℕ → List (ℕ × List ℕ)
left_after number rest = filled (numbered (number_after number) (lines rest))

-- events, and the number of the line of each
pub record OrderView : Type 0 where
  pub events : List Event
  pub lines : List ℕ

-- these events, with the numbers of their lines
abbrev pub ordered : List Event → List ℕ → OrderView
ordered events lines = record { events = events; lines = lines }

-- no event
abbrev pub nothing_ordered : OrderView
nothing_ordered = record { events = []; lines = [] }

-- one more event, of line n
abbrev pub with_event : OrderView → ℕ → Event → OrderView
with_event before n event = record { events = before.events ++ event ∷ []; lines = before.lines ++ n ∷ [] }

-- the order before with the event of line n, or the fault of that line
abbrev pub event_taken : OrderView → ℕ → Option Event → Result OrderView OrderFault
event_taken before n None = Err (BadOrder n)
event_taken before n (Some event) = Ok (with_event before n event)

-- the order before with a line, or its fault
abbrev pub line_added : OrderView → (ℕ × List ℕ) → Result OrderView OrderFault
line_added before line = event_taken before line.0 (event_in (words line.1))

-- an order is the one before with a line
abbrev pub AddsLine : ℕ × List ℕ → OrderView → OrderView → Type 0
AddsLine line before after = line_added before line ≡ Ok after

-- the events of an order file with their lines, or its first line that is none
abbrev pub order_of : List ℕ → Result OrderView OrderFault
order_of bytes = through line_added nothing_ordered (filled (numbered 1 (lines bytes)))

-- what a line was read as is what it means; memory is wanted only where it means an event
abbrev pub IsReadAs : Option (Result Event NoMemory) → Option Event → Type 0
IsReadAs None meant = meant ≡ None
IsReadAs (Some (Ok event)) meant = meant ≡ Some event
IsReadAs (Some (Err no_room)) meant = IsSome meant

-- the fault of a line is the one that is meant; memory is wanted only where there is none
abbrev pub IsLineFault : {A : Type 0} → OrderFault → Result A OrderFault → Type 0
IsLineFault (BadOrder n) meant = meant ≡ Err (BadOrder n)
IsLineFault OutOfMemory meant = IsTrue (is_ok meant)

-- a fault is the one that is meant, but for want of memory
abbrev pub IsFault : {A : Type 0} → OrderFault → Result A OrderFault → Type 0
IsFault (BadOrder n) meant = meant ≡ Err (BadOrder n)
IsFault OutOfMemory meant = Unit
