-- What a monitor says first on a connection between hosts, as bytes.
use Rattle.std.specs.Prelude.{◌≡◌, ℕ, ◌-◌, ◌*◌, ◌^◌, ◌<◌, ◌≤◌, List, [], ◌∷◌, ◌++◌, length, replicate}
use Rattle.std.specs.List.{flat_map, AllByRecursion}
use Rattle.byteorder.specs.Endian.{big_bytes}
use Rattle.tk_wire.specs.declared.beginning.Beginning.{Beginning}
use Rattle.tk_wire.specs.declared.greeting.Greeting.{Greeting}

-- the four bytes `TKC1`
abbrev pub greeting_mark : List ℕ
greeting_mark = 84 ∷ 75 ∷ 67 ∷ 49 ∷ []

-- a number in so many bytes, the highest first
unfoldable pub number_bytes : ℕ → ℕ → List ℕ
number_bytes size n = big_bytes size n

-- a count in 8 bytes, and a place in 4
abbrev pub beginning_bytes : Beginning → List ℕ
beginning_bytes b = number_bytes 8 b.count ++ number_bytes 4 b.start

-- beginnings, and 0 in the places of those that are less than 8
abbrev pub beginnings_bytes : List Beginning → List ℕ
beginnings_bytes bs = flat_map beginning_bytes bs ++ replicate (96 - 12 * length bs) 0

-- the mark, the run in 8 bytes, the monitor in 4, the number of streams in one, and the beginnings of the streams
abbrev pub greeting_bytes : Greeting → List ℕ
greeting_bytes g =
    greeting_mark ++ (number_bytes 8 g.run ++ (number_bytes 4 g.mon.0 ++ (length g.beginnings.items ∷ beginnings_bytes g.beginnings.items)))

-- both numbers are within their types
abbrev pub IsBeginning : Beginning → Type 0
IsBeginning b = (b.count < 2 ^ 64) × (b.start < 2 ^ 32)

-- a monitor from 1 to 64
abbrev pub NamesMonitor : Greeting → Type 0
NamesMonitor g = (0 < g.mon.0) × (g.mon.0 ≤ 64)

-- from 1 to 8 streams
abbrev pub TellsStreams : Greeting → Type 0
TellsStreams g = (0 < length g.beginnings.items) × (length g.beginnings.items ≤ 8)

-- a monitor from 1 to 64 with 1 to 8 streams, and each number is within its type
pub record IsGreeting (g : Greeting) : Type 0 where
  pub monitor : NamesMonitor g
  pub streams : TellsStreams g
  pub run : g.run < 2 ^ 64
  pub each : AllByRecursion IsBeginning g.beginnings.items

-- the bytes are those of the greeting, which has its form
pub record GreetingIn (bytes : List ℕ) (g : Greeting) : Type 0 where
  pub form : IsGreeting g
  pub bytes_are : bytes ≡ greeting_bytes g

-- two greetings say the same
pub record SaysTheSame (g h : Greeting) : Type 0 where
  pub run : g.run ≡ h.run
  pub mon : g.mon ≡ h.mon
  pub beginnings : g.beginnings.items ≡ h.beginnings.items
