-- A net in memory and what it makes, as contracts see them.
use Rattle.std.specs.Prelude.{◌≡◌, ℕ, Bool, false, ◌+◌, ◌-◌, List, [], ◌∷◌, ◌++◌, ◌<◌, length, take, drop, slice_index, Option, Some, None, IfSome, Result, Ok, Err, ⊤}
use Rattle.tk_wire.specs.Meanings.{Counts}
use Rattle.tk_wire.specs.Net.{NetState}
use Rattle.tk_wire.specs.declared.wire.Took.{Took}
use Rattle.tk_wire.specs.declared.wire.Took.TheVariants as t
use Rattle.tk_wire.specs.declared.wire.Gave.{Gave}
use Rattle.tk_wire.specs.declared.wire.Gave.TheVariants as g
use Rattle.tk_wire.specs.declared.net.NetFault.{NetFault}
use Rattle.tk_wire.specs.declared.net.NetFault.TheVariants.{Failed, NoMemory}
use Rattle.tk_net.specs.Counting.{no_counts, new_net}

-- the numbers of the calls that fail, and the place of the byte that is turned
pub record PlanView : Type 0 where
  pub fails : List ℕ
  pub flip : Option ℕ

-- a net: its state, how many connections wait, the numbers of the calls that fail, and the place of the byte that is turned
pub record MemoryNet : Type 0 where
  pub state : NetState
  pub knocking : ℕ
  pub fails : List ℕ
  pub flip : Option ℕ

-- no call changes which calls fail and which byte is turned
pub record StaysSet (old new : MemoryNet) : Type 0 where
  pub fails : new.fails ≡ old.fails
  pub flip : new.flip ≡ old.flip

-- a link: its counts, whether it was shut, and the numbers of the calls of its net that fail
pub record MemoryLink : Type 0 where
  pub counts : Counts
  pub shut : Bool
  pub fails : List ℕ

-- a rest: how many of its calls failed, and the numbers of the calls of its net that fail
pub record MemoryRest : Type 0 where
  pub faults : ℕ
  pub fails : List ℕ

-- a net that was just made, which fails these calls and turns this byte
abbrev pub new_memory_net : List ℕ → Option ℕ → MemoryNet
new_memory_net fails flip = record { state = new_net; knocking = 0; fails = fails; flip = flip }

-- a link of a net that fails these calls, before any byte
abbrev pub new_memory_link : List ℕ → MemoryLink
new_memory_link fails = record { counts = no_counts; shut = false; fails = fails }

-- a rest of a net that fails these calls
abbrev pub new_memory_rest : List ℕ → MemoryRest
new_memory_rest fails = record { faults = 0; fails = fails }

-- a take that did not fail
abbrev pub DoesTake : Took → Type 0
DoesTake (t.Bytes n) = ⊤
DoesTake t.NotYet = ⊤
DoesTake t.End = ⊤
DoesTake t.Failed = ⊥

-- a give that did not fail
abbrev pub DoesGive : Gave → Type 0
DoesGive (g.Bytes n) = ⊤
DoesGive g.NotYet = ⊤
DoesGive g.Failed = ⊥

-- a call that worked, or found no memory
abbrev pub DoesWork : {A : Type 0} → Result A NetFault → Type 0
DoesWork (Ok x) = ⊤
DoesWork (Err Failed) = ⊥
DoesWork (Err NoMemory) = ⊤

-- the bytes that a take moved to the front of its slice
abbrev pub got : Took → List ℕ → List ℕ
got (t.Bytes n) slice = take n slice
got t.NotYet slice = []
got t.End slice = []
got t.Failed slice = []

-- the bytes that a give took over from the front of its slice
abbrev pub given : Gave → List ℕ → List ℕ
given (g.Bytes n) slice = take n slice
given g.NotYet slice = []
given g.Failed slice = []

-- the bytes with the one at this place turned into its complement
abbrev pub turned : Option ℕ → List ℕ → List ℕ
turned None bytes = bytes
turned (Some i) bytes = take i bytes ++ (255 - slice_index bytes i) ∷ drop (i + 1) bytes

-- what a give took over went on, but for one byte at most, which was turned
pub record GoesOn (gave : Gave) (slice old new : List ℕ) : Type 0 where
  pub place : Option ℕ
  pub within : IfSome place (λ i. i < length (given gave slice))
  pub sent : new ≡ old ++ turned place (given gave slice)
