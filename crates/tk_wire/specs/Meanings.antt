-- The bytes that pass over a wire, its counts, and what each call does to them.
use Rattle.std.specs.Prelude.{◌≡◌, ℕ, ◌+◌, ◌-◌, ◌^◌, ◌<◌, ◌≤◌, min, List, [], ◌++◌, length, take, ⊤}
use Rattle.tk_wire.specs.declared.wire.Took.{Took}
use Rattle.tk_wire.specs.declared.wire.Took.TheVariants as t
use Rattle.tk_wire.specs.declared.wire.Gave.{Gave}
use Rattle.tk_wire.specs.declared.wire.Gave.TheVariants as g

-- all bytes that were taken, those that wait to be taken, all that were given, those of them that the wire still
-- holds, and how many it holds at most
pub record Traffic : Type 0 where
  pub came : List ℕ
  pub waiting : List ℕ
  pub went : List ℕ
  pub held : List ℕ
  pub room : ℕ

-- how many calls failed, how many takes found the end, and how many bytes were taken
pub record Counts : Type 0 where
  pub faults : ℕ
  pub ends : ℕ
  pub taken : ℕ

-- a count after n more, which stands still at the greatest u64
abbrev pub raised_by : ℕ → ℕ → ℕ
raised_by n count = min (count + n) (2 ^ 64 - 1)

-- a count rose, unless it stood at the greatest u64
abbrev pub HasRisen : ℕ → ℕ → Type 0
HasRisen old new = old < 2 ^ 64 - 1 → old < new

-- the counts after a take
abbrev pub counts_taken : Took → Counts → Counts
counts_taken (t.Bytes n) counts = record counts { taken = raised_by n counts.taken }
counts_taken t.NotYet counts = counts
counts_taken t.End counts = record counts { ends = raised_by 1 counts.ends }
counts_taken t.Failed counts = record counts { faults = raised_by 1 counts.faults }

-- the counts after a give
abbrev pub counts_given : Gave → Counts → Counts
counts_given (g.Bytes n) counts = counts
counts_given g.NotYet counts = counts
counts_given g.Failed counts = record counts { faults = raised_by 1 counts.faults }

-- at least one byte, and no more than there are places
abbrev pub IsPiece : ℕ → ℕ → Type 0
IsPiece n size = (0 < n) × (n ≤ size)

-- how many bytes a take moves into a slice of this length
abbrev pub FitsSlice : Took → ℕ → Type 0
FitsSlice (t.Bytes n) size = IsPiece n size
FitsSlice t.NotYet size = ⊤
FitsSlice t.End size = ⊤
FitsSlice t.Failed size = ⊤

-- how many of so many bytes a give moves
abbrev pub FitsBytes : Gave → ℕ → Type 0
FitsBytes (g.Bytes n) size = IsPiece n size
FitsBytes g.NotYet size = ⊤
FitsBytes g.Failed size = ⊤

-- these bytes went from the front of what waits to the end of what came
pub record Arrives (bytes : List ℕ) (old new : Traffic) : Type 0 where
  pub waiting : old.waiting ≡ bytes ++ new.waiting
  pub came : new.came ≡ old.came ++ bytes
  pub went : new.went ≡ old.went
  pub held : new.held ≡ old.held
  pub room : new.room ≡ old.room

-- these bytes went to the end of what went and of what is held
pub record Departs (bytes : List ℕ) (old new : Traffic) : Type 0 where
  pub went : new.went ≡ old.went ++ bytes
  pub held : new.held ≡ old.held ++ bytes
  pub came : new.came ≡ old.came
  pub waiting : new.waiting ≡ old.waiting
  pub room : new.room ≡ old.room

-- what a take does where bytes are told, the slice being as it is afterwards: NotYet says that nothing waits
abbrev pub Takes : Took → List ℕ → Traffic → Traffic → Type 0
Takes (t.Bytes n) slice old new = Arrives (take n slice) old new
Takes t.NotYet slice old new = (old.waiting ≡ []) × (new ≡ old)
Takes t.End slice old new = new ≡ old
Takes t.Failed slice old new = new ≡ old

-- what a give of these bytes does where bytes are told: NotYet says that no room is left
abbrev pub Gives : Gave → List ℕ → Traffic → Traffic → Type 0
Gives (g.Bytes n) bytes old new = Departs (take n bytes) old new
Gives g.NotYet bytes old new = (length old.held ≡ old.room) × (new ≡ old)
Gives g.Failed bytes old new = new ≡ old
