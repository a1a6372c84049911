-- Bytes on their way between frames and a wire.
use Rattle.std.specs.Prelude.{◌≡◌, ℕ, List, [], ◌++◌, length, drop, Bool, true, Result, Ok, Err}
use Rattle.tk_base.specs.declared.memory.NoMemory.{NoMemory}
use Rattle.tk_frames.specs.declared.answer.Next.{Next}
use Rattle.tk_frames.specs.declared.answer.Next.TheVariants.{Whole, Part, Bad}
use Rattle.tk_wire.specs.Meanings.{Traffic, Counts, Arrives, Departs, IsPiece, raised_by}
use Rattle.tk_wire.specs.declared.in_buffer.Pulled.{Pulled}
use Rattle.tk_wire.specs.declared.in_buffer.Pulled.TheVariants as pulled
use Rattle.tk_wire.specs.declared.out_buffer.Pushed.{Pushed}
use Rattle.tk_wire.specs.declared.out_buffer.Pushed.TheVariants as pushed

-- the bytes in a buffer, and the version in which it reads or writes frames
pub record Buffer : Type 0 where
  pub bytes : List ℕ
  pub version : ℕ

-- n bytes went from a wire to the end of the bytes
pub record Gains (n : ℕ) (tells : Bool) (old new : List ℕ) (before after : Traffic) : Type 0 where
  pub piece : List ℕ
  pub size : length piece ≡ n
  pub appended : new ≡ old ++ piece
  pub arrived : tells ≡ true → Arrives piece before after

-- some front of the bytes went to a wire
pub record Loses (tells : Bool) (old new : List ℕ) (before after : Traffic) : Type 0 where
  pub given : List ℕ
  pub front : old ≡ given ++ new
  pub departed : tells ≡ true → Departs given before after

-- the wire holds as many bytes as it has room for
abbrev pub IsFull : Traffic → Type 0
IsFull traffic = length traffic.held ≡ traffic.room

-- what a pull does to the bytes and to the wire: NotYet says that nothing waits there
abbrev pub Pulls : Pulled → Bool → List ℕ → List ℕ → Traffic → Traffic → Type 0
Pulls (pulled.Got n) tells old new before after = IsPiece n 4096 × Gains n tells old new before after
Pulls pulled.NotYet tells old new before after = (new ≡ old) × (tells ≡ true → (before.waiting ≡ []) × (after ≡ before))
Pulls pulled.End tells old new before after = (new ≡ old) × (tells ≡ true → after ≡ before)
Pulls pulled.Failed tells old new before after = (new ≡ old) × (tells ≡ true → after ≡ before)
Pulls pulled.NoMemory tells old new before after = (new ≡ old) × (tells ≡ true → after ≡ before)

-- the counts of the wire after a pull
abbrev pub counts_pulled : Pulled → Counts → Counts
counts_pulled (pulled.Got n) counts = record counts { taken = raised_by n counts.taken }
counts_pulled pulled.NotYet counts = counts
counts_pulled pulled.End counts = record counts { ends = raised_by 1 counts.ends }
counts_pulled pulled.Failed counts = record counts { faults = raised_by 1 counts.faults }
counts_pulled pulled.NoMemory counts = counts

-- the counts of the wire after a push
abbrev pub counts_pushed : Pushed → Counts → Counts
counts_pushed pushed.Empty counts = counts
counts_pushed pushed.NotYet counts = counts
counts_pushed pushed.Failed counts = record counts { faults = raised_by 1 counts.faults }

-- the bytes behind a whole frame that was answered, and all of them else
abbrev pub rest_of : Result Next NoMemory → List ℕ → List ℕ
rest_of (Ok (Whole frame size)) bytes = drop size bytes
rest_of (Ok Part) bytes = bytes
rest_of (Ok (Bad fault)) bytes = bytes
rest_of (Err e) bytes = bytes
