-- A wire in memory, as contracts see it.
use Rattle.std.specs.Prelude.{◌≡◌, ℕ, ◌-◌, ◌==◌, min, List, [], length, drop, ◌++◌, Bool, false, if◌then◌else◌}
use Rattle.std.specs.List.{list_any}
use Rattle.tk_wire.specs.Meanings.{Traffic, Counts, raised_by}
use Rattle.tk_wire.specs.declared.wire.Took.{Took}
use Rattle.tk_wire.specs.declared.wire.Took.TheVariants as t
use Rattle.tk_wire.specs.declared.wire.Gave.{Gave}
use Rattle.tk_wire.specs.declared.wire.Gave.TheVariants as g

-- its bytes and counts, how many bytes a call moves at most, the numbers of the calls that fail, how many calls
-- there were, whether it is closed, and whether it was shut
pub record MemoryWire : Type 0 where
  pub traffic : Traffic
  pub counts : Counts
  pub piece : ℕ
  pub fails : List ℕ
  pub calls : ℕ
  pub closed : Bool
  pub shut : Bool

-- a new one
abbrev pub new_wire : ℕ → ℕ → List ℕ → MemoryWire
new_wire room piece fails = record {
  traffic = record { came = []; waiting = []; went = []; held = []; room = room };
  counts = record { faults = 0; ends = 0; taken = 0 };
  piece = piece;
  fails = fails;
  calls = 0;
  closed = false;
  shut = false;
}

-- whether the next take or give fails, by its number
abbrev pub refuses : MemoryWire → Bool
refuses w = list_any (λ i. i == raised_by 1 w.calls) w.fails

-- what the next take into a slice of this length answers
abbrev pub took_of : ℕ → MemoryWire → Took
took_of size w =
    if refuses w then t.Failed else (if length w.traffic.waiting == 0 then (if w.closed then t.End else t.NotYet)
    else t.Bytes (min (min size w.piece) (length w.traffic.waiting)))

-- what the next give of so many bytes answers
abbrev pub gave_of : ℕ → MemoryWire → Gave
gave_of size w =
    if refuses w then g.Failed else (if length w.traffic.held == w.traffic.room then g.NotYet
    else g.Bytes (min (min size w.piece) (w.traffic.room - length w.traffic.held)))

-- how many more bytes its inbox has room for
abbrev pub left_in : Traffic → ℕ
left_in t = t.room - length t.waiting

-- the wire after it has counted a call
abbrev pub called : MemoryWire → MemoryWire
called w = record w {
  calls = raised_by 1 w.calls;
  counts = record w.counts { faults = if refuses w then raised_by 1 w.counts.faults else w.counts.faults };
}

-- a take or a give counts as one call, and leaves what the wire was made with
pub record StaysSet (old new : MemoryWire) : Type 0 where
  pub calls : new.calls ≡ raised_by 1 old.calls
  pub piece : new.piece ≡ old.piece
  pub fails : new.fails ≡ old.fails
  pub closed : new.closed ≡ old.closed
  pub shut : new.shut ≡ old.shut

-- the wire with other bytes on it
abbrev pub with_traffic : Traffic → MemoryWire → MemoryWire
with_traffic traffic w = record w { traffic = traffic }

-- the first n bytes left the outbox
abbrev pub drained : ℕ → Traffic → Traffic
drained n t = record t { held = drop n t.held }

-- these bytes came to the end of the inbox
abbrev pub filled : List ℕ → Traffic → Traffic
filled bytes t = record t { waiting = t.waiting ++ bytes }
