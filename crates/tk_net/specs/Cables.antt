-- What contracts see of a cable and of its two ways.
use Rattle.std.specs.Prelude.{◌≡◌, ℕ, ◌+◌, List, [], ◌++◌, drop, length, min, take, ⊤}
use Rattle.tk_wire.specs.declared.wire.Gave.{Gave}
use Rattle.tk_wire.specs.declared.wire.Gave.TheVariants as gave
use Rattle.tk_wire.specs.declared.wire.Took.{Took}
use Rattle.tk_wire.specs.declared.wire.Took.TheVariants as took
use Rattle.tk_net.specs.Chunks.{chunk_of, held_in}
use Rattle.tk_net.specs.declared.chunk.Front.{Front}
use Rattle.tk_net.specs.declared.chunk.Front.TheVariants as front

-- what came: the bytes of a chunk that are not taken yet, those behind it that are not read, and for how many more there is room
pub record InletView : Type 0 where
  pub held : List ℕ
  pub unread : List ℕ
  pub room : ℕ

-- so many bytes of the open chunk went to the front of a slice
pub record HandsOut (count : ℕ) (old new : InletView) (before after : List ℕ) : Type 0 where
  pub size : count ≡ min (length before) (length old.held)
  pub bytes : take count after ≡ take count old.held
  pub held : new.held ≡ drop count old.held
  pub unread : new.unread ≡ old.unread

-- what was read of the bytes that came: the bytes of a chunk are opened, and a pulse is dropped
abbrev pub Opens : Front → InletView → InletView → Type 0
Opens (front.Part size) old new = new ≡ old
Opens front.Pulse old new = (new.held ≡ []) × (new.unread ≡ drop 2 old.unread)
Opens (front.Chunk n) old new = (new.held ≡ held_in n old.unread) × (new.unread ≡ drop (6 + n) old.unread)
Opens front.Bad old new = new ≡ old

-- these many bytes came behind the others
abbrev pub Fills : Took → InletView → InletView → Type 0
Fills (took.Bytes n) old new =
    (new.held ≡ old.held) × ((piece : List ℕ) × (length piece ≡ n) × (new.unread ≡ old.unread ++ piece))
Fills took.NotYet old new = (new.held ≡ old.held) × (new.unread ≡ old.unread)
Fills took.End old new = (new.held ≡ old.held) × (new.unread ≡ old.unread)
Fills took.Failed old new = (new.held ≡ old.held) × (new.unread ≡ old.unread)

-- some front of the bytes was written
abbrev pub Writes : List ℕ → List ℕ → Type 0
Writes old new = (written : List ℕ) × (old ≡ written ++ new)

-- what was to be written before, and a chunk of the bytes that were taken over, were written or are left. A give that failed
-- leaves a link that is lost
abbrev pub Carries : Gave → List ℕ → List ℕ → List ℕ → Type 0
Carries (gave.Bytes n) bytes old new = Writes (old ++ chunk_of (take n bytes)) new
Carries gave.NotYet bytes old new = Writes old new
Carries gave.Failed bytes old new = ⊤
