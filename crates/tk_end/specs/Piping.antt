-- What goes over the wire in memory of an end: `piece` is how many bytes its wire moves at once, `bearing` the wire with other
-- bytes on it.
use Rattle.std.specs.Prelude.{◌≡◌, ℕ, min, length, take, true, false}
use Rattle.tk_wire.specs.Meanings.{Traffic}
use Rattle.tk_wire.specs.Pipe.{Queue, free, with_more, without}
use Rattle.tk_wire.specs.PipeWire.{drained, filled, left_in}
use Rattle.tk_end.specs.Link.{LinkView, over}

-- bytes went from the front of the wire's outbox to the end of a pipe, as many as both let; none where the link is shut
pub record Drains {W : Type 0} (piece : W → ℕ) (bearing : Traffic → W → W) (moved : ℕ) (old new : LinkView W) (before now : Queue) : Type 0 where
  pub shut : old.shut ≡ true → moved ≡ 0
  pub value : old.shut ≡ false → moved ≡ min (piece old.wire) (min (length old.traffic.held) (free before))
  pub wire : new ≡ over bearing (drained moved old.traffic) old
  pub pipe : now ≡ with_more (take moved old.traffic.held) before

-- bytes went from the front of a pipe to the end of the wire's inbox, as many as both let; none where the link is shut
pub record Fills {W : Type 0} (piece : W → ℕ) (bearing : Traffic → W → W) (moved : ℕ) (old new : LinkView W) (before now : Queue) : Type 0 where
  pub shut : old.shut ≡ true → moved ≡ 0
  pub value : old.shut ≡ false → moved ≡ min (piece old.wire) (min (length before.bytes) (left_in old.traffic))
  pub wire : new ≡ over bearing (filled (take moved before.bytes) old.traffic) old
  pub pipe : now ≡ without moved before
