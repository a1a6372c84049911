-- What a pipe shows of its ring. No public clause cites it.
use Rattle.rtrb.specs.Ring.{received, known_items, producer_capacity}
use Rattle.tk_wire.specs.Pipe.{Queue}
use Rattle.tk_wire.specs.Ring.{IsRing}
use Rattle.tk_wire.specs.declared.pipe.Pipe.TheInside.{Inside}

-- the bytes popped, those the reader has seen, and the room
abbrev pub queue_of : Inside → Queue
queue_of p = record {
  past = received p.consumer;
  bytes = known_items p.consumer;
  room = producer_capacity p.producer;
}

-- its two ends are those of one ring
abbrev pub IsPipe : Inside → Type 0
IsPipe p = IsRing p.producer p.consumer
