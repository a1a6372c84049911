-- Both ends of a ring in one hand. No public clause cites it.
use Rattle.std.specs.Prelude.{◌≡◌, ℕ, ◌≤◌, ◌++◌, length}
use Rattle.rtrb.specs.declared.producer.Producer.{Producer}
use Rattle.rtrb.specs.declared.consumer.Consumer.{Consumer}
use Rattle.rtrb.specs.Ring.{IsPair, sent, received, known_items, producer_capacity}

-- the two ends of one ring, whose reader has seen all that is in it
pub record IsRing {A P : Type 0} (producer : Producer ℕ A P) (consumer : Consumer ℕ A P) : Type 0 where
  pub pair : IsPair producer consumer
  pub seen : received consumer ++ known_items consumer ≡ sent producer
  pub fits : length (known_items consumer) ≤ producer_capacity producer
