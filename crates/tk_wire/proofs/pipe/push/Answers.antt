use Rattle.tk_wire.proofs.QueueLemmas.{seen_after_push}
use Rattle.tk_wire.proofs.pipe.push.Goals as goal

pub returns-clause-bytes : goal.returns-clause-bytes
returns-clause-bytes c =
    seen_after_push _ _ _ _ _ _ _ _ _ _ c.slots_beside.ensures.consumer.1 c.slots_beside-2.ensures.looked.1 c.requires.ring.seen c.slots_beside.ensures.looked.1 c.in-Ok.ensures.ok.0 c.slots_beside-2.ensures.producer.1 c.slots_beside-2.ensures.fifo
