use Rattle.tk_net.proofs.CableLemmas.{carries}
use Rattle.tk_net.proofs.carrier.Carrier.give.Goals as goal

pub returns-in-All-flush : goal.returns-in-All-flush
returns-in-All-flush g c =
    record {
      fits = c.put_chunk-count.ensures.count;
      carries = carries c.put_chunk-count.result c.args.bytes.now c.args.self.now.outlet c.flush.new.self.outlet c.put_chunk-count.new.self c.flush-2.new.self.outlet c.flush.ensures.writes (c.flush.ensures.all c.in-All.is) c.put_chunk-count.ensures.chunk c.flush-2.ensures.writes;
    }
