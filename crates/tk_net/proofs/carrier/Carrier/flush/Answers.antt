use Rattle.tk_net.proofs.CableLemmas.{writes_more}
use Rattle.tk_net.proofs.carrier.Carrier.flush.Goals as goal

pub loop-self-preserved : goal.loop-self-preserved
loop-self-preserved g c =
    writes_more c.in-Bytes.count c.args.self.now.outlet c.loop-self.self.outlet c.remove.new.self c.loop-self.invariant c.remove.ensures
