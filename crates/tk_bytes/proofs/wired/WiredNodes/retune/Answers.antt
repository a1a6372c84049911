use Rattle.tk_bytes.proofs.WiredLemmas.{retuned_by}
use Rattle.tk_bytes.proofs.wired.WiredNodes.retune.Goals as goal

pub retune-requires : goal.retune-requires
retune-requires c = c.self.invariant.going

pub invariant_of-self : goal.invariant_of-self
invariant_of-self c =
    retuned_by c.self.inside.hub c.retune.new.self c.self.inside.lines.items c.args.k c.args.epsilon c.retune.result c.self.invariant c.retune.ensures.kept c.retune.ensures.rest c.retune.ensures.settings
    c.retune.ensures.ok c.retune.ensures.turn c.retune.ensures.err
