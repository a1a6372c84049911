use Rattle.std.proofs.Common.{sum_by}
use Rattle.tk_live.specs.Carried.{HasTaken}
use Rattle.tk_live.proofs.returning.give_back.Given as goal

-- the bytes of the links passed were counted
abbrev pub invariant-loop-wire : goal.invariant-loop-wire
invariant-loop-wire g l =
    HasTaken (g.N.Net.state l.fn.net) (g.N.Net.state l.net) (sum_by (λ wire. (g.N.Link.Wire.counts wire).taken) l.yielded)
