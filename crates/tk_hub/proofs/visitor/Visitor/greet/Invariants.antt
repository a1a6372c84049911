use Rattle.std.proofs.Common.{length, ◌-◌}
use Rattle.tk_hub.specs.Visitor.{Gathers, IsSteady}
use Rattle.tk_hub.proofs.visitor.Visitor.greet.Given as goal

-- only pieces came, and the wire neither failed nor ended
abbrev pub invariant-loop-greeting : goal.invariant-loop-greeting
invariant-loop-greeting g l = record {
  gathers : Gathers l.fn.self l.self;
  steady : IsSteady l.fn.self.counts l.self.counts;
}

abbrev pub decreases-loop-greeting : goal.decreases-loop-greeting
decreases-loop-greeting g l = 18 - length l.self.bytes
