use Rattle.std.proofs.Common.{◌≡◌}
use Rattle.tk_hub.specs.Hub.{IsHub}
use Rattle.tk_live.specs.Hosting.{HasGone}
use Rattle.tk_live.proofs.hosting.admit.Given as goal

-- connections were admitted, and nothing else changed
abbrev pub invariant-loop : goal.invariant-loop
invariant-loop g l = record {
  rest : l.hub ≡ record l.fn.hub { held = l.hub.held };
  kept : IsHub l.hub;
  gone : HasGone (g.N.Net.state l.fn.net) (g.N.Net.state l.net);
}
