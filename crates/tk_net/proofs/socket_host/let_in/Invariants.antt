use Rattle.tk_net.specs.Hosting.{TurnsAway}
use Rattle.tk_net.proofs.socket_host.let_in.Given as goal

abbrev pub invariant-loop : goal.invariant-loop
invariant-loop l = TurnsAway l.fn.lobby l.lobby
