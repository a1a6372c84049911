use Rattle.std.proofs.Common.{◌≡◌, ◌≤◌}
use Rattle.tk_net.proofs.lobby.Lobby.next.Given as goal

-- a few more may have been turned away
abbrev pub invariant-loop : goal.invariant-loop
invariant-loop g l =
    (l.self-inside.run ≡ l.initial.self-inside.run)
    × (l.self-inside.monitors ≡ l.initial.self-inside.monitors)
    × (l.initial.self-inside.strangers ≤ l.self-inside.strangers)
