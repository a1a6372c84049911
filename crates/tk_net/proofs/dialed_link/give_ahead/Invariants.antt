use Rattle.std.proofs.Common.{◌≡◌, ◌≤◌, ◌-◌, length}
use Rattle.tk_net.proofs.dialed_link.give_ahead.Given as goal

-- no count has changed
abbrev pub invariant-loop-sent : goal.invariant-loop-sent
invariant-loop-sent g l =
    (l.sent ≤ length l.ahead)
    × (g.L.Wire.counts l.link ≡ g.L.Wire.counts l.initial.link)
    × (g.L.Wire.is_shut l.link ≡ g.L.Wire.is_shut l.initial.link)

abbrev pub decreases-loop-sent : goal.decreases-loop-sent
decreases-loop-sent g l = length l.ahead - l.sent
