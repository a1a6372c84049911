use Rattle.std.proofs.Common.{◌≡◌, vec_len}
use Rattle.tk_net.proofs.mem_host.MemHost.new.Given as goal

-- a dialer was made at each turn
abbrev pub invariant-loop : goal.invariant-loop
invariant-loop l = vec_len l.made ≡ l.counter
