use Rattle.std.proofs.Common.{◌≡◌, take}
use Rattle.tk_input.specs.Logs.{beginnings}
use Rattle.tk_multi.proofs.WatchLemmas.{rows_in}
use Rattle.tk_multi.proofs.front.Front.start.Given as goal

-- the monitors before stand at the beginnings of their parts
abbrev pub invariant-loop-j : goal.invariant-loop-j
invariant-loop-j l = rows_in l.rows.items ≡ beginnings (record { logs = take l.j l.logs.logs; objects = l.logs.objects })
