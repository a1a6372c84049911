use Rattle.std.proofs.Common.{◌≡◌, length, take}
use Rattle.tk_watch.specs.Greeted.{beginnings_of}
use Rattle.tk_watch.proofs.watch.connecting.beginnings.Given as goal

-- the beginnings so far are there
abbrev pub invariant-loop-i : goal.invariant-loop-i
invariant-loop-i l =
    (length l.list.items ≡ l.i) × (l.list.items ≡ beginnings_of (take l.i l.counts) (take l.i l.starts))
