use Rattle.std.proofs.Common.{◌≡◌, take}
use Rattle.tk_multi.specs.Multi.{passed_all}
use Rattle.tk_multi.proofs.playing.play.Given as goal

-- the events so far were let happen
abbrev pub invariant-loop-i : goal.invariant-loop-i
invariant-loop-i l = l.multi ≡ passed_all l.fn.multi (take l.i l.order.events)
