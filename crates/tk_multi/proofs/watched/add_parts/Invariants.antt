use Rattle.std.proofs.Common.{◌≡◌, ◌++◌, map, take}
use Rattle.tk_input.specs.Judged.{under}
use Rattle.tk_multi.specs.Projection.{watched_in}
use Rattle.tk_multi.proofs.watched.add_parts.Given as goal

-- the parts so far are there
abbrev pub invariant-loop-part : goal.invariant-loop-part
invariant-loop-part l = l.list.items ≡ l.initial.list.items ++ under l.mon.0 (map (watched_in l.watch) (take l.part-index l.part-items))
