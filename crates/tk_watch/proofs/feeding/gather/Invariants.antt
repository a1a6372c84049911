use Rattle.std.specs.Prelude.{All, length}
use Rattle.tk_watch.specs.Feeding.{Gives}
use Rattle.tk_watch.specs.Windows.{IsItemIn}
use Rattle.tk_watch.proofs.feeding.gather.Given as goal

-- those so far are what the stream gave, records of the catalogue
abbrev pub invariant-loop : goal.invariant-loop
invariant-loop g l = Gives l.ticks l.names l.initial.records l.batch.items l.records × All (IsItemIn (length l.names)) l.batch.items
