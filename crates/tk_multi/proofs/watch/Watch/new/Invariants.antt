use Rattle.std.proofs.Common.{◌≡◌, map, take}
use Rattle.tk_input.specs.Catalog.{object_of}
use Rattle.tk_multi.proofs.WatchLemmas.{numbers_of}
use Rattle.tk_multi.proofs.watch.Watch.new.Given as goal

-- the objects so far have their numbers
abbrev pub invariant-loop-place : goal.invariant-loop-place
invariant-loop-place l = numbers_of l.objects.items ≡ map (object_of l.watched) (take l.place l.names)
