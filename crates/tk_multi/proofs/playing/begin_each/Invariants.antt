use Rattle.std.proofs.Common.{length}
use Rattle.tk_multi.specs.Beginning.{HasBegun, HasRoom}
use Rattle.tk_multi.proofs.playing.begin_each.Given as goal

-- the queries so far have begun, and there is room for the others
abbrev pub invariant-loop-alone : goal.invariant-loop-alone
invariant-loop-alone l = record {
  begun : HasBegun l.yielded l.lists;
  room : HasRoom (length l.alone-iterator.rest.items) l.lists;
}
