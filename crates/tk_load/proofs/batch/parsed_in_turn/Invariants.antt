use Rattle.std.proofs.Common.{◌≡◌, ◌≤◌, ◌+◌, length, vec_capacity}
use Rattle.tk_load.specs.Batch.{EachAt, IsParsed}
use Rattle.tk_load.proofs.batch.parsed_in_turn.Given as goal

-- the logs passed are parsed, and there is room for the others
abbrev pub invariant-loop-log : goal.invariant-loop-log
invariant-loop-log l = record {
  count : length l.all.items ≡ length l.yielded;
  room : length l.all.items + length l.log-iterator.rest.items ≤ vec_capacity l.all;
  parsed : EachAt (IsParsed l.width l.names) l.yielded l.all.items;
}
