use Rattle.std.proofs.Common.{◌≡◌, ◌≤◌, length, take}
use Rattle.std.specs.Prelude.{vec_capacity, vec_len}
use Rattle.tk_input.proofs.logs.clones_of.Given as goal

-- the parts so far are cloned, and there is room for the others
abbrev pub invariant-loop-part : goal.invariant-loop-part
invariant-loop-part l = record {
  same : l.parts.items ≡ take l.part-index l.row;
  len : vec_len l.parts ≡ l.part-index;
  room : length l.row ≤ vec_capacity l.parts;
}
