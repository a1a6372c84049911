use Rattle.std.proofs.Common.{◌≡◌, ◌<◌, ◌^◌, ◌++◌, drop, length}
use Rattle.tk_base.specs.History.{IsFront}
use Rattle.tk_frames.specs.Spelling.{number, in_turn, EachInTurn, pair_object, pair}
use Rattle.std.specs.Int.{w128}
use Rattle.std.specs.Int.RustNames.{FitsSigned}
use Rattle.tk_frames.proofs.WritingLemmas.{EachBelow}
use Rattle.tk_frames.proofs.writing.pairs.Given as goal

-- what was written and the items that are left make the whole; those are each above the one before
abbrev pub invariant-loop-i : goal.invariant-loop-i
invariant-loop-i l = record {
  front : IsFront l.fn.out.items l.out.items;
  told : l.out.items ++ in_turn pair_object (pair l.version) l.before (drop l.i l.pairs) ≡ l.fn.out.items ++ (number l.version 4 (length l.pairs) ++ in_turn pair_object (pair l.version) 0 l.pairs);
  up : EachInTurn pair_object (λ b x. b < pair_object x) l.before (drop l.i l.pairs);
  small : EachBelow l.i (λ p. (p.0 < 2 ^ 32) × FitsSigned w128 p.1) l.pairs;
}
