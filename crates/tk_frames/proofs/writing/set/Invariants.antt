use Rattle.std.proofs.Common.{◌≡◌, ◌<◌, ◌^◌, ◌++◌, drop, length}
use Rattle.tk_base.specs.History.{IsFront}
use Rattle.tk_frames.specs.Spelling.{number, in_turn, EachInTurn, object_itself, object}
use Rattle.tk_frames.proofs.WritingLemmas.{EachBelow}
use Rattle.tk_frames.proofs.writing.set.Given as goal

-- what was written and the items that are left make the whole; those are each above the one before
abbrev pub invariant-loop-i : goal.invariant-loop-i
invariant-loop-i l = record {
  front : IsFront l.fn.out.items l.out.items;
  told : l.out.items ++ in_turn object_itself (object l.version) l.before (drop l.i l.set) ≡ l.fn.out.items ++ (number l.version 4 (length l.set) ++ in_turn object_itself (object l.version) 0 l.set);
  up : EachInTurn object_itself (λ b x. b < object_itself x) l.before (drop l.i l.set);
  small : EachBelow l.i (λ o. o < 2 ^ 32) l.set;
}
