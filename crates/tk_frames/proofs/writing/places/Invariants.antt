use Rattle.std.proofs.Common.{◌≡◌, ◌<◌, ◌^◌, ◌++◌, drop, length}
use Rattle.tk_base.specs.History.{IsFront}
use Rattle.tk_frames.specs.Spelling.{number, in_turn, no_object, place}
use Rattle.tk_frames.proofs.WritingLemmas.{EachBelow}
use Rattle.tk_frames.proofs.writing.places.Given as goal

-- what was written and the places that are left make the whole; those that were written are within their type
abbrev pub invariant-loop-i : goal.invariant-loop-i
invariant-loop-i l = record {
  front : IsFront l.fn.out.items l.out.items;
  told : l.out.items ++ in_turn no_object (place l.version) 0 (drop l.i l.places) ≡ l.fn.out.items ++ (number l.version 4 (length l.places) ++ in_turn no_object (place l.version) 0 l.places);
  small : EachBelow l.i (λ p. p < 2 ^ 32) l.places;
}
