use Rattle.std.proofs.Common.{◌+◌, ℕ, ℤ, List, [], ap, ◌∙◌, arith}
use Rattle.std.proofs.lemmas.List.Elements.{All-push}
use Rattle.tk_frames.specs.declared.frame.Frame.TheVariants as f
use Rattle.tk_journal.specs.declared.noted.Noted.TheVariants as n
use Rattle.tk_journal.specs.Entries.{IsEntryOf}
use Rattle.tk_coord.proofs.BatchLemmas.{one_more}
use Rattle.tk_coord.proofs.entries.first_assigns.Goals as goal

pub loop-j-preserved : goal.loop-j-preserved
loop-j-preserved c = record {
  same = one_more (f.Assign 1 c.args.members.now []) c.loop-j.j [] c.push_reserved.ensures.items c.loop-j.invariant.same
      (c.in_ok-assign.ensures.value ∙ ap (λ (p : List (ℕ × ℤ)). n.Sent (record { 0 = c.loop-j.j + 1 }) (f.Assign 1 c.args.members.now p)) c.no_pairs.ensures);
  len = omega (arith, c.push_reserved.ensures.len, c.loop-j.invariant.len);
  room = omega (arith, c.push_reserved.ensures.capacity, c.loop-j.invariant.room);
  entries = λ n.
      rw c.push_reserved.ensures.items
      (All-push (IsEntryOf c.args.monitors n) c.loop-j.entries.items c.in_ok-assign.field-0 (c.loop-j.invariant.entries n)
      (c.in_ok-assign.ensures.monitor c.args.monitors n (omega arith) (omega arith)));
}
