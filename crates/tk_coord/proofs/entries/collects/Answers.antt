use Rattle.std.proofs.Common.{ap, length, sym, vec_capacity, ◌∙◌, arith}
use Rattle.std.proofs.lemmas.List.Elements.{All-push}
use Rattle.tk_journal.specs.Entries.{IsEntryOf}
use Rattle.tk_coord.proofs.EntriesLemmas.{collects_more, collects_skip}
use Rattle.tk_coord.proofs.entries.collects.Goals as goal
use Rattle.tk_coord.proofs.entries.collects.Goals.{then-not-is_but+in_ok-collect, else-not-is_but}

pub loop-j-preserved : goal.loop-j-preserved
loop-j-preserved c = elim c.if-not-is_but.branch [
  | then-not-is_but+in_ok-collect w ↦
      let pushed = ap (λ v. v.items) w.entries-is ∙ w.push_reserved.ensures.items in record {
        same = collects_more c.args.round c.args.asked.now c.args.but c.loop-j.j (sym c.is_but.ensures ∙ w.if-not-is_but.true) c.loop-j.invariant.same pushed w.in_ok-collect.ensures.value;
        len = omega (arith, ap length pushed, w.push_reserved.ensures.len, ap length w.push_reserved.ensures.items, c.loop-j.invariant.len);
        room = omega (arith, ap (λ v. vec_capacity v) w.entries-is, w.push_reserved.ensures.capacity, c.loop-j.invariant.room);
        entries = λ q.
            rw pushed
            (All-push (IsEntryOf c.args.monitors q) c.loop-j.entries.items w.in_ok-collect.field-0 (c.loop-j.invariant.entries q)
            (w.in_ok-collect.ensures.monitor c.args.monitors q (omega arith) (omega arith)));
      }
  | else-not-is_but w ↦
      let same = ap (λ v. v.items) w.entries-is in record {
        same = same ∙ collects_skip c.args.round c.args.asked.now c.args.but c.loop-j.j (sym c.is_but.ensures ∙ w.if-not-is_but.false) c.loop-j.invariant.same;
        len = omega (arith, ap length same, c.loop-j.invariant.len);
        room = omega (arith, ap (λ v. vec_capacity v) w.entries-is, c.loop-j.invariant.room);
        entries = λ q. rw same (c.loop-j.invariant.entries q);
      }
]
