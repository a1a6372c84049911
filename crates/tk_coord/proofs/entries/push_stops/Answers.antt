use Rattle.std.proofs.Common.{arith}
use Rattle.std.proofs.lemmas.List.Elements.{All-push}
use Rattle.tk_frames.specs.declared.frame.Frame.TheVariants as f
use Rattle.tk_journal.specs.Entries.{IsEntryOf}
use Rattle.tk_coord.proofs.BatchLemmas.{one_more}
use Rattle.tk_coord.proofs.entries.push_stops.Goals as goal

pub loop-j-preserved : goal.loop-j-preserved
loop-j-preserved c = (
  one_more f.Stop c.loop-j.j _ c.in_ok-push.ensures.items c.loop-j.invariant.0 (c.in_ok-sent.ensures.value),
  λ n old.
      rw c.in_ok-push.ensures.items
      (All-push (IsEntryOf c.args.monitors n) c.loop-j.entries.items c.in_ok-sent.field-0 (c.loop-j.invariant.1 n old)
      (c.in_ok-sent.ensures.monitor c.args.monitors n (omega arith) (omega arith))),
)
