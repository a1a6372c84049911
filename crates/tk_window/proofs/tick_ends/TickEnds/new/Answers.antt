use Rattle.tk_window.specs.Expanded.{sources_of}
use Rattle.tk_window.specs.TickEnds.{ends_of}
use Rattle.tk_window.proofs.TickEndsLemmas.{rows_more}
use Rattle.tk_window.proofs.tick_ends.TickEnds.new.Goals as goal

pub loop-place-preserved : goal.loop-place-preserved
loop-place-preserved c =
    rw c.in_ok-push.ensures.items
    (rows_more (ends_of (sources_of c.args.logs.now)) c.loop-place.rows.items c.in_ok-row_of.field-0 c.loop-place.place c.loop-place.invariant c.in_ok-row_of.ensures)
