use Rattle.std.proofs.Common.{arith}
use Rattle.tk_input.specs.Judged.{feeders_of}
use Rattle.tk_input.proofs.RowsLemmas.{rows_more}
use Rattle.tk_input.proofs.logs.rows.rows_of.Goals as goal

pub loop-place-preserved : goal.loop-place-preserved
loop-place-preserved c = record {
  same = rw c.push_reserved.ensures.items
      (rows_more (feeders_of c.args.parts.now) c.loop-place.rows.items c.in_ok-row_of.field-0 c.loop-place.place c.loop-place.invariant.same c.in_ok-row_of.ensures);
  len = omega (arith, c.push_reserved.ensures.len, c.loop-place.invariant.len);
  room = omega (arith, c.push_reserved.ensures.capacity, c.loop-place.invariant.room);
}
