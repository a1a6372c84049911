use Rattle.std.proofs.Common.{◌++◌, ◌∷◌, [], List, ap₂, arith, sym, ◌∙◌}
use Rattle.tk_border.proofs.RisingLemmas.{counted_more}
use Rattle.tk_world.specs.Nodes.{fresh_seat}
use Rattle.tk_world.specs.declared.seat.Seat.{Seat}
use Rattle.tk_world.proofs.seat.new_seats.Goals as goal

pub loop-j-preserved : goal.loop-j-preserved
loop-j-preserved c = record {
  same = c.push_reserved.ensures.items
      ∙ ap₂ (λ (seats : List Seat) (seat : Seat). seats ++ seat ∷ []) c.loop-j.invariant.same c.in_ok-new_seat.ensures.value
      ∙ sym (counted_more (fresh_seat c.args.settings.now c.args.logs.now c.args.from.now) c.loop-j.j);
  len = omega (arith, c.push_reserved.ensures.len, c.loop-j.invariant.len);
  room = omega (arith, c.push_reserved.ensures.capacity, c.loop-j.invariant.room);
}
