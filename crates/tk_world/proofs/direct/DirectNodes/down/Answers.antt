use Rattle.tk_world.proofs.DirectLemmas.{can_take_down, goes_down, of_parts}
use Rattle.tk_world.proofs.direct.DirectNodes.down.Goals as goal

pub take_down-requires-clause-can : goal.take_down-requires-clause-can
take_down-requires-clause-can c =
    can_take_down (of_parts c.self.inside.coordinator c.self.inside.seats.items) c.args.self.now c.args.mon.0 c.index_mut.result.now c.self.view_is c.index_mut.ensures.value c.requires.accepted

pub returns-clause-ok : goal.returns-clause-ok
returns-clause-ok c =
    goes_down (of_parts c.self.inside.coordinator c.self.inside.seats.items) c.args.self.now c.args.mon.0 c.index_mut.result.now c.take_down.new.seat
    c.self.view_is c.requires.seat c.index_mut.ensures.value c.in_ok-take_down.ensures.ok
