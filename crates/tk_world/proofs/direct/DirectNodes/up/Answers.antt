use Rattle.tk_world.proofs.DirectLemmas.{can_take_up, goes_up, of_parts}
use Rattle.tk_world.proofs.direct.DirectNodes.up.Goals as goal

pub take_up-requires-clause-can : goal.take_up-requires-clause-can
take_up-requires-clause-can c =
    can_take_up (of_parts c.self.inside.coordinator c.self.inside.seats.items) c.args.self.now c.args.mon.0 c.index_mut.result.now c.self.view_is c.index_mut.ensures.value c.requires.accepted

pub returns-clause-ok : goal.returns-clause-ok
returns-clause-ok c =
    goes_up (of_parts c.self.inside.coordinator c.self.inside.seats.items) c.args.self.now c.take_up.new.coordinator c.args.mon c.index_mut.result.now c.take_up.new.seat
    c.self.view_is c.requires.seat c.index_mut.ensures.value c.in_ok-take_up.ensures.ok
