use Rattle.std.proofs.Common.{refl, subst}
use Rattle.tk_watch.specs.Watch.{Turns, WatchView}
use Rattle.tk_watch.proofs.TurningLemmas.{turned_keeps, turns_by}
use Rattle.tk_watch.proofs.watch.Watch.turn.Goals as goal

pub invariant_of-self : goal.invariant_of-self
invariant_of-self g c =
    let inside = c.self.inside in
    let w : WatchView _ = record { monitor = inside.standing.monitor; port = inside.standing.port; weight = inside.weight; counts = inside.counts.items; run = inside.run; version = inside.version } in
    turned_keeps w c.turn.new.self.monitor c.turn.new.self.port c.self.invariant (turns_by inside.standing.port c.turn.result w c.turn.new.self refl c.turn.ensures.idle c.turn.ensures.looks).reaches

pub returns-clause-turns : goal.returns-clause-turns
returns-clause-turns g c =
    let inside = c.self.inside in
    let w : WatchView _ = record { monitor = inside.standing.monitor; port = inside.standing.port; weight = inside.weight; counts = inside.counts.items; run = inside.run; version = inside.version } in
    let new : WatchView _ = record w { monitor = c.turn.new.self.monitor; port = c.turn.new.self.port } in
    subst (λ (v : WatchView _). Turns c.turn.result v new) c.self.view_is (turns_by inside.standing.port c.turn.result w c.turn.new.self refl c.turn.ensures.idle c.turn.ensures.looks)

pub returns-clause-kept : goal.returns-clause-kept
returns-clause-kept g c = invariant_of-self g c
