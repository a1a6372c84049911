use Rattle.std.proofs.Common.{◌∙◌, sym, ap, subst}
use Rattle.tk_monitor.specs.Monitored.{MonitorView}
use Rattle.tk_compact.specs.Anew.{size_of_values}
use Rattle.tk_watch.specs.Turning.{JoinsAnew}
use Rattle.tk_watch.specs.Watch.{Begins, WatchView}
use Rattle.tk_watch.proofs.JoinLemmas.{begins_joined, keeps_joined}
use Rattle.tk_watch.proofs.watch.Watch.begin.Goals as goal

pub invariant_of-self : goal.invariant_of-self
invariant_of-self g c =
    let inside = c.self.inside in
    let w : WatchView _ = record { monitor = inside.standing.monitor; port = inside.standing.port; weight = inside.weight; counts = inside.counts.items; run = inside.run; version = inside.version } in
    let joins : JoinsAnew w c.in_ok-port.port = subst (λ (v : WatchView _). JoinsAnew v c.in_ok-port.port) (sym c.self.view_is) c.in_ok-port.ensures.joins in
    keeps_joined w c.joined-2.result c.in_ok-port.port c.size_of_values-weight.result c.self.invariant c.joined-2.ensures joins (c.size_of_values-weight.ensures ∙ ap (λ (m : MonitorView). size_of_values m.setup m.trail) c.monitor.ensures)

pub returns-clause-ok : goal.returns-clause-ok
returns-clause-ok g c =
    let inside = c.self.inside in
    let w : WatchView _ = record { monitor = inside.standing.monitor; port = inside.standing.port; weight = inside.weight; counts = inside.counts.items; run = inside.run; version = inside.version } in
    let joins : JoinsAnew w c.in_ok-port.port = subst (λ (v : WatchView _). JoinsAnew v c.in_ok-port.port) (sym c.self.view_is) c.in_ok-port.ensures.joins in
    let new : WatchView _ = record w { monitor = c.joined-2.result.monitor; port = c.joined-2.result.port; weight = c.size_of_values-weight.result } in
    subst (λ (v : WatchView _). Begins v new) c.self.view_is
    (begins_joined w c.joined-2.result c.in_ok-port.port c.size_of_values-weight.result c.joined-2.ensures joins (c.size_of_values-weight.ensures ∙ ap (λ (m : MonitorView). size_of_values m.setup m.trail) c.monitor.ensures))

pub returns-clause-kept : goal.returns-clause-kept
returns-clause-kept g c = invariant_of-self g c
