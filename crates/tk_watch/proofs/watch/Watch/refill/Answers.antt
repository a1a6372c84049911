use Rattle.std.proofs.Common.{◌∙◌, sym, ap, subst}
use Rattle.tk_monitor.specs.Monitored.{MonitorView}
use Rattle.tk_compact.specs.Anew.{size_of_values}
use Rattle.tk_compact.specs.Begun.{begun}
use Rattle.tk_watch.specs.Watch.{IsWatch, WatchView}
use Rattle.tk_watch.proofs.BegunLemmas.{refilled_by, refilled_keeps}
use Rattle.tk_watch.proofs.watch.Watch.refill.Goals as goal

pub invariant_of-self : goal.invariant_of-self
invariant_of-self g c =
    let inside = c.self.inside in
    let w : WatchView _ = record { monitor = inside.standing.monitor; port = inside.standing.port; weight = inside.weight; counts = inside.counts.items; run = inside.run; version = inside.version } in
    subst (λ (v : WatchView _). IsWatch v)
    (sym (refilled_by w c.idle.result c.in_ok-monitor.monitor c.size_of_values-weight.result c.idle.ensures (c.in_ok-monitor.ensures.ok ∙ ap begun c.monitor-2.ensures)
    (c.size_of_values-weight.ensures ∙ ap (λ (m : MonitorView). size_of_values m.setup m.trail) c.monitor.ensures)))
    (refilled_keeps w c.self.invariant)
