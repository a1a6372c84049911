use Rattle.std.proofs.Common.{◌∙◌, ap, length}
use Rattle.tk_compact.specs.Begun.{begun}
use Rattle.tk_watch.specs.Watch.{WatchView}
use Rattle.tk_watch.proofs.JoinLemmas.{begun_counts}
use Rattle.tk_watch.proofs.watch.Watch.joined.Goals as goal

pub greet-requires-clause-counts : goal.greet-requires-clause-counts
greet-requires-clause-counts g c =
    let inside = c.self.inside in
    let w : WatchView _ = record { monitor = inside.standing.monitor; port = inside.standing.port; weight = inside.weight; counts = inside.counts.items; run = inside.run; version = inside.version } in
    begun_counts w c.in-Ok.monitor c.self.invariant (c.in-Ok.ensures.ok ∙ ap begun c.monitor.ensures) ∙ ap (λ (v : WatchView _). length v.counts) c.self.view_is

pub greet-requires-clause-anew : goal.greet-requires-clause-anew
greet-requires-clause-anew g c = c.in-Ok.ensures.ok ∙ ap begun c.monitor.ensures ∙ ap (λ (v : WatchView _). begun v.monitor) c.self.view_is
