use Rattle.std.proofs.Common.{◌≡◌, ℕ, ◌+◌, ◌^◌, ◌≤◌, ◌∙◌, sym, ap, ap₂, subst}
use Rattle.std.specs.Prelude.{nat_lt, unsigned_abs}
use Rattle.tk_monitor.specs.Monitored.{MonitorView}
use Rattle.tk_trail.specs.Setup.{IsSetup}
use Rattle.tk_compact.specs.Anew.{size_of_values}
use Rattle.tk_watch.specs.Watch.{WatchView}
use Rattle.tk_watch.proofs.BegunLemmas.{refilled_keeps}
use Rattle.tk_watch.proofs.watch.Watch.is_too_great.Goals as goal

pub size_of_values-requires : goal.size_of_values-requires
size_of_values-requires g c = record { setup = subst (λ (m : MonitorView). IsSetup m.setup) (sym c.monitor.ensures) c.self.invariant.within }

pub is_heavy-requires : goal.is_heavy-requires
is_heavy-requires g c =
    let inside = c.self.inside in
    let w : WatchView _ = record { monitor = inside.standing.monitor; port = inside.standing.port; weight = inside.weight; counts = inside.counts.items; run = inside.run; version = inside.version } in
    let size : c.size_of_values.result ≡ size_of_values inside.standing.monitor.setup inside.standing.monitor.trail = c.size_of_values.ensures ∙ ap (λ (m : MonitorView). size_of_values m.setup m.trail) c.monitor.ensures in
    subst (λ (n : ℕ). n ≤ 2 ^ 100) (sym size) (refilled_keeps w c.self.invariant).weighs.bounded

pub returns : goal.returns
returns g c =
    let inside = c.self.inside in
    let size : c.size_of_values.result ≡ size_of_values inside.standing.monitor.setup inside.standing.monitor.trail = c.size_of_values.ensures ∙ ap (λ (m : MonitorView). size_of_values m.setup m.trail) c.monitor.ensures in
    c.is_heavy.ensures
    ∙ ap₂ (λ (n k : ℕ). nat_lt (2 ^ 100) (n + k)) size c.size_of.ensures
    ∙ ap (λ (v : WatchView _). nat_lt (2 ^ 100) (size_of_values v.monitor.setup v.monitor.trail + unsigned_abs c.args.change.by)) c.self.view_is
