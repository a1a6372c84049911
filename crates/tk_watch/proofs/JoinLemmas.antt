-- A watch that begins a connection.
use Rattle.std.proofs.Common.{◌≡◌, ℕ, List, length, Some, sym, ap, ◌∙◌, subst}
use Rattle.tk_monitor.specs.Monitored.{MonitorView}
use Rattle.tk_trail.proofs.PlacesLemmas.{places_at-start}
use Rattle.tk_trail.specs.Readings.{places_at}
use Rattle.tk_compact.specs.Anew.{size_of_values}
use Rattle.tk_compact.specs.Begun.{begun}
use Rattle.tk_compact.proofs.BeginLemmas.{count_starts}
use Rattle.tk_port.specs.Port.{PortView}
use Rattle.tk_watch.specs.Standing.{StandingView}
use Rattle.tk_watch.specs.Turning.{JoinsAnew}
use Rattle.tk_watch.specs.Watch.{Begins, IsWatch, WatchView, refilled}
use Rattle.tk_watch.proofs.BegunLemmas.{refilled_keeps}

-- it has as many places as counts
pub begun_counts : {W : Type 0} (w : WatchView W) (m : MonitorView) → IsWatch w → m ≡ begun w.monitor → length (places_at m.setup m.trail) ≡ length w.counts
begun_counts w m is same =
    ap (λ (n : MonitorView). length (places_at n.setup n.trail)) same
    ∙ ap (λ (ps : List ℕ). length ps) (places_at-start (begun w.monitor).setup)
    ∙ count_starts w.monitor.setup w.monitor.trail is.within
    ∙ sym is.counts

-- where it stands then
joined_stands : {W : Type 0} (w : WatchView W) (s : StandingView W) (p : PortView W) (weight : ℕ) → s ≡ record { monitor = p.monitor; port = Some p } → JoinsAnew w p → weight ≡ size_of_values w.monitor.setup w.monitor.trail
    → record w { monitor = s.monitor; port = s.port; weight = weight } ≡ record (refilled w) { port = Some p }
joined_stands w s p weight at joins weighs =
    ap (λ (t : StandingView _). record w { monitor = t.monitor; port = t.port; weight = weight }) at
    ∙ ap (λ (m : MonitorView). record w { monitor = m; port = Some p; weight = weight }) joins.monitor
    ∙ ap (λ (n : ℕ). record w { monitor = begun w.monitor; port = Some p; weight = n }) weighs

joined_keeps : {W : Type 0} (w : WatchView W) (p : PortView W) → IsWatch w → IsWatch (record (refilled w) { port = Some p })
joined_keeps w p is =
    let k = refilled_keeps w is in
    record { within = k.within; legal = k.legal; waits = k.waits; weighs = k.weighs; number = k.number; counts = k.counts; version = k.version }

pub keeps_joined : {W : Type 0} (w : WatchView W) (s : StandingView W) (p : PortView W) (weight : ℕ) → IsWatch w → s ≡ record { monitor = p.monitor; port = Some p } → JoinsAnew w p → weight ≡ size_of_values w.monitor.setup w.monitor.trail
    → IsWatch (record w { monitor = s.monitor; port = s.port; weight = weight })
keeps_joined w s p weight is at joins weighs = subst (λ (v : WatchView _). IsWatch v) (sym (joined_stands w s p weight at joins weighs)) (joined_keeps w p is)

pub begins_joined : {W : Type 0} (w : WatchView W) (s : StandingView W) (p : PortView W) (weight : ℕ) → s ≡ record { monitor = p.monitor; port = Some p } → JoinsAnew w p → weight ≡ size_of_values w.monitor.setup w.monitor.trail
    → Begins w (record w { monitor = s.monitor; port = s.port; weight = weight })
begins_joined w s p weight at joins weighs = record {
  port = p;
  joined = joined_stands w s p weight at joins weighs;
  is_fresh = record { run = joins.run; monitor = sym (ap (λ (t : StandingView _). t.monitor) at); version = joins.version; course = joins.course };
}
