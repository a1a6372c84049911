-- A watch whose monitor begins anew, and one that was told nothing.
use Rattle.std.proofs.Common.{◌≡◌, ℕ, [], None, sym, ap, ◌∙◌}
use Rattle.tk_monitor.proofs.StartLemmas.{start_legal}
use Rattle.tk_monitor.specs.Monitored.{MonitorView}
use Rattle.tk_trail.specs.Legal.{HasNext, IsLegal}
use Rattle.tk_trail.specs.Setup.{IsSetup}
use Rattle.tk_compact.specs.Anew.{open_streams, size_of_values}
use Rattle.tk_compact.specs.Begun.{begun}
use Rattle.tk_compact.proofs.AnewLemmas.{begins_anew}
use Rattle.tk_compact.proofs.AsBeforeLemmas.{begins_as_before}
use Rattle.tk_compact.proofs.BeginLemmas.{count_anew, count_open}
use Rattle.tk_watch.specs.Standing.{StandingView}
use Rattle.tk_watch.specs.Watch.{IsWatch, WatchView, refilled}

-- what goes on goes on anew
pub begun_next : (m : MonitorView) (g : ℕ) → IsSetup m.setup → IsLegal m.setup m.trail → HasNext m.setup m.trail g → HasNext (begun m).setup [] g
begun_next m g is legal next = ((begins_as_before m.setup m.trail is legal).0 g).1 next

-- the watch then
pub refilled_keeps : {W : Type 0} (w : WatchView W) → IsWatch w → IsWatch (refilled w)
refilled_keeps w is =
    let setup = w.monitor.setup in
    let trail = w.monitor.trail in
    let made = begins_anew setup trail w.weight (open_streams setup trail) is.within is.legal is.weighs (count_open setup trail is.within) in
    record {
      within = made.0;
      legal = start_legal (begun w.monitor).setup;
      waits = made.1.1;
      weighs = made.1.0;
      number = is.number;
      counts = is.counts ∙ sym (count_anew setup trail is.within);
      version = is.version;
    }

-- where it stands then
pub refilled_by : {W : Type 0} (w : WatchView W) (s : StandingView W) (m : MonitorView) (weight : ℕ) → s ≡ record { monitor = m; port = None } → m ≡ begun w.monitor → weight ≡ size_of_values w.monitor.setup w.monitor.trail
    → record w { monitor = s.monitor; port = s.port; weight = weight } ≡ refilled w
refilled_by w s m weight at is weighs =
    ap (λ (t : StandingView _). record w { monitor = t.monitor; port = t.port; weight = weight }) (at ∙ ap (λ (n : MonitorView). record { monitor = n; port = None }) is)
    ∙ ap (λ (n : ℕ). record w { monitor = begun w.monitor; port = None; weight = n }) weighs
