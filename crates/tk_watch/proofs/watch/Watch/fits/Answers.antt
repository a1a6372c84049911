use Rattle.std.proofs.Common.{◌≡◌, ℕ, ◌∙◌, ap, ap₂}
use Rattle.tk_monitor.specs.Monitored.{MonitorView}
use Rattle.tk_trail.specs.Legal.{part_length}
use Rattle.tk_watch.specs.Told.{fits_in, has_room}
use Rattle.tk_watch.specs.Watch.{WatchView}
use Rattle.tk_watch.proofs.watch.Watch.fits.Goals as goal

pub has_room_for-requires : goal.has_room_for-requires
has_room_for-requires g c = c.self.invariant.weighs.bounded

pub returns : goal.returns
returns g c =
    let inside = c.self.inside in
    let long : c.length-length.result ≡ part_length inside.standing.monitor.setup c.args.f.0 = c.length-length.ensures ∙ ap (λ (m : MonitorView). part_length m.setup c.args.f.0) c.monitor.ensures in
    c.has_room_for.ensures
    ∙ ap₂ (λ (n k : ℕ). has_room n inside.weight k) long c.size_of.ensures
    ∙ ap (λ (v : WatchView _). fits_in v c.args.f (c.args.change.obj.0, c.args.change.by)) c.self.view_is
