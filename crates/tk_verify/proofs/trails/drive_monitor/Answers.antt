use Rattle.std.proofs.Common.{length, ap, sym, subst, ◌∙◌}
use Rattle.tk_monitor.specs.Monitored.{MonitorView}
use Rattle.tk_story.specs.Ends.{as_made}
use Rattle.tk_trail.specs.Legal.{IsLegal}
use Rattle.tk_verify.specs.Driving.{Halts}
use Rattle.tk_verify.proofs.TrailLemmas.{made_here}
use Rattle.tk_verify.proofs.trails.drive_monitor.Goals as goal

pub returns-in-Ok-clause-made : goal.returns-in-Ok-clause-made
returns-in-Ok-clause-made c =
    let same = made_here c.args.settings.now c.args.logs.now c.args.from.now c.args.mon.0 c.in_ok-parts.parts.items c.at-places.result.now c.in_ok-monitor.monitor c.in_ok-parts.ensures.parts c.at-places.ensures c.in_ok-monitor.ensures.ok in
    c.in-Ok.ensures.made ∙ ap as_made same

pub returns-in-Ok-clause-trail : goal.returns-in-Ok-clause-trail
returns-in-Ok-clause-trail c = c.in-Ok.ensures.trail

pub returns-in-Ok-clause-legal : goal.returns-in-Ok-clause-legal
returns-in-Ok-clause-legal c =
    let same = made_here c.args.settings.now c.args.logs.now c.args.from.now c.args.mon.0 c.in_ok-parts.parts.items c.at-places.result.now c.in_ok-monitor.monitor c.in_ok-parts.ensures.parts c.at-places.ensures c.in_ok-monitor.ensures.ok in
    subst (λ (m : MonitorView). IsLegal m.setup c.args.trail.now) same c.in-Ok.ensures.legal

pub returns-in-Err-clause-halts : goal.returns-in-Err-clause-halts
returns-in-Err-clause-halts c =
    let same = made_here c.args.settings.now c.args.logs.now c.args.from.now c.args.mon.0 c.in_ok-parts.parts.items c.at-places.result.now c.in_ok-monitor.monitor c.in_ok-parts.ensures.parts c.at-places.ensures c.in_ok-monitor.ensures.ok in
    subst (λ (m : MonitorView). Halts (IsLegal m.setup) c.args.trail.now c.in-Err.halt) same c.in-Err.ensures.halts

pub drive-requires-clause-fresh : goal.drive-requires-clause-fresh
drive-requires-clause-fresh c =
    let same = made_here c.args.settings.now c.args.logs.now c.args.from.now c.args.mon.0 c.in_ok-parts.parts.items c.at-places.result.now c.in_ok-monitor.monitor c.in_ok-parts.ensures.parts c.at-places.ensures c.in_ok-monitor.ensures.ok in
    ap (λ (m : MonitorView). m.trail) same

pub drive-requires-clause-feeders : goal.drive-requires-clause-feeders
drive-requires-clause-feeders c =
    let same = made_here c.args.settings.now c.args.logs.now c.args.from.now c.args.mon.0 c.in_ok-parts.parts.items c.at-places.result.now c.in_ok-monitor.monitor c.in_ok-parts.ensures.parts c.at-places.ensures c.in_ok-monitor.ensures.ok in
    c.feeders.ensures.value ∙ sym (ap (λ (m : MonitorView). length m.setup.parts) same)
