use Rattle.std.proofs.Common.{◌∙◌, sym, ap, subst, List}
use Rattle.tk_monitor.specs.Monitored.{MonitorView}
use Rattle.tk_trail.specs.declared.entry.Entry.{Entry}
use Rattle.tk_watch.specs.Tally.{IsTally}
use Rattle.tk_watch.proofs.TallyLemmas.{tally_reached}
use Rattle.tk_watch.proofs.look.look_within.Goals as goal

-- what was looked at stays as the trail grows
pub is_over-requires : goal.is_over-requires
is_over-requires g c =
    let reached = tally_reached c.args.tally.now c.args.port.now.monitor c.look-turned.new.port.monitor c.look-turned.ensures.reaches c.requires in
    subst (λ (t : List Entry). IsTally c.args.tally.now t) (sym (c.trail.ensures.value ∙ ap (λ (m : MonitorView). m.trail) c.monitor.ensures.value)) reached
