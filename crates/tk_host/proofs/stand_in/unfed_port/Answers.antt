use Rattle.std.proofs.Common.{◌<◌, ◌≤◌, sym, subst, ap, ◌∙◌}
use Rattle.std.proofs.lemmas.Result.{IfOk-weaker}
use Rattle.tk_monitor.specs.Monitored.{MonitorView}
use Rattle.tk_trail.specs.Setup.{IsSetup}
use Rattle.tk_host.proofs.NearLemmas.{unfed_setup}
use Rattle.tk_host.proofs.stand_in.unfed_port.Goals as goal

pub new-requires-clause-setup : goal.new-requires-clause-setup
new-requires-clause-setup c = subst (λ (m : MonitorView). IsSetup m.setup) (sym c.in_ok-monitor.ensures) (unfed_setup c.args.settings.now c.args.mon.0 c.requires.limits)

pub new-requires-clause-number : goal.new-requires-clause-number
new-requires-clause-number c = subst (λ (m : MonitorView). (0 < m.setup.number) × (m.setup.number ≤ 64)) (sym c.in_ok-monitor.ensures) c.requires.number

pub new-requires-clause-trail : goal.new-requires-clause-trail
new-requires-clause-trail c = ap (λ (m : MonitorView). m.trail) c.in_ok-monitor.ensures

pub new-requires-clause-came : goal.new-requires-clause-came
new-requires-clause-came c = λ told. c.in_ok-wire.ensures.came

pub new-requires-clause-went : goal.new-requires-clause-went
new-requires-clause-went c = λ told. c.in_ok-wire.ensures.went

pub returns-clause-monitor : goal.returns-clause-monitor
returns-clause-monitor c = IfOk-weaker c.new.result _ _ (λ port h. h ∙ c.in_ok-monitor.ensures) c.new.ensures.monitor
