use Rattle.std.proofs.Common.{◌≡◌, ◌-◌, ℕ, List, [], sym, ap, ap₂, ◌∙◌}
use Rattle.std.specs.Prelude.{ℤ}
use Rattle.std.proofs.lemmas.Option.{get_or_from_slice_get}
use Rattle.std.proofs.lemmas.Result.{IfOk-weaker}
use Rattle.tk_input.specs.Logs.{places_of}
use Rattle.tk_monitor.specs.Monitored.{MonitorView, made}
use Rattle.tk_live.specs.Crew.{made_in}
use Rattle.tk_live.specs.Made.{planned}
use Rattle.tk_live.proofs.stage.make_port.Goals as goal

pub returns-clause-made : goal.returns-clause-made
returns-clause-made g c =
    let plan = c.args.plan.now in
    let mon = c.args.mon.0 in
    let monitor = c.in_ok-monitor.monitor in
    let places : c.at-places.result.now ≡ places_of plan.from mon = sym (get_or_from_slice_get plan.from (mon - 1) c.at-places.result.now [] c.at-places.ensures) in
    let is = c.in_ok-monitor.ensures.ok ∙ ap₂ (λ (parts : List (List (ℕ × ℤ))) (from : List ℕ). made plan.input.settings mon parts from) c.in_ok-parts.ensures.parts places in
    IfOk-weaker c.new-2.result (λ port. port.monitor ≡ monitor) (λ port. made_in port.monitor plan.version ≡ planned plan mon)
    (λ port same. ap (λ (m : MonitorView). made_in m plan.version) (same ∙ is)) c.new-2.ensures.monitor
