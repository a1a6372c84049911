use Rattle.std.proofs.Common.{◌≡◌, ◌-◌, ℕ, List, [], rules, sym, ap, ap₂, subst, ◌∙◌}
use Rattle.std.specs.Prelude.{ℤ}
use Rattle.std.proofs.lemmas.Option.{get_or_from_slice_get}
use Rattle.tk_input.specs.Logs.{AreParts, ArePlaces, parts_of, places_of}
use Rattle.tk_monitor.specs.Monitored.{MonitorView, made}
use Rattle.tk_trail.specs.Setup.{IsSetup}
use Rattle.tk_world.specs.declared.seat.Seat.{Seat}
use Rattle.tk_world.proofs.seat.new_seat.Goals as goal

pub returns-clause-value : goal.returns-clause-value
returns-clause-value c =
    let mon = c.args.mon.0 in
    let seated : MonitorView → Seat = λ m. record { monitor = m; taken = 0; got = 0 } in
    let places : c.at-places.result.now ≡ places_of c.args.from.now mon = sym (get_or_from_slice_get c.args.from.now (mon - 1) c.at-places.result.now [] c.at-places.ensures) in
    ap seated (c.in_ok-new.ensures.ok ∙ ap₂ (λ (parts : List (List (ℕ × ℤ))) (from : List ℕ). made c.args.settings.now mon parts from) c.in_ok-parts.ensures.parts places)

pub returns-clause-setup : goal.returns-clause-setup
returns-clause-setup c =
    let mon = c.args.mon.0 in
    let own = c.in_ok-parts.parts.items in
    let places : places_of c.args.from.now mon ≡ c.at-places.result.now = get_or_from_slice_get c.args.from.now (mon - 1) c.at-places.result.now [] c.at-places.ensures in
    let parts : AreParts c.args.settings.now.objects own =
    subst (AreParts c.args.settings.now.objects) (sym c.in_ok-parts.ensures.parts) (subst (λ n. AreParts n (parts_of c.args.logs.now.logs mon)) c.requires.run.objects c.in_ok-parts.ensures.limits) in
    let from : ArePlaces own c.at-places.result.now =
    subst (ArePlaces own) places (subst (λ ps. ArePlaces ps (places_of c.args.from.now mon)) (sym c.in_ok-parts.ensures.parts) (c.requires.run.starts.each (mon - 1))) in
    let made_well : IsSetup (made c.args.settings.now mon own c.at-places.result.now).setup = record {
      some_object = search rules;
      objects = search rules;
      parts = parts;
      from = from;
    } in
    subst (λ (m : MonitorView). IsSetup m.setup) (sym c.in_ok-new.ensures.ok) made_well
