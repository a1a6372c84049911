use Rattle.std.proofs.Common.{◌≡◌, ℕ, ◌+◌, ◌-◌, ◌∙◌, List, sym, ap, subst, arith}
use Rattle.std.specs.Prelude.{ℤ}
use Rattle.tk_trail.specs.Growing.{grown, grown_parts}
use Rattle.tk_trail.specs.Legal.{HasNext}
use Rattle.tk_trail.specs.Setup.{IsSetup, MonitorSetup}
use Rattle.tk_monitor.specs.Kept.{IsKept}
use Rattle.tk_monitor.specs.Monitored.{MonitorView}
use Rattle.tk_monitor.specs.Trail.{TrailView}
use Rattle.tk_monitor.proofs.GrowLemmas.{kept_few, kept_grown}
use Rattle.tk_monitor.proofs.monitor.Monitor.grow.Goals as goal

pub keep_raise-requires-clause-few : goal.keep_raise-requires-clause-few
keep_raise-requires-clause-few c =
    let inside = c.self.inside in
    let setup : MonitorSetup = record { number = inside.number.0; objects = inside.settings.objects; parts = inside.parts.items; from = inside.from } in
    omega (arith, c.reserve.ensures.raises, kept_few setup inside.trail inside.board inside.next.items inside.phase c.self.invariant)

pub invariant_of-self-2 : goal.invariant_of-self-2
invariant_of-self-2 c =
    let inside = c.self.inside in
    let setup : MonitorSetup = record { number = inside.number.0; objects = inside.settings.objects; parts = inside.parts.items; from = inside.from } in
    let g = c.args.f.0 in
    let change : ℕ × ℤ = (c.args.change.obj.0, c.args.change.by) in
    let goes : HasNext setup inside.trail.entries g = subst (λ (m : MonitorView). HasNext m.setup m.trail g) (sym c.self.view_is) c.requires.next in
    let within : IsSetup (grown setup g change) = subst (λ (m : MonitorView). IsSetup (grown m.setup g change)) (sym c.self.view_is) c.requires.limits in
    let e : (g - 1) + 1 ≡ g = omega (arith, goes.from_one) in
    let parts : c.grow_part.new.parts.items ≡ grown_parts inside.parts.items g change = c.in_ok-grow_part.ensures.ok ∙ ap (λ (k : ℕ). grown_parts inside.parts.items k change) e in
    let entries : c.keep_raise.new.self.entries ≡ inside.trail.entries = ap (λ (l : TrailView). l.entries) c.keep_raise.ensures ∙ c.reserve.ensures.entries in
    let raises : c.keep_raise.new.self.raises ≡ inside.trail.raises + 1 = ap (λ (l : TrailView). l.raises) c.keep_raise.ensures ∙ ap (λ (n : ℕ). n + 1) c.reserve.ensures.raises in
    subst (λ (ps : List (List (ℕ × ℤ))). IsKept (record { number = inside.number.0; objects = inside.settings.objects; parts = ps; from = inside.from }) c.keep_raise.new.self inside.board inside.next.items inside.phase)
    (sym parts)
    (kept_grown setup inside.trail c.keep_raise.new.self inside.board inside.next.items inside.phase g change c.self.invariant goes within entries raises)

pub returns-clause-legal : goal.returns-clause-legal
returns-clause-legal c = (invariant_of-self-2 c).legal
