use Rattle.std.proofs.Common.{◌+◌, ◌-◌, ◌∙◌, sym, ap, subst, arith}
use Rattle.tk_hub.specs.Seats.{link_at}
use Rattle.tk_hub.proofs.HearLemmas.{HearsUpTo, hears_none, hears_past, hears_step, hears_stop, unwritten_goes, unwritten_seat}
use Rattle.tk_hub.proofs.TakenLemmas.{reaches_settings}
use Rattle.tk_hub.proofs.SeatsLemmas.{monitor_at, place_at}
use Rattle.tk_hub.proofs.seats.Seats.hear.Goals as goal

pub loop-place-init : goal.loop-place-init
loop-place-init g c = (hears_none c.args.self.now, c.monitors-place-end.ensures.kept)

pub hear_at-heard-requires : goal.hear_at-heard-requires
hear_at-heard-requires g c =
    let l = c.loop-place in
    monitor_at l.place c.args.self.now l.self l.invariant.0.reaches (omega (arith, c.loop-place-test.true, c.monitors-place-end.ensures.value))

pub returns-then-not-goes_on-clause-hears : goal.returns-then-not-goes_on-clause-hears
returns-then-not-goes_on-clause-hears g c =
    let l = c.loop-place in
    let is = monitor_at l.place c.args.self.now l.self l.invariant.0.reaches (omega (arith, c.loop-place-test.true, c.monitors-place-end.ensures.value)) in
    hears_stop l.place (l.place + 1 - 1) l.turn c.hear_at-heard.result c.args.self.now l.self c.hear_at-heard.new.self (omega arith) (place_at l.place l.self is l.invariant.1) is l.invariant.0 c.hear_at-heard.ensures.hears c.hear_at-heard.ensures.rest (sym c.goes_on.ensures ∙ c.if-not-goes_on.true)

pub loop-place-preserved : goal.loop-place-preserved
loop-place-preserved g c =
    let l = c.loop-place in
    let is = monitor_at l.place c.args.self.now l.self l.invariant.0.reaches (omega (arith, c.loop-place-test.true, c.monitors-place-end.ensures.value)) in
    let next = hears_step l.place (l.place + 1 - 1) l.turn c.hear_at-heard.result c.args.self.now l.self c.hear_at-heard.new.self (omega arith) (place_at l.place l.self is l.invariant.1) is l.invariant.0 c.hear_at-heard.ensures.hears c.hear_at-heard.ensures.rest (sym c.goes_on.ensures ∙ c.if-not-goes_on.false) in
    (subst (λ turn. HearsUpTo (l.place + 1) turn c.args.self.now c.hear_at-heard.new.self) (sym c.joined-turn.ensures) next, c.hear_at-heard.ensures.kept)

pub returns-clause-hears : goal.returns-clause-hears
returns-clause-hears g c =
    let l = c.loop-place in
    let monitors = ap (λ s. s.monitors) (reaches_settings c.args.self.now.coordinator l.self.coordinator l.invariant.0.reaches) in
    hears_past l.place l.turn c.args.self.now l.self (omega (arith, c.loop-place-test.false, c.monitors-place-end.ensures.value, monitors, l.invariant.1.count)) l.invariant.0

pub returns-then-not-goes_on-clause-unwritten : goal.returns-then-not-goes_on-clause-unwritten
returns-then-not-goes_on-clause-unwritten g c =
    let l = c.loop-place in
    let new = c.hear_at-heard.new.self in
    let q = l.place + 1 - 1 in
    unwritten_seat (l.place + 1) c.hear_at-heard.result (link_at l.self.links q) (link_at new.links q) (record { coordinator = l.self.coordinator }) (record { coordinator = new.coordinator }) c.hear_at-heard.ensures.hears

pub returns-clause-unwritten : goal.returns-clause-unwritten
returns-clause-unwritten g c = unwritten_goes c.loop-place.turn c.loop-place.invariant.0.goes
