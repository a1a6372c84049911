use Rattle.std.proofs.Common.{◌≡◌, ◌-◌, Option, Some, ap, arith, set, sym, subst}
use Rattle.std.specs.Prelude.{slice_set}
use Rattle.tk_end.specs.Link.{LinkView}
use Rattle.tk_hub.specs.Seats.{AreSeats, IsFree, SeatsView}
use Rattle.tk_hub.specs.Visitor.{HasGreeted}
use Rattle.tk_hub.proofs.SeatsLemmas.{seats_seated}
use Rattle.tk_hub.proofs.seats.Seats.seat.Goals as goal

pub invariant_of-self : goal.invariant_of-self
invariant_of-self g c =
    let s = c.self.inside in
    let free = subst (λ v. IsFree c.args.mon.0 v.coordinator.settings.monitors v.links) (sym c.self.view_is) c.requires.free in
    let greeted = subst (λ v. HasGreeted v.run c.args.mon c.args.link) (sym c.self.view_is) c.requires.greeted in
    subst (λ o. AreSeats (record { run = s.run; coordinator = s.desk.coordinator; links = set s.links.items (c.args.mon.0 - 1) o })) (sym c.replace.ensures.after)
    (seats_seated c.args.mon (record { run = s.run; coordinator = s.desk.coordinator; links = s.links.items }) c.args.link free c.self.invariant greeted c.requires.unsaid)

pub returns-clause-kept : goal.returns-clause-kept
returns-clause-kept g c =
    let s = c.self.inside in
    let free = subst (λ v. IsFree c.args.mon.0 v.coordinator.settings.monitors v.links) (sym c.self.view_is) c.requires.free in
    let greeted = subst (λ v. HasGreeted v.run c.args.mon c.args.link) (sym c.self.view_is) c.requires.greeted in
    subst (λ o. AreSeats (record { run = s.run; coordinator = s.desk.coordinator; links = set s.links.items (c.args.mon.0 - 1) o })) (sym c.replace.ensures.after)
    (seats_seated c.args.mon (record { run = s.run; coordinator = s.desk.coordinator; links = s.links.items }) c.args.link free c.self.invariant greeted c.requires.unsaid)

pub returns-clause-value : goal.returns-clause-value
returns-clause-value g c =
    let s = c.self.inside in
    let Made : Option (LinkView g.row.W.Denot) → SeatsView g.row.W.Denot = λ o. record { run = s.run; coordinator = s.desk.coordinator; links = set s.links.items (c.args.mon.0 - 1) o } in
    subst (λ v. Made c.replace.new.self ≡ record v { links = slice_set v.links (c.args.mon.0 - 1) (Some c.args.link) }) c.self.view_is (ap Made c.replace.ensures.after)

pub index_mut-requires : goal.index_mut-requires
index_mut-requires g c =
    let s = c.self.inside in
    let free = subst (λ v. IsFree c.args.mon.0 v.coordinator.settings.monitors v.links) (sym c.self.view_is) c.requires.free in
    omega (arith, free.some, free.within, c.self.invariant.count, s.links.ok.0)
