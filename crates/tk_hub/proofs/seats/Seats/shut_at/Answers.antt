use Rattle.std.proofs.Common.{◌-◌, arith, set, sym, subst}
use Rattle.tk_journal.specs.Laws.{IsMonitor}
use Rattle.tk_hub.specs.Seats.{SeatShuts, link_at}
use Rattle.tk_hub.proofs.SeatsLemmas.{is_within, links_at, read_at, seats_shut, seen_at}
use Rattle.tk_hub.proofs.seats.Seats.shut_at.Goals as goal

pub invariant_of-self : goal.invariant_of-self
invariant_of-self g c =
    let s = c.self.inside in
    let is = subst (λ v. IsMonitor v.coordinator.settings c.args.mon.0) (sym c.self.view_is) c.requires in
    let within = is_within c.args.mon.0 (record { run = s.run; coordinator = s.desk.coordinator; links = s.links.items }) is c.self.invariant in
    seats_shut c.args.mon.0 (record { run = s.run; coordinator = s.desk.coordinator; links = s.links.items }) c.shut.new.seat is c.self.invariant
    (read_at s.links.items (c.args.mon.0 - 1) c.index_mut.result.now c.shut.new.seat SeatShuts within c.index_mut.ensures.value c.shut.ensures)

pub returns-clause-kept : goal.returns-clause-kept
returns-clause-kept g c =
    let s = c.self.inside in
    let is = subst (λ v. IsMonitor v.coordinator.settings c.args.mon.0) (sym c.self.view_is) c.requires in
    let within = is_within c.args.mon.0 (record { run = s.run; coordinator = s.desk.coordinator; links = s.links.items }) is c.self.invariant in
    seats_shut c.args.mon.0 (record { run = s.run; coordinator = s.desk.coordinator; links = s.links.items }) c.shut.new.seat is c.self.invariant
    (read_at s.links.items (c.args.mon.0 - 1) c.index_mut.result.now c.shut.new.seat SeatShuts within c.index_mut.ensures.value c.shut.ensures)

pub returns-clause-rest : goal.returns-clause-rest
returns-clause-rest g c =
    let s = c.self.inside in
    let is = subst (λ v. IsMonitor v.coordinator.settings c.args.mon.0) (sym c.self.view_is) c.requires in
    let within = is_within c.args.mon.0 (record { run = s.run; coordinator = s.desk.coordinator; links = s.links.items }) is c.self.invariant in
    links_at c.args.mon.0 s.run s.desk.coordinator s.links.items c.shut.new.seat c.args.self.now within c.self.view_is

pub index_mut-requires : goal.index_mut-requires
index_mut-requires g c =
    let s = c.self.inside in
    let is = subst (λ v. IsMonitor v.coordinator.settings c.args.mon.0) (sym c.self.view_is) c.requires in
    let within = is_within c.args.mon.0 (record { run = s.run; coordinator = s.desk.coordinator; links = s.links.items }) is c.self.invariant in
    omega (arith, within, s.links.ok.0)

pub returns-clause-shuts : goal.returns-clause-shuts
returns-clause-shuts g c =
    let s = c.self.inside in
    let is = subst (λ v. IsMonitor v.coordinator.settings c.args.mon.0) (sym c.self.view_is) c.requires in
    let within = is_within c.args.mon.0 (record { run = s.run; coordinator = s.desk.coordinator; links = s.links.items }) is c.self.invariant in
    let place = c.args.mon.0 - 1 in
    subst (λ v. SeatShuts (link_at v.links place) (link_at (set s.links.items place c.shut.new.seat) place)) c.self.view_is
    (seen_at s.links.items place c.index_mut.result.now c.shut.new.seat SeatShuts within c.index_mut.ensures.value c.shut.ensures)
