use Rattle.std.proofs.Common.{◌-◌, arith, set, sym, subst}
use Rattle.tk_journal.specs.Laws.{IsMonitor}
use Rattle.tk_hub.specs.Seats.{link_at}
use Rattle.tk_hub.specs.Slot.{SeatHears}
use Rattle.tk_hub.proofs.SeatsLemmas.{is_within, read_at, rest_at, seats_heard, seen_at}
use Rattle.tk_hub.proofs.seats.Seats.hear_at.Goals as goal

pub invariant_of-self : goal.invariant_of-self
invariant_of-self g c =
    let s = c.self.inside in
    let is = subst (λ v. IsMonitor v.coordinator.settings c.args.mon.0) (sym c.self.view_is) c.requires in
    let within = is_within c.args.mon.0 (record { run = s.run; coordinator = s.desk.coordinator; links = s.links.items }) is c.self.invariant in
    seats_heard s.run c.args.mon.0 c.hear.result s.links.items c.hear.new.seat s.desk c.hear.new.desk is c.self.invariant
    (read_at s.links.items (c.args.mon.0 - 1) c.index_mut.result.now c.hear.new.seat (λ o p. SeatHears c.args.mon.0 c.hear.result o p s.desk c.hear.new.desk) within c.index_mut.ensures.value c.hear.ensures)

pub returns-clause-kept : goal.returns-clause-kept
returns-clause-kept g c =
    let s = c.self.inside in
    let is = subst (λ v. IsMonitor v.coordinator.settings c.args.mon.0) (sym c.self.view_is) c.requires in
    let within = is_within c.args.mon.0 (record { run = s.run; coordinator = s.desk.coordinator; links = s.links.items }) is c.self.invariant in
    seats_heard s.run c.args.mon.0 c.hear.result s.links.items c.hear.new.seat s.desk c.hear.new.desk is c.self.invariant
    (read_at s.links.items (c.args.mon.0 - 1) c.index_mut.result.now c.hear.new.seat (λ o p. SeatHears c.args.mon.0 c.hear.result o p s.desk c.hear.new.desk) within c.index_mut.ensures.value c.hear.ensures)

pub returns-clause-hears : goal.returns-clause-hears
returns-clause-hears g c =
    let s = c.self.inside in
    let is = subst (λ v. IsMonitor v.coordinator.settings c.args.mon.0) (sym c.self.view_is) c.requires in
    let within = is_within c.args.mon.0 (record { run = s.run; coordinator = s.desk.coordinator; links = s.links.items }) is c.self.invariant in
    subst (λ v. SeatHears c.args.mon.0 c.hear.result (link_at v.links (c.args.mon.0 - 1)) (link_at (set s.links.items (c.args.mon.0 - 1) c.hear.new.seat) (c.args.mon.0 - 1)) (record { coordinator = v.coordinator }) c.hear.new.desk) c.self.view_is
    (seen_at s.links.items (c.args.mon.0 - 1) c.index_mut.result.now c.hear.new.seat (λ o p. SeatHears c.args.mon.0 c.hear.result o p s.desk c.hear.new.desk) within c.index_mut.ensures.value c.hear.ensures)

pub returns-clause-rest : goal.returns-clause-rest
returns-clause-rest g c =
    let s = c.self.inside in
    let is = subst (λ v. IsMonitor v.coordinator.settings c.args.mon.0) (sym c.self.view_is) c.requires in
    let within = is_within c.args.mon.0 (record { run = s.run; coordinator = s.desk.coordinator; links = s.links.items }) is c.self.invariant in
    rest_at c.args.mon.0 s.run s.desk.coordinator c.hear.new.desk.coordinator s.links.items c.hear.new.seat c.args.self.now within c.self.view_is

pub index_mut-requires : goal.index_mut-requires
index_mut-requires g c =
    let s = c.self.inside in
    let is = subst (λ v. IsMonitor v.coordinator.settings c.args.mon.0) (sym c.self.view_is) c.requires in
    let within = is_within c.args.mon.0 (record { run = s.run; coordinator = s.desk.coordinator; links = s.links.items }) is c.self.invariant in
    omega (arith, within, s.links.ok.0)

pub hear-requires : goal.hear-requires
hear-requires g c =
    let is = subst (λ v. IsMonitor v.coordinator.settings c.args.mon.0) (sym c.self.view_is) c.requires in
    record { some_monitor = is.from_one; monitor = is.within }
