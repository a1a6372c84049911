use Rattle.std.proofs.Common.{◌-◌, arith, sym, subst}
use Rattle.tk_journal.specs.Laws.{IsMonitor}
use Rattle.tk_hub.proofs.PipingLemmas.{SeatPipes, pipes_drained, seats_piped}
use Rattle.tk_hub.proofs.SeatsLemmas.{is_within, links_at, read_at}
use Rattle.tk_hub.proofs.seats.Seats.drain_at.Goals as goal

pub invariant_of-self : goal.invariant_of-self
invariant_of-self g c =
    let s = c.self.inside in
    let is = subst (λ v. IsMonitor v.coordinator.settings c.args.mon.0) (sym c.self.view_is) c.requires in
    let within = is_within c.args.mon.0 (record { run = s.run; coordinator = s.desk.coordinator; links = s.links.items }) is c.self.invariant in
    seats_piped c.args.mon.0 (record { run = s.run; coordinator = s.desk.coordinator; links = s.links.items }) c.drain.new.seat is c.self.invariant
    (read_at s.links.items (c.args.mon.0 - 1) c.index_mut.result.now c.drain.new.seat SeatPipes within c.index_mut.ensures.value (pipes_drained g.W.Piped.piece g.W.Piped.bearing c.drain.result c.index_mut.result.now c.drain.new.seat c.args.to.now c.drain.new.to c.drain.ensures))

pub returns-clause-kept : goal.returns-clause-kept
returns-clause-kept g c =
    let s = c.self.inside in
    let is = subst (λ v. IsMonitor v.coordinator.settings c.args.mon.0) (sym c.self.view_is) c.requires in
    let within = is_within c.args.mon.0 (record { run = s.run; coordinator = s.desk.coordinator; links = s.links.items }) is c.self.invariant in
    seats_piped c.args.mon.0 (record { run = s.run; coordinator = s.desk.coordinator; links = s.links.items }) c.drain.new.seat is c.self.invariant
    (read_at s.links.items (c.args.mon.0 - 1) c.index_mut.result.now c.drain.new.seat SeatPipes within c.index_mut.ensures.value (pipes_drained g.W.Piped.piece g.W.Piped.bearing c.drain.result c.index_mut.result.now c.drain.new.seat c.args.to.now c.drain.new.to c.drain.ensures))

pub returns-clause-rest : goal.returns-clause-rest
returns-clause-rest g c =
    let s = c.self.inside in
    let is = subst (λ v. IsMonitor v.coordinator.settings c.args.mon.0) (sym c.self.view_is) c.requires in
    let within = is_within c.args.mon.0 (record { run = s.run; coordinator = s.desk.coordinator; links = s.links.items }) is c.self.invariant in
    links_at c.args.mon.0 s.run s.desk.coordinator s.links.items c.drain.new.seat c.args.self.now within c.self.view_is

pub index_mut-requires : goal.index_mut-requires
index_mut-requires g c =
    let s = c.self.inside in
    let is = subst (λ v. IsMonitor v.coordinator.settings c.args.mon.0) (sym c.self.view_is) c.requires in
    let within = is_within c.args.mon.0 (record { run = s.run; coordinator = s.desk.coordinator; links = s.links.items }) is c.self.invariant in
    omega (arith, within, s.links.ok.0)
