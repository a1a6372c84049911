use Rattle.std.proofs.Common.{◌-◌, sym, subst}
use Rattle.tk_journal.specs.Laws.{IsMonitor}
use Rattle.tk_hub.proofs.PipingLemmas.{hub_piped, pipes_drained}
use Rattle.tk_hub.specs.Seats.{link_at}
use Rattle.tk_hub.proofs.hub.Hub.drain.Goals as goal

pub invariant_of-self : goal.invariant_of-self
invariant_of-self g c =
    let h = c.self.inside in
    let is = subst (λ v. IsMonitor v.coordinator.settings c.args.mon.0) (sym c.self.view_is) c.requires in
    hub_piped c.args.mon.0 (record { run = h.seats.run; coordinator = h.seats.coordinator; links = h.seats.links; held = h.lobby.held; strangers = h.lobby.strangers; lines = h.lines; course = h.course }) c.drain_at.new.self is c.self.invariant c.drain_at.ensures.kept
    (pipes_drained g.W.Piped.piece g.W.Piped.bearing c.drain_at.result (link_at h.seats.links (c.args.mon.0 - 1)) (link_at c.drain_at.new.self.links (c.args.mon.0 - 1)) c.args.to.now c.drain_at.new.to c.drain_at.ensures.drains) c.drain_at.ensures.rest

pub returns-clause-kept : goal.returns-clause-kept
returns-clause-kept g c =
    let h = c.self.inside in
    let is = subst (λ v. IsMonitor v.coordinator.settings c.args.mon.0) (sym c.self.view_is) c.requires in
    hub_piped c.args.mon.0 (record { run = h.seats.run; coordinator = h.seats.coordinator; links = h.seats.links; held = h.lobby.held; strangers = h.lobby.strangers; lines = h.lines; course = h.course }) c.drain_at.new.self is c.self.invariant c.drain_at.ensures.kept
    (pipes_drained g.W.Piped.piece g.W.Piped.bearing c.drain_at.result (link_at h.seats.links (c.args.mon.0 - 1)) (link_at c.drain_at.new.self.links (c.args.mon.0 - 1)) c.args.to.now c.drain_at.new.to c.drain_at.ensures.drains) c.drain_at.ensures.rest
