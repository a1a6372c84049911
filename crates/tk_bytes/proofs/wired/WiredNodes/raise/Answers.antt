use Rattle.std.proofs.Common.{◌-◌, set, sym, subst}
use Rattle.tk_monitor.specs.Monitored.{IsFeederOf}
use Rattle.tk_world.specs.Nodes.{AtSeat, HasSeat, NodesView, RaisesAt}
use Rattle.tk_bytes.specs.Wired.{seen_of}
use Rattle.tk_bytes.proofs.WiredLemmas.{of_walked, port_wired, raised_at, raised_on}
use Rattle.tk_bytes.proofs.wired.WiredNodes.raise.Goals as goal

pub raise-requires : goal.raise-requires
raise-requires c =
    let w = c.self.inside in
    let has = subst (λ (v : NodesView). HasSeat v c.args.mon.0) (sym c.self.view_is) c.requires.seat in
    let feeder = subst (λ (v : NodesView). AtSeat v c.args.mon.0 (λ seat. IsFeederOf seat.monitor.setup c.args.f.0)) (sym c.self.view_is) c.requires.feeder in
    of_walked w.hub w.lines.items c.args.mon.0 (λ seat. IsFeederOf seat.monitor.setup c.args.f.0) c.index_mut-walked.result.now has c.index_mut-walked.ensures.value feeder

pub invariant_of-self : goal.invariant_of-self
invariant_of-self c =
    let w = c.self.inside in
    let has = subst (λ (v : NodesView). HasSeat v c.args.mon.0) (sym c.self.view_is) c.requires.seat in
    port_wired c.args.mon.0 w.hub w.lines.items c.index_mut-walked.result.now c.raise.new.self c.self.invariant has c.index_mut-walked.ensures.value
    (raised_on c.index_mut-walked.result.now.line.port c.raise.new.self c.args.f c.raise.result c.raise.ensures.answer c.raise.ensures.rest c.raise.ensures.kept)

pub returns : goal.returns
returns c =
    let w = c.self.inside in
    let has = subst (λ (v : NodesView). HasSeat v c.args.mon.0) (sym c.self.view_is) c.requires.seat in
    let after = seen_of w.hub (set w.lines.items (c.args.mon.0 - 1) (record c.index_mut-walked.result.now { line = record { port = c.raise.new.self; up = c.index_mut-walked.result.now.line.up; down = c.index_mut-walked.result.now.line.down } })) in
    subst (λ (v : NodesView). AtSeat v c.args.mon.0 (RaisesAt c.args.mon.0 c.args.f c.raise.result v after)) c.self.view_is
    (raised_at c.args.mon.0 w.hub w.lines.items c.index_mut-walked.result.now c.raise.new.self c.args.f c.raise.result has c.index_mut-walked.ensures.value c.raise.ensures.answer)
