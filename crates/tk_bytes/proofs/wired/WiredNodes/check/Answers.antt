use Rattle.std.proofs.Common.{◌≡◌, ◌-◌, set, sym, subst, ◌∙◌}
use Rattle.tk_monitor.specs.Stepped.{checking}
use Rattle.tk_world.specs.Nodes.{AtSeat, HasSeat, NodesView, with_seat}
use Rattle.tk_world.proofs.EnabledLemmas.{on_err}
use Rattle.tk_bytes.specs.Wired.{seen_of}
use Rattle.tk_bytes.proofs.WiredLemmas.{checked_on, checked_seen, port_wired, same_on, same_seen, walked_at}
use Rattle.tk_world.specs.declared.seat.Seat.{Seat}
use Rattle.tk_bytes.proofs.wired.WiredNodes.check.Goals as goal

pub check-requires : goal.check-requires
check-requires c =
    let w = c.self.inside in
    let has = subst (λ (v : NodesView). HasSeat v c.args.mon.0) (sym c.self.view_is) c.requires in
    (walked_at w.hub w.lines.items c.args.mon.0 c.index_mut-walked.result.now c.self.invariant has c.index_mut-walked.ensures.value).line.open_port

pub invariant_of-self : goal.invariant_of-self
invariant_of-self c =
    let w = c.self.inside in
    let has = subst (λ (v : NodesView). HasSeat v c.args.mon.0) (sym c.self.view_is) c.requires in
    port_wired c.args.mon.0 w.hub w.lines.items c.index_mut-walked.result.now c.check.new.self c.self.invariant has c.index_mut-walked.ensures.value
    (same_on c.index_mut-walked.result.now.line.port c.check.new.self c.in_err-check.ensures.err c.check.ensures.kept)

pub returns-in_err-check-clause-err : goal.returns-in_err-check-clause-err
returns-in_err-check-clause-err c =
    let w = c.self.inside in
    on_err c.from_residual.result (same_seen c.args.mon.0 w.hub w.lines.items c.index_mut-walked.result.now c.check.new.self c.index_mut-walked.ensures.value c.in_err-check.ensures.err ∙ c.self.view_is)

pub invariant_of-self-2 : goal.invariant_of-self-2
invariant_of-self-2 c =
    let w = c.self.inside in
    let has = subst (λ (v : NodesView). HasSeat v c.args.mon.0) (sym c.self.view_is) c.requires in
    port_wired c.args.mon.0 w.hub w.lines.items c.index_mut-walked.result.now c.check.new.self c.self.invariant has c.index_mut-walked.ensures.value
    (checked_on c.index_mut-walked.result.now.line.port c.check.new.self c.in_ok-check.ensures.ok c.check.ensures.kept)

pub returns-clause-ok : goal.returns-clause-ok
returns-clause-ok c =
    let w = c.self.inside in
    let has = subst (λ (v : NodesView). HasSeat v c.args.mon.0) (sym c.self.view_is) c.requires in
    let after = seen_of w.hub (set w.lines.items (c.args.mon.0 - 1) (record c.index_mut-walked.result.now { line = record { port = c.check.new.self; up = c.index_mut-walked.result.now.line.up; down = c.index_mut-walked.result.now.line.down } })) in
    subst (λ (v : NodesView). AtSeat v c.args.mon.0 (λ (seat : Seat). after ≡ with_seat v c.args.mon.0 (record seat { monitor = checking seat.monitor }))) c.self.view_is
    (checked_seen c.args.mon.0 w.hub w.lines.items c.index_mut-walked.result.now c.check.new.self has c.index_mut-walked.ensures.value c.in_ok-check.ensures.ok)
