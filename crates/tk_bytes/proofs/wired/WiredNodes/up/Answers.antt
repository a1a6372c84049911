use Rattle.std.proofs.Common.{◌≡◌, ◌-◌, ◌+◌, set, length, ap, sym, subst, arith, ◌∙◌}
use Rattle.tk_monitor.specs.Monitored.{MonitorView}
use Rattle.tk_trail.specs.Readings.{sent_by}
use Rattle.tk_world.specs.Nodes.{AtSeat, CanGoUp, GoesUp, HasSeat, NodesView}
use Rattle.tk_world.proofs.EnabledLemmas.{on_err}
use Rattle.tk_bytes.specs.Wired.{seen_of}
use Rattle.tk_bytes.proofs.WiredLemmas.{comes_up, up_seen, up_wired, of_walked, stays_seen, stays_wired, walked_at}
use Rattle.tk_bytes.proofs.wired.WiredNodes.up.Goals as goal
use Rattle.tk_bytes.proofs.WayLemmas.{within_at}

pub carry_up-requires-clause-line : goal.carry_up-requires-clause-line
carry_up-requires-clause-line c =
    let w = c.self.inside in
    let mon = c.args.mon.0 in
    let at = c.index_mut-walked.ensures.value in
    let has = subst (λ (v : NodesView). HasSeat v mon) (sym c.self.view_is) c.requires.seat in
    let here = walked_at w.hub w.lines.items mon c.index_mut-walked.result.now c.self.invariant has at in
    here.line

pub carry_up-requires-clause-next : goal.carry_up-requires-clause-next
carry_up-requires-clause-next c =
    let w = c.self.inside in
    let mon = c.args.mon.0 in
    let at = c.index_mut-walked.ensures.value in
    let has = subst (λ (v : NodesView). HasSeat v mon) (sym c.self.view_is) c.requires.seat in
    let here = walked_at w.hub w.lines.items mon c.index_mut-walked.result.now c.self.invariant has at in
    let go = of_walked w.hub w.lines.items mon (CanGoUp (seen_of w.hub w.lines.items) mon) c.index_mut-walked.result.now has at (subst (λ (v : NodesView). AtSeat v mon (CanGoUp v mon)) (sym c.self.view_is) c.requires.accepted) in
    let comes = comes_up mon w.hub w.lines.items c.index_mut-walked.result.now here go in
    (go.frame, comes)

pub invariant_of-self : goal.invariant_of-self
invariant_of-self c =
    let w = c.self.inside in
    let mon = c.args.mon.0 in
    let at = c.index_mut-walked.ensures.value in
    let has = subst (λ (v : NodesView). HasSeat v mon) (sym c.self.view_is) c.requires.seat in
    let here = walked_at w.hub w.lines.items mon c.index_mut-walked.result.now c.self.invariant has at in
    stays_wired mon w.hub c.carry_up.new.hub w.lines.items c.index_mut-walked.result.now c.carry_up.new.line c.self.invariant has at c.carry_up.ensures.line c.carry_up.ensures.port c.carry_up.ensures.others c.in_err-carry_up.ensures.err

pub returns-in_err-carry_up-clause-err : goal.returns-in_err-carry_up-clause-err
returns-in_err-carry_up-clause-err c =
    let w = c.self.inside in
    let mon = c.args.mon.0 in
    let at = c.index_mut-walked.ensures.value in
    let has = subst (λ (v : NodesView). HasSeat v mon) (sym c.self.view_is) c.requires.seat in
    let here = walked_at w.hub w.lines.items mon c.index_mut-walked.result.now c.self.invariant has at in
    on_err c.from_residual.result (stays_seen mon w.hub c.carry_up.new.hub w.lines.items c.index_mut-walked.result.now c.carry_up.new.line at c.carry_up.ensures.port c.in_err-carry_up.ensures.err ∙ c.self.view_is)

pub prove-unreachable-requires : goal.prove-unreachable-requires
prove-unreachable-requires c =
    let w = c.self.inside in
    let mon = c.args.mon.0 in
    let at = c.index_mut-walked.ensures.value in
    let has = subst (λ (v : NodesView). HasSeat v mon) (sym c.self.view_is) c.requires.seat in
    let here = walked_at w.hub w.lines.items mon c.index_mut-walked.result.now c.self.invariant has at in
    let go = of_walked w.hub w.lines.items mon (CanGoUp (seen_of w.hub w.lines.items) mon) c.index_mut-walked.result.now has at (subst (λ (v : NodesView). AtSeat v mon (CanGoUp v mon)) (sym c.self.view_is) c.requires.accepted) in
    let comes = comes_up mon w.hub w.lines.items c.index_mut-walked.result.now here go in
    let fault = c.if-prove.true in
    let below = within_at (sent_by c.index_mut-walked.result.now.line.port.monitor.trail) c.index_mut-walked.result.now.got go.frame go.next in
    let count : c.sent.result ≡ length (sent_by c.index_mut-walked.result.now.line.port.monitor.trail) = c.sent.ensures ∙ ap (λ (m : MonitorView). length (sent_by m.trail)) (c.monitor.ensures.value ∙ c.carry_up.ensures.port) in
    absurd (omega (arith, fault, below, count))

pub invariant_of-self-2 : goal.invariant_of-self-2
invariant_of-self-2 c =
    let w = c.self.inside in
    let mon = c.args.mon.0 in
    let at = c.index_mut-walked.ensures.value in
    let has = subst (λ (v : NodesView). HasSeat v mon) (sym c.self.view_is) c.requires.seat in
    let here = walked_at w.hub w.lines.items mon c.index_mut-walked.result.now c.self.invariant has at in
    let go = of_walked w.hub w.lines.items mon (CanGoUp (seen_of w.hub w.lines.items) mon) c.index_mut-walked.result.now has at (subst (λ (v : NodesView). AtSeat v mon (CanGoUp v mon)) (sym c.self.view_is) c.requires.accepted) in
    let comes = comes_up mon w.hub w.lines.items c.index_mut-walked.result.now here go in
    up_wired mon w.hub c.carry_up.new.hub w.lines.items c.index_mut-walked.result.now c.carry_up.new.line go.frame c.self.invariant has at c.carry_up.ensures.line c.carry_up.ensures.port c.carry_up.ensures.others go.accepted (c.in_ok-carry_up.ensures.ok go.frame comes)

pub returns-clause-ok : goal.returns-clause-ok
returns-clause-ok c =
    let w = c.self.inside in
    let mon = c.args.mon.0 in
    let at = c.index_mut-walked.ensures.value in
    let has = subst (λ (v : NodesView). HasSeat v mon) (sym c.self.view_is) c.requires.seat in
    let here = walked_at w.hub w.lines.items mon c.index_mut-walked.result.now c.self.invariant has at in
    let go = of_walked w.hub w.lines.items mon (CanGoUp (seen_of w.hub w.lines.items) mon) c.index_mut-walked.result.now has at (subst (λ (v : NodesView). AtSeat v mon (CanGoUp v mon)) (sym c.self.view_is) c.requires.accepted) in
    let comes = comes_up mon w.hub w.lines.items c.index_mut-walked.result.now here go in
    let after = seen_of c.carry_up.new.hub (set w.lines.items (mon - 1) (record { line = c.carry_up.new.line; taken = c.index_mut-walked.result.now.taken; got = c.index_mut-walked.result.now.got + 1 })) in
    subst (λ (v : NodesView). AtSeat v mon (GoesUp c.args.mon v after)) c.self.view_is
    (up_seen c.args.mon w.hub c.carry_up.new.hub w.lines.items c.index_mut-walked.result.now c.carry_up.new.line has at go c.carry_up.ensures.port (c.in_ok-carry_up.ensures.ok go.frame comes))
