use Rattle.std.proofs.Common.{◌≡◌, ◌-◌, ◌+◌, set, length, ap, sym, subst, arith, ◌∙◌}
use Rattle.tk_coord.specs.Coordinator.{CoordinatorView}
use Rattle.tk_journal.specs.Links.{frames_to}
use Rattle.tk_world.specs.Nodes.{AtSeat, CanGoDown, GoesDown, HasSeat, NodesView}
use Rattle.tk_world.proofs.EnabledLemmas.{on_err}
use Rattle.tk_bytes.specs.Wired.{seen_of}
use Rattle.tk_bytes.proofs.WiredLemmas.{comes_to, down_seen, down_wired, of_walked, stays_seen, stays_wired, walked_at}
use Rattle.tk_bytes.proofs.wired.WiredNodes.down.Goals as goal
use Rattle.tk_bytes.proofs.WayLemmas.{within_at}

pub carry_down-requires-clause-line : goal.carry_down-requires-clause-line
carry_down-requires-clause-line c =
    let w = c.self.inside in
    let mon = c.args.mon.0 in
    let at = c.index_mut-walked.ensures.value in
    let has = subst (λ (v : NodesView). HasSeat v mon) (sym c.self.view_is) c.requires.seat in
    let here = walked_at w.hub w.lines.items mon c.index_mut-walked.result.now c.self.invariant has at in
    here.line

pub carry_down-requires-clause-next : goal.carry_down-requires-clause-next
carry_down-requires-clause-next c =
    let w = c.self.inside in
    let mon = c.args.mon.0 in
    let at = c.index_mut-walked.ensures.value in
    let has = subst (λ (v : NodesView). HasSeat v mon) (sym c.self.view_is) c.requires.seat in
    let here = walked_at w.hub w.lines.items mon c.index_mut-walked.result.now c.self.invariant has at in
    let go = of_walked w.hub w.lines.items mon (CanGoDown (seen_of w.hub w.lines.items) mon) c.index_mut-walked.result.now has at (subst (λ (v : NodesView). AtSeat v mon (CanGoDown v mon)) (sym c.self.view_is) c.requires.accepted) in
    let comes = comes_to mon w.hub w.lines.items c.index_mut-walked.result.now here go in
    (go.frame, comes)

pub invariant_of-self : goal.invariant_of-self
invariant_of-self c =
    let w = c.self.inside in
    let mon = c.args.mon.0 in
    let at = c.index_mut-walked.ensures.value in
    let has = subst (λ (v : NodesView). HasSeat v mon) (sym c.self.view_is) c.requires.seat in
    let here = walked_at w.hub w.lines.items mon c.index_mut-walked.result.now c.self.invariant has at in
    stays_wired mon w.hub c.carry_down.new.hub w.lines.items c.index_mut-walked.result.now c.carry_down.new.line c.self.invariant has at c.carry_down.ensures.line c.in_err-carry_down.ensures.err c.carry_down.ensures.others c.carry_down.ensures.coordinator

pub returns-in_err-carry_down-clause-err : goal.returns-in_err-carry_down-clause-err
returns-in_err-carry_down-clause-err c =
    let w = c.self.inside in
    let mon = c.args.mon.0 in
    let at = c.index_mut-walked.ensures.value in
    let has = subst (λ (v : NodesView). HasSeat v mon) (sym c.self.view_is) c.requires.seat in
    let here = walked_at w.hub w.lines.items mon c.index_mut-walked.result.now c.self.invariant has at in
    on_err c.from_residual.result (stays_seen mon w.hub c.carry_down.new.hub w.lines.items c.index_mut-walked.result.now c.carry_down.new.line at c.in_err-carry_down.ensures.err c.carry_down.ensures.coordinator ∙ c.self.view_is)

pub prove-unreachable-requires : goal.prove-unreachable-requires
prove-unreachable-requires c =
    let w = c.self.inside in
    let mon = c.args.mon.0 in
    let at = c.index_mut-walked.ensures.value in
    let has = subst (λ (v : NodesView). HasSeat v mon) (sym c.self.view_is) c.requires.seat in
    let here = walked_at w.hub w.lines.items mon c.index_mut-walked.result.now c.self.invariant has at in
    let go = of_walked w.hub w.lines.items mon (CanGoDown (seen_of w.hub w.lines.items) mon) c.index_mut-walked.result.now has at (subst (λ (v : NodesView). AtSeat v mon (CanGoDown v mon)) (sym c.self.view_is) c.requires.accepted) in
    let comes = comes_to mon w.hub w.lines.items c.index_mut-walked.result.now here go in
    let fault = c.if-prove.true in
    let below = within_at (frames_to mon w.hub.coordinator.journal) c.index_mut-walked.result.now.taken go.frame go.next in
    let count : c.sent.result ≡ length (frames_to mon w.hub.coordinator.journal) = c.sent.ensures ∙ ap (λ (k : CoordinatorView). length (frames_to mon k.journal)) (c.coordinator.ensures.value ∙ c.carry_down.ensures.coordinator) in
    absurd (omega (arith, fault, below, count))

pub invariant_of-self-2 : goal.invariant_of-self-2
invariant_of-self-2 c =
    let w = c.self.inside in
    let mon = c.args.mon.0 in
    let at = c.index_mut-walked.ensures.value in
    let has = subst (λ (v : NodesView). HasSeat v mon) (sym c.self.view_is) c.requires.seat in
    let here = walked_at w.hub w.lines.items mon c.index_mut-walked.result.now c.self.invariant has at in
    let go = of_walked w.hub w.lines.items mon (CanGoDown (seen_of w.hub w.lines.items) mon) c.index_mut-walked.result.now has at (subst (λ (v : NodesView). AtSeat v mon (CanGoDown v mon)) (sym c.self.view_is) c.requires.accepted) in
    let comes = comes_to mon w.hub w.lines.items c.index_mut-walked.result.now here go in
    down_wired mon w.hub c.carry_down.new.hub w.lines.items c.index_mut-walked.result.now c.carry_down.new.line go.frame c.self.invariant has at c.carry_down.ensures.line c.carry_down.ensures.others c.carry_down.ensures.coordinator (c.in_ok-carry_down.ensures.ok go.frame comes)

pub returns-clause-ok : goal.returns-clause-ok
returns-clause-ok c =
    let w = c.self.inside in
    let mon = c.args.mon.0 in
    let at = c.index_mut-walked.ensures.value in
    let has = subst (λ (v : NodesView). HasSeat v mon) (sym c.self.view_is) c.requires.seat in
    let here = walked_at w.hub w.lines.items mon c.index_mut-walked.result.now c.self.invariant has at in
    let go = of_walked w.hub w.lines.items mon (CanGoDown (seen_of w.hub w.lines.items) mon) c.index_mut-walked.result.now has at (subst (λ (v : NodesView). AtSeat v mon (CanGoDown v mon)) (sym c.self.view_is) c.requires.accepted) in
    let comes = comes_to mon w.hub w.lines.items c.index_mut-walked.result.now here go in
    let after = seen_of c.carry_down.new.hub (set w.lines.items (mon - 1) (record { line = c.carry_down.new.line; taken = c.index_mut-walked.result.now.taken + 1; got = c.index_mut-walked.result.now.got })) in
    subst (λ (v : NodesView). AtSeat v mon (GoesDown mon v after)) c.self.view_is
    (down_seen mon w.hub c.carry_down.new.hub w.lines.items c.index_mut-walked.result.now c.carry_down.new.line has at go (c.in_ok-carry_down.ensures.ok go.frame comes) c.carry_down.ensures.coordinator)
