use Rattle.std.proofs.Common.{◌≡◌, refl, sym, subst}
use Rattle.tk_world.specs.Nodes.{AtSeat, HasSeat, NodesView}
use Rattle.tk_bytes.proofs.WiredLemmas.{at_walked}
use Rattle.tk_bytes.proofs.wired.WiredNodes.taken.Goals as goal

pub returns : goal.returns
returns c =
    let w = c.self.inside in
    let has = subst (λ (v : NodesView). HasSeat v c.args.mon.0) (sym c.self.view_is) c.requires in
    subst (λ (v : NodesView). AtSeat v c.args.mon.0 (λ seat. c.index.result.now.taken ≡ seat.taken)) c.self.view_is
    (at_walked w.hub w.lines.items c.args.mon.0 (λ seat. c.index.result.now.taken ≡ seat.taken) c.index.result.now has c.index.ensures refl)
