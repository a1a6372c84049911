use Rattle.std.proofs.Common.{◌≡◌, ◌-◌, suc, length, refl, ap, sym, ◌∙◌, subst, arith}
use Rattle.std.proofs.lemmas.Option.{slice_get_read}
use Rattle.tk_journal.specs.Laws.{IsMonitor}
use Rattle.tk_journal.specs.Refusal.{shown_by}
use Rattle.tk_coord.specs.Coordinator.{CoordinatorView}
use Rattle.tk_coord.specs.State.{peer_at}
use Rattle.tk_coord.proofs.ShownLemmas.{shown_is}
use Rattle.tk_coord.proofs.coordinator.Coordinator.shown.Goals as goal

pub returns : goal.returns
returns c =
    let f = c.self.inside in
    let mon = c.args.mon.0 in
    let range = subst (λ (v : CoordinatorView). IsMonitor v.settings mon) (sym c.self.view_is) c.requires.monitor in
    let peers = c.self.invariant.0.holds.peers in
    let number : suc (mon - 1) ≡ mon = omega (arith, range.from_one) in
    let there = slice_get_read f.state.peers.items (length f.state.peers.items) (mon - 1) c.index-peer.result.now refl
    (omega (arith, range.within, peers.count, range.from_one)) c.index-peer.ensures in
    let peer = peers.each (mon - 1) c.index-peer.result.now there ∙ ap (λ q. peer_at f.journal.entries q) number in
    c.shown_of.ensures
    ∙ shown_is f.settings f.journal.entries mon c.index-peer.result.now f.state.round f.state.gathered.items f.phase.stopped
    range peer c.self.invariant.0.holds.round c.self.invariant.0.stands.stopped
    ∙ ap (λ (v : CoordinatorView). shown_by mon v.journal) c.self.view_is
