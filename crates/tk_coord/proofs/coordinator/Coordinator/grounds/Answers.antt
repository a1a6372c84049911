use Rattle.std.proofs.Common.{List, sym, ap, ◌∙◌, subst}
use Rattle.tk_journal.specs.Readings.{members_at, table_at}
use Rattle.tk_coord.specs.Coordinator.{CoordinatorView, IsJournal}
use Rattle.tk_coord.specs.State.{ArePeers, Stands}
use Rattle.tk_coord.specs.declared.peer.Peer.{Peer}
use Rattle.tk_coord.proofs.coordinator.Coordinator.grounds.Goals as goal

pub returns : goal.returns
returns c =
    let f = c.self.inside in
    let see = c.self.view_is in
    let h = c.self.invariant.0 in
    record {
      journal = subst (λ (v : CoordinatorView). IsJournal v.settings v.journal) see h.journal;
      named = h.holds.members ∙ ap (λ (v : CoordinatorView). members_at v.journal) see;
      dealt = h.holds.table ∙ ap (λ (v : CoordinatorView). table_at v.settings v.journal) see;
      are_peers = subst (λ (v : CoordinatorView). ArePeers v.settings v.journal c.as_slice.result.now) see
          (subst (λ (ls : List Peer). ArePeers f.settings f.journal.entries ls) (sym c.as_slice.ensures.value) h.holds.peers);
      stands = subst (λ (v : CoordinatorView). Stands v.settings v.journal f.phase) see h.stands;
      counted = c.requires;
    }
