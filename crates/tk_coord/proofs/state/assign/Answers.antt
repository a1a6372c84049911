use Rattle.std.proofs.Common.{◌≤◌, ◌-◌, ◌<◌, ◌+◌, [], ◌∷◌, ◌++◌, ℕ, length, None, sym, ap, ◌∙◌, subst, arith, take, get_or}
use Rattle.std.proofs.lemmas.List.{length-set, take_more}
use Rattle.std.proofs.lemmas.Option.{slice_get-get_or}
use Rattle.tk_rows.specs.declared.mon_change.MonChange.{MonChange}
use Rattle.tk_coord.specs.declared.peer.Peer.{Peer}
use Rattle.tk_coord.proofs.PeerLemmas.{assigned_next}
use Rattle.tk_coord.proofs.state.assign.Goals as goal

pub loop-change-preserved : goal.loop-change-preserved
loop-change-preserved c =
    let changes = c.args.changes.now in
    let old = c.args.peers.now in
    let now = c.loop-change.peers in
    let i = c.loop-change.change-index in
    let change : MonChange = c.change-item.result in
    let place = change.mon.0 - 1 in
    let named : (0 < change.mon.0) × (change.mon.0 ≤ length old) =
    subst (λ (x : MonChange). (0 < x.mon.0) × (x.mon.0 ≤ length old)) (sym c.change-item.is) (c.requires i change c.loop-change-test.true) in
    let size = c.loop-change.invariant.0 in
    let low = named.0 in
    let high = named.1 in
    let within : place < length now = omega (arith, size, low, high) in
    let peer : Peer = get_or now place c.index-peers-change.result in
    let next : Peer = record peer { assigns = c.saturating_add-peer.result; answer = None } in (
      length-set now place next ∙ size,
      assigned_next (take i changes) (take (i + 1) changes) change old now place peer next
          (take_more changes i change c.loop-change-test.true ∙ ap (λ (x : MonChange). take i changes ++ x ∷ []) (sym c.change-item.is))
          (omega (arith, low))
          (slice_get-get_or now place c.index-peers-change.result within)
          (ap (λ (n : ℕ). record peer { assigns = n; answer = None }) c.saturating_add-peer.ensures)
          c.loop-change.invariant.1,
    )
