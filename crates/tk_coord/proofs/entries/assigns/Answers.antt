use Rattle.std.proofs.Common.{◌≡◌, ℕ, ◌+◌, ◌-◌, ◌^◌, ◌<◌, ◌≤◌, List, length, get_or, below_more, arith, sym, ap, ◌∙◌, subst}
use Rattle.std.proofs.lemmas.List.{get_or_default}
use Rattle.std.proofs.lemmas.List.Elements.{All-push}
use Rattle.tk_frames.specs.declared.frame.Frame.TheVariants as f
use Rattle.tk_rows.specs.declared.mon_change.MonChange.{MonChange}
use Rattle.tk_journal.specs.Entries.{IsEntryOf}
use Rattle.tk_journal.specs.declared.noted.Noted.TheVariants as n
use Rattle.tk_coord.specs.Dealing.{assigns_by}
use Rattle.tk_coord.proofs.EntriesLemmas.{assign_to, assigns_more}
use Rattle.tk_coord.proofs.entries.assigns.Goals as goal

pub loop-change-preserved : goal.loop-change-preserved
loop-change-preserved c =
    let peers = c.args.peers.now in
    let members = c.args.reallocation.now.members in
    let at = c.args.reallocation.now.at.items in
    let i = c.loop-change.change-index in
    let item = c.change-item.result in
    let here : item ≡ get_or at i item = c.change-item.is ∙ ap (λ (l : List MonChange). get_or l i item) c.deref-change-items.ensures.value in
    let within : i < length at = subst (λ (l : List MonChange). i < length l) c.deref-change-items.ensures.value c.loop-change-test.true in
    let named = c.requires i item within in
    let low : 0 < item.mon.0 = subst (λ (x : MonChange). 0 < x.mon.0) (sym here) named.0 in
    let high : item.mon.0 ≤ length peers = subst (λ (x : MonChange). x.mon.0 ≤ length peers) (sym here) named.1 in
    let seq : c.in_ok-seq.seq ≡ assigns_by peers item.mon.0 + 1 = c.in_ok-seq.ensures.value in
    let told : n.Sent (record { 0 = item.mon.0 }) (f.Assign c.in_ok-seq.seq members c.in_ok-changes.changes) ≡ assign_to peers members (item.mon.0, item.changes) =
    λ k. n.Sent (record { 0 = item.mon.0 }) (f.Assign (seq k) members (c.in_ok-changes.ensures k)) in
    let each : ℕ → Type 0 = λ k. (d : MonChange) → assigns_by peers (get_or at k d).mon.0 < 2 ^ 64 - 1 in record {
      same = assigns_more peers members at i item within c.loop-change.invariant.same c.push_reserved.ensures.items
          (c.in_ok-assign.ensures.value ∙ told ∙ ap (λ (x : MonChange). assign_to peers members (x.mon.0, x.changes)) here);
      few = λ k d below.
          below_more each i (λ q low' e. c.loop-change.invariant.few q e low')
          (λ e. subst (λ (x : MonChange). assigns_by peers x.mon.0 < 2 ^ 64 - 1) (here ∙ get_or_default at i item e within) c.in_ok-seq.ensures.room) k below d;
      len = omega (arith, c.push_reserved.ensures.len, c.loop-change.invariant.len);
      room = omega (arith, c.push_reserved.ensures.capacity, c.loop-change.invariant.room);
      entries = λ q.
          rw c.push_reserved.ensures.items
          (All-push (IsEntryOf (length peers) q) c.loop-change.entries.items c.in_ok-assign.field-0 (c.loop-change.invariant.entries q)
          (c.in_ok-assign.ensures.monitor (length peers) q low high));
    }
