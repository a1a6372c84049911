use Rattle.std.proofs.Common.{◌≡◌, ◌-◌, suc, not, List, Option, Some, None, length, refl, sym, ap, ◌∙◌, subst}
use Rattle.std.specs.Vec.{with_item, with_items}
use Rattle.std.proofs.lemmas.List.{with_items_is}
use Rattle.tk_alloc.specs.declared.reported.Reported.{Reported}
use Rattle.tk_rows.specs.declared.mon_change.MonChange.{MonChange}
use Rattle.tk_coord.specs.declared.peer.Peer.{Peer}
use Rattle.tk_coord.specs.Keeping.{AreChanged, HasPlace, CanReply, is_but, assigned_at}
use Rattle.tk_coord.specs.Steps.{IsReply, IsAsked, AreAssigned}
use Rattle.tk_coord.specs.declared.state.State.{State}
use Rattle.tk_coord.specs.declared.step.Reply.{Reply}
use Rattle.tk_coord.specs.declared.step.Reply.TheVariants as reply
use Rattle.tk_coord.proofs.AskLemmas.{holds_asked, but_opener}
use Rattle.tk_coord.proofs.AssignLemmas.{holds_assigned}
use Rattle.tk_coord.proofs.state.State.reply.Goals as goal

pub returns-in-None : goal.returns-in-None
returns-in-None c = λ s j entries sent h.
    let old : State = c.args.self.now in
    let round = c.in-Ask.round in
    let peers = c.ask.new.peers in
    let count : length peers ≡ length old.peers.items = c.ask.ensures.count ∙ ap length c.as_mut_slice.ensures.value in
    let new : State = record old { peers = with_items old.peers peers; round = round } in
    let asks : IsAsked s j entries round c.in-Ask.opener = subst (λ (r : Reply). IsReply s j entries r) c.in-Ask.is sent in
    holds_asked s j entries round None None old new (subst (λ (o : Option Reported). IsAsked s j entries round o) c.in-None.is asks) (record {
      board = refl;
      same = λ i. refl;
      peers = peers;
      are = with_items_is old.peers peers (count ∙ sym old.peers.ok.0);
      count = count;
      each = subst (λ (was : List Peer). AreChanged (λ i l. record l { waits = not (is_but None i) }) was peers) c.as_mut_slice.ensures.value c.ask.ensures.each;
      round = refl;
      gathered = refl;
    }) h

pub returns-in-Some : goal.returns-in-Some
returns-in-Some c = λ s j entries sent h.
    let old : State = c.args.self.now in
    let round = c.in-Ask.round in
    let report = c.in-Some.report in
    let place = report.mon.0 - 1 in
    let peers = c.ask-in-Some.new.peers in
    let count : length peers ≡ length old.peers.items = c.ask-in-Some.ensures.count ∙ ap length c.as_mut_slice-in-Some.ensures.value in
    let new : State = record old { peers = with_items old.peers peers; round = round; gathered = with_item old.gathered place report } in
    let asks : IsAsked s j entries round c.in-Ask.opener = subst (λ (r : Reply). IsReply s j entries r) c.in-Ask.is sent in
    let can : CanReply old (reply.Ask round c.in-Ask.opener) = subst (λ (r : Reply). CanReply old r) c.in-Ask.is c.requires in
    let there : HasPlace old report.mon.0 = subst (λ (o : Option Reported). CanReply old (reply.Ask round o)) c.in-Some.is can in
    holds_asked s j entries round (Some report) (Some place) old new (subst (λ (o : Option Reported). IsAsked s j entries round o) c.in-Some.is asks) (record {
      board = refl;
      same = λ i. but_opener report i there.some;
      peers = peers;
      are = with_items_is old.peers peers (count ∙ sym old.peers.ok.0);
      count = count;
      each = subst (λ (was : List Peer). AreChanged (λ i l. record l { waits = not (is_but (Some place) i) }) was peers) c.as_mut_slice-in-Some.ensures.value c.ask-in-Some.ensures.each;
      round = refl;
      gathered = refl;
    }) h

pub returns-in-Assign : goal.returns-in-Assign
returns-in-Assign c = λ s j entries sent h.
    let old : State = c.args.self.now in
    let change = c.in-Assign.reallocation in
    let peers = c.assign.new.peers in
    let count : length peers ≡ length old.peers.items = c.assign.ensures.count ∙ ap length c.as_mut_slice-in-Assign.ensures.value in
    let new : State = record old { board = c.replace.new.self; peers = with_items old.peers peers } in
    let assigns : AreAssigned s j entries change = subst (λ (r : Reply). IsReply s j entries r) c.in-Assign.is sent in
    holds_assigned s j entries change old new assigns (record {
      members = c.replace.ensures.members;
      table = c.replace.ensures.table;
      peers = peers;
      are = with_items_is old.peers peers (count ∙ sym old.peers.ok.0);
      count = count;
      each = subst (λ (at : List MonChange). AreChanged (λ i l. assigned_at (suc i) at l) old.peers.items peers) c.as_slice.ensures.value
          (subst (λ (was : List Peer). AreChanged (λ i l. assigned_at (suc i) c.as_slice.result.now l) was peers) c.as_mut_slice-in-Assign.ensures.value c.assign.ensures.each);
      round = refl;
      gathered = refl;
    }) h
