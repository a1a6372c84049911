use Rattle.std.proofs.Common.{◌≡◌, ℕ, suc, ◌+◌, ◌-◌, ◌<◌, ◌≤◌, List, [], ◌∷◌, ◌++◌, length, Some, refl, sym, ap, ◌∙◌, subst, arith, vec_len, vec_capacity}
use Rattle.std.specs.Prelude.{slice_get}
use Rattle.std.proofs.lemmas.Option.{slice_get_read}
use Rattle.tk_journal.specs.declared.noted.Noted.TheVariants as n
use Rattle.tk_journal.specs.Links.{sent_to}
use Rattle.tk_coord.specs.Journal.{IsIndex}
use Rattle.tk_journal.specs.Publishing.{published_in}
use Rattle.tk_coord.proofs.PlaceLemmas.{index_skip, index_push, sent_more, room_less}
use Rattle.tk_coord.proofs.journal.note_entry.Goals as goal

pub returns-in-Got-clause-sent : goal.returns-in-Got-clause-sent
returns-in-Got-clause-sent c = rw c.in-Got.is (λ journal size at j v is. index_skip (sent_to (suc j)) journal v.items (n.Got c.in-Got.field-0 c.in-Got.field-1) refl (at j v is))

pub returns-in-Got-clause-published : goal.returns-in-Got-clause-published
returns-in-Got-clause-published c = rw c.in-Got.is (λ journal size at. index_skip published_in journal c.args.published.now.items (n.Got c.in-Got.field-0 c.in-Got.field-1) refl at)

pub returns-in-Sent-clause-sent : goal.returns-in-Sent-clause-sent
returns-in-Sent-clause-sent c =
    let place = c.in-Sent.mon.0 - 1 in
    let monitor : (0 < c.in-Sent.mon.0) × (c.in-Sent.mon.0 ≤ length c.args.sent.now) = rw c.in-Sent.is at c.requires.monitor in
    let old : slice_get c.args.sent.now place ≡ Some c.index-sent-mon.result =
    slice_get_read c.args.sent.now (length c.args.sent.now) place c.index-sent-mon.result refl (omega arith) c.index-sent-mon.is in
    rw c.in-Sent.is (λ journal size at. sent_more c.args.sent.now journal c.in-Sent.mon c.in-Sent.field-1 c.index-sent-mon.result c.push_reserved.new.self monitor.0 monitor.1 old
    (c.push_reserved.ensures.items ∙ ap (λ v. v.items ++ c.args.place ∷ []) (sym c.index-sent-mon.is) ∙ ap (λ (k : ℕ). c.index-sent-mon.result.items ++ k ∷ []) (sym size)) at)

pub returns-in-Sent-clause-published : goal.returns-in-Sent-clause-published
returns-in-Sent-clause-published c = rw c.in-Sent.is (λ journal size at. index_skip published_in journal c.args.published.now.items (n.Sent c.in-Sent.mon c.in-Sent.field-1) refl at)

pub returns-in-Sent-clause-room : goal.returns-in-Sent-clause-room
returns-in-Sent-clause-room c = λ k room.
    let place = c.in-Sent.mon.0 - 1 in
    let monitor : (0 < c.in-Sent.mon.0) × (c.in-Sent.mon.0 ≤ length c.args.sent.now) = rw c.in-Sent.is at c.requires.monitor in
    let within : place < length c.args.sent.now = omega arith in
    let old : slice_get c.args.sent.now place ≡ Some c.index-sent-mon.result = slice_get_read c.args.sent.now (length c.args.sent.now) place c.index-sent-mon.result refl within c.index-sent-mon.is in
    room_less k c.args.sent.now place c.index-sent-mon.result c.push_reserved.new.self within old
    (c.push_reserved.ensures.len ∙ ap (λ v. vec_len v + 1) (sym c.index-sent-mon.is))
    (c.push_reserved.ensures.capacity ∙ ap vec_capacity (sym c.index-sent-mon.is)) room

pub returns-in-Published-clause-sent : goal.returns-in-Published-clause-sent
returns-in-Published-clause-sent c = rw c.in-Published.is (λ journal size at j v is. index_skip (sent_to (suc j)) journal v.items (n.Published c.in-Published.field-0) refl (at j v is))

pub returns-in-Published-clause-published : goal.returns-in-Published-clause-published
returns-in-Published-clause-published c =
    rw c.in-Published.is (λ journal size at.
    subst (λ (l : List ℕ). IsIndex published_in (journal ++ n.Published c.in-Published.field-0 ∷ []) l)
    (ap (λ (k : ℕ). c.args.published.now.items ++ k ∷ []) size ∙ sym c.push_reserved-in-Published.ensures.items)
    (index_push published_in journal c.args.published.now.items (n.Published c.in-Published.field-0) c.in-Published.field-0 refl at))

pub returns-in-Tuned-clause-sent : goal.returns-in-Tuned-clause-sent
returns-in-Tuned-clause-sent c = rw c.in-Tuned.is (λ journal size at j v is. index_skip (sent_to (suc j)) journal v.items (n.Tuned c.in-Tuned.field-0 c.in-Tuned.field-1) refl (at j v is))

pub returns-in-Tuned-clause-published : goal.returns-in-Tuned-clause-published
returns-in-Tuned-clause-published c = rw c.in-Tuned.is (λ journal size at. index_skip published_in journal c.args.published.now.items (n.Tuned c.in-Tuned.field-0 c.in-Tuned.field-1) refl at)
