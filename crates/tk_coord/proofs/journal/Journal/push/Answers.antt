use Rattle.std.proofs.Common.{◌≡◌, ◌+◌, ◌-◌, ◌++◌, ℕ, List, length, take, drop, sym, ap, ◌∙◌, subst, arith}
use Rattle.std.specs.Global.{Vec}
use Rattle.std.proofs.lemmas.List.{length_push}
use Rattle.tk_journal.specs.Publishing.{published_in}
use Rattle.tk_journal.specs.declared.noted.Noted.{Noted}
use Rattle.tk_coord.specs.Journal.{AreIndexed, HasRoom, IsIndex, JournalView}
use Rattle.tk_coord.proofs.PlaceLemmas.{written_back}
use Rattle.tk_coord.proofs.journal.Journal.push.Goals as goal

pub invariant_of-self : goal.invariant_of-self
invariant_of-self c =
    let f = c.self.inside in
    let left : f.spare ≡ c.args.self.now.spare = ap (λ (k : JournalView). k.spare) c.self.view_is in
    let less : f.spare ≡ (f.spare - 1) + 1 = omega (arith, left, c.requires.room) in
    let items = c.push_reserved.ensures.items in
    let grown : length c.push_reserved.new.self.items ≡ length f.entries.items + 1 = rw items (length_push f.entries.items c.args.entry) in
    let size : length f.entries.items ≡ c.len.result = sym (c.len.ensures ∙ f.entries.ok.0) in
    let sent = c.note_entry.new.sent in
    let is : take f.sent.len (sent ++ drop (length sent) f.sent.items) ≡ sent =
    written_back sent f.sent.items f.sent.len (c.note_entry.ensures.same ∙ ap length c.as_mut_slice-sent.ensures.value ∙ sym f.sent.ok.0) in
    let room = c.note_entry.ensures.published_room (f.spare - 1) (omega (arith, c.self.invariant.1, f.published.ok.0, less)) in
    let more = c.note_entry.ensures.room (f.spare - 1) (subst (λ (k : ℕ). HasRoom k c.as_mut_slice-sent.result.now) less (rw c.as_mut_slice-sent.ensures.value c.self.invariant.2)) in
    let frames = c.note_entry.ensures.sent f.entries.items size (rw c.as_mut_slice-sent.ensures.value c.self.invariant.3) in (
      omega (arith, c.self.invariant.0, grown, less, c.push_reserved.ensures.capacity),
      omega (arith, room, c.note_entry.new.published.ok.0),
      subst (HasRoom (f.spare - 1)) (sym is) more,
      subst (λ (l : List (Vec ℕ)). AreIndexed c.push_reserved.new.self.items l) (sym is) (subst (λ (es : List Noted). AreIndexed es sent) (sym items) frames),
      subst (λ (es : List Noted). IsIndex published_in es c.note_entry.new.published.items) (sym items) (c.note_entry.ensures.published f.entries.items size c.self.invariant.4),
    )
