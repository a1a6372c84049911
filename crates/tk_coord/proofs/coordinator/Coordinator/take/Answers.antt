use Rattle.std.proofs.Common.{◌≡◌, ◌∙◌, ◌++◌, List, ap, sym, subst}
use Rattle.std.specs.Prelude.{Result, Ok, Err, OnOk, IfErr}
use Rattle.tk_frames.specs.declared.frame.Frame.{Frame}
use Rattle.tk_journal.specs.Legal.{IsLegal, Opening, turn_of}
use Rattle.tk_journal.specs.declared.noted.Noted.{Noted}
use Rattle.tk_journal.specs.declared.noted.Noted.TheVariants as n
use Rattle.tk_journal.specs.declared.refusal.CoordRefusal.{CoordRefusal}
use Rattle.tk_journal.specs.declared.refusal.CoordRefusal.TheVariants.{NoMemory as NoRoom}
use Rattle.tk_coord.specs.Coordinator.{CoordinatorView}
use Rattle.tk_coord.proofs.GrowLemmas.{legal_by_frame}
use Rattle.tk_coord.proofs.coordinator.Coordinator.take.Goals as goal

-- a journal that has grown by a legal turn is legal, and one that has not is what it was
legal_either : {A E : Type 0} (o : Opening) (old new grown : List Noted) (P : E → Type 0) (r : Result A E) → ((e : E) → P e → new ≡ old) → OnOk r (new ≡ grown) → IfErr r P → IsLegal o old
    → IsLegal o grown → IsLegal o new
legal_either o old new grown P (Ok x) kept ok err before after = subst (IsLegal o) (sym ok) after
legal_either o old new grown P (Err e) kept ok err before after = subst (IsLegal o) (sym (kept e err)) before

pub returns-clause-legal : goal.returns-clause-legal
returns-clause-legal c = λ o is legal.
    let old = c.args.self.now in
    let same : c.prepare.new.self ≡ old = c.in-Ok.ensures.same in
    legal_either o old.journal c.note.new.self.journal (old.journal ++ turn_of old.settings old.journal (n.Got c.args.mon c.args.frame))
    (λ (e : CoordRefusal × Frame). (e.0 ≡ NoRoom) × (e.1 ≡ c.args.frame) × (c.note.new.self ≡ c.prepare.new.self)) c.note.result
    (λ e kept. ap (λ (v : CoordinatorView). v.journal) (kept.2 ∙ same))
    (subst (λ (v : CoordinatorView). OnOk c.note.result (c.note.new.self.journal ≡ v.journal ++ turn_of v.settings v.journal (n.Got c.args.mon c.args.frame))) same c.note.ensures.ok)
    c.note.ensures.err legal
    (legal_by_frame old.settings o old.journal c.args.mon c.args.frame is legal (record { from_one = c.requires.some_monitor; within = c.requires.monitor }) c.in-Ok.ensures.taken)
