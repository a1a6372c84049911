-- What a monitor does where an entry of a trail is handed in.
use Rattle.std.proofs.Common.{◌≡◌, ℕ, ◌-◌, ◌<◌, List, [], ◌∷◌, ◌++◌, length, take, Option, Some, None, Result, Ok, Err, refl, sym, ap, ◌∙◌, subst, arith, append_assoc}
use Rattle.std.specs.Prelude.{OnOk, ℤ, slice_get}
use Rattle.std.proofs.lemmas.Option.{get_or_from_slice_get}
use Rattle.tk_base.specs.Settings.{Setup}
use Rattle.tk_base.specs.declared.ids.Feeder.{Feeder}
use Rattle.tk_frames.specs.declared.frame.Frame.{Frame}
use Rattle.tk_input.specs.Logs.{LogSet, parts_of}
use Rattle.tk_monitor.specs.Monitored.{AnswersTake, MonitorView, Raises, made}
use Rattle.tk_monitor.specs.declared.outcome.Raised.{Raised}
use Rattle.tk_monitor.specs.declared.outcome.Raised.TheVariants.{Done, Ended}
use Rattle.tk_story.specs.Ends.{as_made, made_for}
use Rattle.tk_trail.specs.Setup.{MonitorSetup}
use Rattle.tk_trail.specs.Frames.{answer_to, due_at, owed_at}
use Rattle.tk_trail.specs.Legal.{HasNext, IsLegal, after_check, after_take, part_length, place_of, to_send, with_answer}
use Rattle.tk_trail.specs.Refusal.{refusal_of}
use Rattle.tk_trail.specs.declared.entry.Entry.{Entry}
use Rattle.tk_trail.specs.declared.entry.Entry.TheVariants as e
use Rattle.tk_trail.specs.declared.refusal.MonitorRefusal.{MonitorRefusal}
use Rattle.tk_trail.specs.declared.refusal.MonitorRefusal.TheVariants.{NoMemory}
use Rattle.tk_trail.proofs.LawLemmas.{allowed_at, answered_at_once}
use Rattle.tk_verify.specs.Driving.{IsDriven, Leads}
use Rattle.tk_verify.proofs.FrontLemmas.{driven_fresh, more_leads, one_leads, still_leads}
use Rattle.tk_monitor.proofs.StartLemmas.{start_legal}

-- ---- a raise

-- a feeder that has no next change, or is none
unraised : (setup : MonitorSetup) (old : List Entry) (f : Feeder) → IsLegal setup old → (HasNext setup old f.0 → ⊥) → Leads (IsLegal setup) old (e.Raised f) old
unraised setup old f legal none = still_leads (IsLegal setup) old (e.Raised f) legal (λ rest whole. none (allowed_at setup old rest (e.Raised f) whole).2)

pub no_feeder : (setup : MonitorSetup) (old : List Entry) (f : Feeder) → IsLegal setup old → f.0 < 1 → Leads (IsLegal setup) old (e.Raised f) old
no_feeder setup old f legal none = unraised setup old f legal (λ next. let low = next.from_one in absurd (omega (arith, none, low)))

pub no_feeder_past : (setup : MonitorSetup) (old : List Entry) (f : Feeder) → IsLegal setup old → length setup.parts < f.0 → Leads (IsLegal setup) old (e.Raised f) old
no_feeder_past setup old f legal past = unraised setup old f legal (λ next. let high = next.one_of in absurd (omega (arith, past, high)))

has_ended : (setup : MonitorSetup) (old : List Entry) (g : ℕ) → place_of setup old g ≡ part_length setup g → HasNext setup old g → ⊥
has_ended setup old g is next = let less = next.not_ended in omega (arith, is, less)

pub record Handed (old : MonitorView) (entry : Entry) (new : MonitorView) : Type 0 where
  pub made : as_made new ≡ as_made old
  pub leads : Leads (IsLegal old.setup) old.trail entry new.trail

pub raised : (old : MonitorView) (f : Feeder) (answer : Raised) (new : MonitorView) → IsLegal old.setup old.trail → IsLegal new.setup new.trail → Raises old f answer new → Handed old (e.Raised f) new
raised old f (Done broken) new legal then h = record {
  made = ap as_made h.1;
  leads = one_leads (IsLegal old.setup) old.trail (e.Raised f) new.trail (subst (λ setup. IsLegal setup new.trail) (ap (λ (m : MonitorView). m.setup) h.1) then) (ap (λ (m : MonitorView). m.trail) h.1);
}
raised old f Ended new legal then h = record {
  made = ap as_made h.1;
  leads = subst (λ (m : MonitorView). Leads (IsLegal old.setup) old.trail (e.Raised f) m.trail) (sym h.1) (unraised old.setup old.trail f legal (has_ended old.setup old.trail f.0 h.0));
}

-- ---- a frame

one_front : (x : Entry) (xs : List Entry) → take 1 xs ≡ x ∷ [] → (rest : List Entry) × (xs ≡ x ∷ rest)
one_front x [] is = absurd (cc)
one_front x (y ∷ ys) is = let same : y ≡ x = cc in (ys, ap (λ z. z ∷ ys) same)

answered : (setup : MonitorSetup) (old : List Entry) (frame : Frame) (answer : Option Frame) → answer_to setup (old ++ e.Took frame ∷ []) frame ≡ answer
    → IsLegal setup (with_answer (old ++ e.Took frame ∷ []) answer) → Leads (IsLegal setup) old (e.Took frame) (with_answer (old ++ e.Took frame ∷ []) answer)
answered setup old frame None is legal = one_leads (IsLegal setup) old (e.Took frame) (old ++ e.Took frame ∷ []) legal refl
answered setup old frame (Some answer) is legal =
    let turn = e.Took frame ∷ e.Sent answer ∷ [] in
    let same : (old ++ e.Took frame ∷ []) ++ e.Sent answer ∷ [] ≡ old ++ turn = append_assoc old (e.Took frame ∷ []) (e.Sent answer ∷ []) in
    subst (Leads (IsLegal setup) old (e.Took frame)) (sym same)
    (more_leads (IsLegal setup) old (e.Took frame) turn (subst (IsLegal setup) same legal) (λ rest whole.
    let one = one_front (e.Sent answer) rest (answered_at_once setup old rest frame answer whole is) in
    (λ none. absurd (omega (arith, none)), record { more = one.0; is = ap (λ xs. e.Took frame ∷ xs) one.1 })))

pub took : (setup : MonitorSetup) (old : List Entry) (frame : Frame) → IsLegal setup (after_take setup old frame) → Leads (IsLegal setup) old (e.Took frame) (after_take setup old frame)
took setup old frame legal = answered setup old frame (answer_to setup (old ++ e.Took frame ∷ []) frame) refl legal

pub taken : (old : MonitorView) (frame : Frame) (new : MonitorView) → IsLegal new.setup new.trail → new ≡ record old { trail = after_take old.setup old.trail frame } → Handed old (e.Took frame) new
taken old frame new legal is =
    let after = record old { trail = after_take old.setup old.trail frame } in
    subst (λ (m : MonitorView). Handed old (e.Took frame) m) (sym is) (record {
      made = refl;
      leads = took old.setup old.trail frame (subst (λ (m : MonitorView). IsLegal m.setup m.trail) is legal);
    })

-- a frame that is refused, for another cause than memory
refused_by : (refusal : Option MonitorRefusal) (frame : Frame) (back : MonitorRefusal × Frame) → AnswersTake refusal frame (Err back) → (back.0 ≡ NoMemory → ⊥) → refusal ≡ None → ⊥
refused_by (Some refusal) frame back h other none = absurd (cc)
refused_by None frame back h other none = other (ap (λ (x : MonitorRefusal × Frame). x.0) h)

refused : (old : MonitorView) (frame : Frame) (back : MonitorRefusal × Frame) (new : MonitorView) → IsLegal old.setup old.trail → new ≡ old → AnswersTake (refusal_of old.setup old.trail frame) frame (Err back) → (back.0 ≡ NoMemory → ⊥)
    → Handed old (e.Took frame) new
refused old frame back new legal is h other = subst (λ (m : MonitorView). Handed old (e.Took frame) m) (sym is) (record {
  made = refl;
  leads = still_leads (IsLegal old.setup) old.trail (e.Took frame) legal (λ rest whole.
      refused_by (refusal_of old.setup old.trail frame) frame back h other (allowed_at old.setup old.trail rest (e.Took frame) whole).1);
})

-- what a refused frame leads to, unless it was refused for want of memory
pub refused_leads : {E : Type 0} (old : MonitorView) (frame : Frame) (why : MonitorRefusal) (back : Frame) (new : MonitorView) (answer : Result (Unit {0}) E) → IsLegal old.setup old.trail → new ≡ old
    → AnswersTake (refusal_of old.setup old.trail frame) frame (Err (why, back)) → OnOk answer (why ≡ NoMemory → ⊥) → OnOk answer (Leads (IsLegal old.setup) old.trail (e.Took frame) new.trail)
refused_leads old frame why back new (Ok done) legal is h other = (refused old frame (why, back) new legal is h other).leads
refused_leads old frame why back new (Err none) legal is h other = tt

-- ---- a check

due_is : (setup : MonitorSetup) (old : List Entry) (owed due : Option Frame) (frame : Frame) → owed_at setup old ≡ owed → owed ≡ None → due_at setup old ≡ due → to_send setup old owed ≡ Some frame → due ≡ Some frame
due_is setup old None due frame owed none is send = sym is ∙ send
due_is setup old (Some answer) due frame owed none is send = absurd (cc)

checked_as : (setup : MonitorSetup) (old : List Entry) (frame : Frame) (due : Option Frame) → due_at setup old ≡ due → IsLegal setup old → IsLegal setup (with_answer old due) → Leads (IsLegal setup) old (e.Sent frame) (with_answer old due)
checked_as setup old frame None is legal then = still_leads (IsLegal setup) old (e.Sent frame) legal (λ rest whole.
    let sent = (allowed_at setup old rest (e.Sent frame) whole).1 in
    let due = due_is setup old (owed_at setup old) None frame refl legal.answered is sent in
    absurd (cc))
checked_as setup old frame (Some due) is legal then = more_leads (IsLegal setup) old (e.Sent frame) (e.Sent due ∷ []) then (λ rest whole.
    let sent = (allowed_at setup old rest (e.Sent frame) whole).1 in
    let same : Some due ≡ Some frame = due_is setup old (owed_at setup old) (Some due) frame refl legal.answered is sent in
    let one : frame ≡ due = cc in
    (λ none. absurd (omega (arith, none)), record { more = rest; is = ap (λ (x : Frame). e.Sent x ∷ rest) one }))

pub checked : (old : MonitorView) (frame : Frame) (new : MonitorView) → IsLegal old.setup old.trail → IsLegal new.setup new.trail → new ≡ record old { trail = after_check old.setup old.trail } → Handed old (e.Sent frame) new
checked old frame new legal then is =
    subst (λ (m : MonitorView). Handed old (e.Sent frame) m) (sym is) (record {
      made = refl;
      leads = checked_as old.setup old.trail frame (due_at old.setup old.trail) refl legal (subst (λ (m : MonitorView). IsLegal m.setup m.trail) is then);
    })

-- ---- over a trail

pub fresh : (setup : MonitorSetup) (now : List Entry) → now ≡ [] → IsDriven (IsLegal setup) [] now
fresh setup now is = subst (IsDriven (IsLegal setup) []) (sym is) (driven_fresh (IsLegal setup) [] (start_legal setup) (λ whole _. record { more = whole; is = refl }))

-- a monitor that is made like another leads on as that one does
pub reached : (first old : MonitorView) (seen : List Entry) (entry : Entry) (new : List Entry) (place : ℕ) → as_made old ≡ as_made first → IsDriven (IsLegal first.setup) seen old.trail → length seen ≡ place
    → ((seen : List Entry) → IsDriven (IsLegal old.setup) seen old.trail → length seen ≡ place → Leads (IsLegal old.setup) seen entry new) → Leads (IsLegal first.setup) seen entry new
reached first old seen entry new place made driven size leads =
    let same : old.setup ≡ first.setup = ap (λ (m : MonitorView). m.setup) made in
    subst (λ s. Leads (IsLegal s) seen entry new) same (leads seen (subst (λ s. IsDriven (IsLegal s) seen old.trail) (sym same) driven) size)

-- a monitor that is made with its parts and places is the one that a run makes
pub made_here : (settings : Setup) (logs : LogSet) (from : List (List ℕ)) (mon : ℕ) (parts : List (List (ℕ × ℤ))) (places : List ℕ) (m : MonitorView) → parts ≡ parts_of logs.logs mon → slice_get from (mon - 1) ≡ Some places → m ≡ made settings mon parts places → m ≡ made_for settings logs from mon
made_here settings logs from mon parts places m parts_are at is =
    is ∙ ap (λ p. made settings mon p places) parts_are ∙ ap (made settings mon (parts_of logs.logs mon)) (sym (get_or_from_slice_get from (mon - 1) places [] at))
