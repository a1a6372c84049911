-- What a coordinator does where an entry of a journal is handed in.
use Rattle.std.proofs.Common.{◌≡◌, ℕ, ◌≤◌, List, [], ◌∷◌, ◌++◌, length, Option, None, Result, Ok, Err, true, false, refl, sym, ap, ◌∙◌, subst, arith, inl, inr}
use Rattle.std.specs.Prelude.{ℤ, pos, OnOk}
use Rattle.std.proofs.lemmas.Bool.{false≢true}
use Rattle.tk_base.specs.Settings.{Setup}
use Rattle.tk_base.specs.declared.ids.Mon.{Mon}
use Rattle.tk_coord.specs.Coordinator.{CoordinatorView, IsRefusal}
use Rattle.tk_frames.specs.declared.frame.Frame.{Frame}
use Rattle.tk_journal.specs.Legal.{AreAccepted, IsAccepted, IsLegal, Opening, inputs_of, is_input, opened, played_from, start, turn_of}
use Rattle.tk_journal.specs.Refusal.{refusal_of, retune_refusal_of}
use Rattle.tk_journal.specs.Whole.{BeginsWithInput}
use Rattle.tk_journal.specs.declared.noted.Noted.{Noted}
use Rattle.tk_journal.specs.declared.refusal.CoordRefusal.{CoordRefusal}
use Rattle.tk_journal.specs.declared.refusal.CoordRefusal.TheVariants as c
use Rattle.tk_journal.specs.declared.refusal.RetuneRefusal.{RetuneRefusal}
use Rattle.tk_journal.specs.declared.refusal.RetuneRefusal.TheVariants as r
use Rattle.tk_journal.specs.declared.noted.Noted.TheVariants as n
use Rattle.tk_journal.proofs.WholeLemmas.{inputs-append, opened_legal, played-append, stands_whole, turn_is, begins_beyond, behind_front}
use Rattle.tk_story.proofs.JoiningLemmas.{opens_it}
use Rattle.tk_verify.specs.Driving.{IsDriven, Leads}
use Rattle.tk_verify.proofs.FrontLemmas.{driven_fresh, goes_on_front, more_leads, still_leads}

-- ---- behind a legal journal stands an input

accepted_rest : (s : Setup) (before inputs more : List Noted) → AreAccepted s before (inputs ++ more) → AreAccepted s (played_from s before inputs) more
accepted_rest s before [] more each = each
accepted_rest s before (first ∷ inputs) more each = accepted_rest s (before ++ turn_of s before first) inputs more each.1

behind_is_input : (o : Opening) (j : List Noted) (e : Noted) (rest : List Noted) → IsLegal o j → IsLegal o (j ++ e ∷ rest) → is_input e ≡ true
behind_is_input o j e rest legal whole =
    let s = o.settings in
    let ins = inputs_of j in
    let more = inputs_of (e ∷ rest) in
    let all : inputs_of (j ++ e ∷ rest) ≡ ins ++ more = inputs-append j (e ∷ rest) in
    let accepted : AreAccepted s j more = subst (λ xs. AreAccepted s xs more) (sym legal.played) (accepted_rest s (opened o) ins more (subst (AreAccepted s (opened o)) all whole.accepted)) in
    let b = begins_beyond s j more accepted in
    let is : j ++ e ∷ rest ≡ j ++ b.0 = whole.played ∙ ap (played_from s (opened o)) all ∙ played-append s (opened o) ins more ∙ ap (λ xs. played_from s xs more) (sym legal.played) ∙ b.1 in
    subst BeginsWithInput (sym (behind_front j (e ∷ rest) b.0 is)) b.2

-- ---- turns

pub no_input : (o : Opening) (old : List Noted) (e : Noted) → IsLegal o old → is_input e ≡ false → Leads (IsLegal o) old e old
no_input o old e legal kind = still_leads (IsLegal o) old e legal (λ rest whole. false≢true (sym kind ∙ behind_is_input o old e rest legal whole))

-- an input that is not accepted
unaccepted : (o : Opening) (old : List Noted) (e : Noted) → IsLegal o old → is_input e ≡ true → (IsAccepted o.settings old e → ⊥) → Leads (IsLegal o) old e old
unaccepted o old e legal kind never = still_leads (IsLegal o) old e legal (λ rest whole. never (stands_whole o old e rest whole kind).accepted)

-- an input that is taken: its turn
turns : (o : Opening) (old : List Noted) (e : Noted) → is_input e ≡ true → IsLegal o (old ++ turn_of o.settings old e) → Leads (IsLegal o) old e (old ++ turn_of o.settings old e)
turns o old e kind legal = more_leads (IsLegal o) old e (turn_of o.settings old e) legal (λ rest whole.
    let w = stands_whole o old e rest whole kind in
    let t = turn_is o.settings old e w.accepted in
    (λ none. absurd (let l = ap (λ (xs : List Noted). length xs) t.is in omega (arith, none, l)), record { more = w.rest; is = w.whole }))

pub turned : (o : Opening) (old : List Noted) (e : Noted) (new : List Noted) → is_input e ≡ true → IsLegal o new → new ≡ old ++ turn_of o.settings old e → Leads (IsLegal o) old e new
turned o old e new kind legal is = subst (Leads (IsLegal o) old e) (sym is) (turns o old e kind (subst (IsLegal o) is legal))

-- ---- what is refused

-- where the answer is another than want of memory, some test refuses
some_refuses : {R : Type 0} (want : R) (first : Option R) (why : R) → IsRefusal want first why → (why ≡ want → ⊥) → first ≡ None → ⊥
some_refuses want first why (inl memory) other none = other memory.0
some_refuses want first why (inr some) other none = absurd (cc)

-- a frame of no monitor
pub strange : (s : Setup) (old : List Noted) (from : Mon) (frame : Frame) → IsLegal (start s) old → ((1 ≤ from.0) → (from.0 ≤ s.monitors) → ⊥) → Leads (IsLegal (start s)) old (n.Got from frame) old
strange s old from frame legal none = unaccepted (start s) old (n.Got from frame) legal refl (λ accepted. none accepted.0 accepted.1)

refused : (s : Setup) (old : List Noted) (from : Mon) (frame : Frame) (new : List Noted) → IsLegal (start s) old → new ≡ old → (refusal_of s old from.0 frame ≡ None → ⊥) → Leads (IsLegal (start s)) old (n.Got from frame) new
refused s old from frame new legal is none = subst (Leads (IsLegal (start s)) old (n.Got from frame)) (sym is) (unaccepted (start s) old (n.Got from frame) legal refl (λ accepted. none accepted.2))

-- what a refused frame leads to, unless it was refused for want of memory
pub refused_leads : {E : Type 0} (s : Setup) (old : List Noted) (from : Mon) (frame : Frame) (why : CoordRefusal) (new : List Noted) (answer : Result (Unit {0}) E) → IsLegal (start s) old → new ≡ old
    → IsRefusal c.NoMemory (refusal_of s old from.0 frame) why → OnOk answer (why ≡ c.NoMemory → ⊥) → OnOk answer (Leads (IsLegal (start s)) old (n.Got from frame) new)
refused_leads s old from frame why new (Ok done) legal is h other = refused s old from frame new legal is (some_refuses c.NoMemory (refusal_of s old from.0 frame) why h other)
refused_leads s old from frame why new (Err none) legal is h other = tt

-- an epsilon that is none
pub below_zero : (s : Setup) (old : List Noted) (k : ℕ) (epsilon : ℤ) → IsLegal (start s) old → ((e : ℕ) → epsilon ≡ pos e → ⊥) → Leads (IsLegal (start s)) old (n.Tuned k epsilon) old
below_zero s old k epsilon legal none = unaccepted (start s) old (n.Tuned k epsilon) legal refl (λ accepted. none accepted.0 accepted.1)

untuned : (s : Setup) (old : List Noted) (k e : ℕ) (epsilon : ℤ) (new : List Noted) → IsLegal (start s) old → epsilon ≡ pos e → new ≡ old → (retune_refusal_of s old k e ≡ None → ⊥) → Leads (IsLegal (start s)) old (n.Tuned k epsilon) new
untuned s old k e epsilon new legal size is none = subst (Leads (IsLegal (start s)) old (n.Tuned k epsilon)) (sym is) (unaccepted (start s) old (n.Tuned k epsilon) legal refl (λ accepted.
    let same : pos e ≡ pos accepted.0 = sym size ∙ accepted.1 in
    let one : accepted.0 ≡ e = cc in
    none (subst (λ x. retune_refusal_of s old k x ≡ None) one accepted.2)))

-- what a refused retune leads to, unless it was refused for want of memory
pub untuned_leads : {E : Type 0} (s : Setup) (old : List Noted) (k e : ℕ) (epsilon : ℤ) (why : RetuneRefusal) (new : List Noted) (answer : Result (Unit {0}) E) → IsLegal (start s) old → epsilon ≡ pos e → new ≡ old
    → IsRefusal r.NoMemory (retune_refusal_of s old k e) why → OnOk answer (why ≡ r.NoMemory → ⊥) → OnOk answer (Leads (IsLegal (start s)) old (n.Tuned k epsilon) new)
untuned_leads s old k e epsilon why new (Ok done) legal size is h other = untuned s old k e epsilon new legal size is (some_refuses r.NoMemory (retune_refusal_of s old k e) why h other)
untuned_leads s old k e epsilon why new (Err none) legal size is h other = tt

-- ---- the beginning

pub fresh : (s : Setup) → IsDriven (IsLegal (start s)) [] (opened (start s))
fresh s = driven_fresh (IsLegal (start s)) (opened (start s)) (opened_legal (start s)) (λ whole legal. goes_on_front (opened (start s)) whole (opens_it (start s) whole legal).is)

-- a coordinator with the same settings leads on
pub reached : (settings : Setup) (old : CoordinatorView) (seen : List Noted) (entry : Noted) (new : List Noted) (place : ℕ) → old.settings ≡ settings → IsDriven (IsLegal (start settings)) seen old.journal → length seen ≡ place
    → ((seen : List Noted) → IsDriven (IsLegal (start old.settings)) seen old.journal → length seen ≡ place → Leads (IsLegal (start old.settings)) seen entry new) → Leads (IsLegal (start settings)) seen entry new
reached settings old seen entry new place same driven size leads =
    subst (λ s. Leads (IsLegal (start s)) seen entry new) same (leads seen (subst (λ s. IsDriven (IsLegal (start s)) seen old.journal) (sym same) driven) size)
