-- Frames of one monitor that are taken one after the other, and what that leaves to the others.
use Rattle.std.proofs.Common.{◌≡◌, ℕ, List, [], ◌∷◌, ◌++◌, Option, Some, None, Bool, true, false, refl, sym, ap, ◌∙◌, subst, append-nil}
use Rattle.std.specs.Prelude.{if◌then◌else◌}
use Rattle.std.proofs.lemmas.Bool.{ne_eqb}
use Rattle.tk_base.specs.History.{IsFront}
use Rattle.tk_base.specs.Settings.{Setup}
use Rattle.tk_coord.specs.Coordinator.{CoordinatorView}
use Rattle.tk_end.proofs.HearingLemmas.{front_refl, front_trans}
use Rattle.tk_end.specs.Actor.{TakesAll}
use Rattle.tk_frames.specs.declared.frame.Frame.{Frame}
use Rattle.tk_journal.proofs.Appends.{frames_from-append}
use Rattle.tk_journal.proofs.WholeLemmas.{turn_is}
use Rattle.tk_journal.specs.Laws.{IsMonitor}
use Rattle.tk_journal.specs.Legal.{turn_of}
use Rattle.tk_journal.specs.Links.{frames_from, frames_to}
use Rattle.tk_journal.specs.Readings.{is_stopped}
use Rattle.tk_journal.specs.Refusal.{refusal_of}
use Rattle.tk_journal.specs.declared.noted.Noted.{Noted}
use Rattle.tk_journal.specs.declared.noted.Noted.TheVariants as n
use Rattle.tk_journal.specs.declared.refusal.CoordRefusal.{CoordRefusal}
use Rattle.tk_hub.proofs.DeskLemmas.{said_after}
use Rattle.tk_journal.proofs.HeardLemmas.{no_input}
use Rattle.tk_hub.specs.Desk.{getting, refuses, takes}
use Rattle.tk_hub.specs.Turn.{Reaches, Stays, Takes}
use Rattle.tk_hub.specs.declared.desk.Desk.{Desk}

pub reaches_on : (a b c : CoordinatorView) → Reaches a b → Reaches b c → Reaches a c
reaches_on a b c (Stays from to is) q = subst (λ m. Reaches m c) is q
reaches_on a b c (Takes from to mon frame is none p) q = Takes a c mon frame is none (reaches_on (getting a mon frame) b c p q)

pub reaches_taken : (mon : ℕ) (frames : List Frame) (a b : Desk) → IsMonitor a.coordinator.settings mon → TakesAll refuses takes mon a frames b → Reaches a.coordinator b.coordinator
reaches_taken mon [] a b is all = Stays a.coordinator b.coordinator (ap (λ d. d.coordinator) all)
reaches_taken mon (frame ∷ frames) a b is all = Takes a.coordinator b.coordinator mon frame is all.0 (reaches_taken mon frames (takes mon frame a) b is all.1)

pub reaches_settings : (a b : CoordinatorView) → Reaches a b → b.settings ≡ a.settings
reaches_settings a b (Stays from to is) = ap (λ c. c.settings) is
reaches_settings a b (Takes from to mon frame is none p) = reaches_settings (getting a mon frame) b p

-- ---- the other monitors

got_other : (mon peer : ℕ) (frame : Frame) (rest : List Noted) → (peer ≡ mon → ⊥) → frames_from mon rest ≡ [] → frames_from mon (n.Got (record { 0 = peer }) frame ∷ rest) ≡ []
got_other mon peer frame rest apart none = rw (ne_eqb peer mon apart, none) refl

other_after : (s : Setup) (j : List Noted) (mon peer : ℕ) (frame : Frame) → (peer ≡ mon → ⊥) → IsMonitor s peer → refusal_of s j peer frame ≡ None → frames_from mon (j ++ turn_of s j (n.Got (record { 0 = peer }) frame)) ≡ frames_from mon j
other_after s j mon peer frame apart is none =
    let t = turn_is s j (n.Got (record { 0 = peer }) frame) (is.from_one, is.within, none) in
    frames_from-append mon j (turn_of s j (n.Got (record { 0 = peer }) frame))
    ∙ ap (λ xs. frames_from mon j ++ xs) (ap (frames_from mon) t.is ∙ got_other mon peer frame t.rest apart (no_input mon t.rest t.none))
    ∙ append-nil (frames_from mon j)

pub others_heard : (mon peer : ℕ) (frames : List Frame) (a b : Desk) → (peer ≡ mon → ⊥) → IsMonitor a.coordinator.settings peer → TakesAll refuses takes peer a frames b → frames_from mon b.coordinator.journal ≡ frames_from mon a.coordinator.journal
others_heard mon peer [] a b apart is all = ap (λ d. frames_from mon d.coordinator.journal) all
others_heard mon peer (frame ∷ frames) a b apart is all =
    others_heard mon peer frames (takes peer frame a) b apart is all.1 ∙ other_after a.coordinator.settings a.coordinator.journal mon peer frame apart is all.0

pub others_said : (mon peer : ℕ) (frames : List Frame) (a b : Desk) → TakesAll refuses takes peer a frames b → IsFront (frames_to mon a.coordinator.journal) (frames_to mon b.coordinator.journal)
others_said mon peer [] a b all = subst (λ d. IsFront (frames_to mon a.coordinator.journal) (frames_to mon d.coordinator.journal)) (sym all) (front_refl (frames_to mon a.coordinator.journal))
others_said mon peer (frame ∷ frames) a b all =
    let j = a.coordinator.journal in
    let turn = turn_of a.coordinator.settings j (n.Got (record { 0 = peer }) frame) in
    front_trans (frames_to mon j) (frames_to mon (j ++ turn)) (frames_to mon b.coordinator.journal) (said_after j turn mon) (others_said mon peer frames (takes peer frame a) b all.1)

-- ---- after Stop

stops_over : (b : Bool) (why : CoordRefusal) (o : Option CoordRefusal) → b ≡ true → (if b then Some why else o) ≡ None → ⊥
stops_over true why o is none = absurd (cc)
stops_over false why o is none = absurd (cc)

refused_stopped : (s : Setup) (j : List Noted) (mon : ℕ) (frame : Frame) → is_stopped j ≡ true → refusal_of s j mon frame ≡ None → ⊥
unfolding refusal_of
refused_stopped s j mon frame stopped none = stops_over (is_stopped j) _ _ stopped none

-- a coordinator that has stopped takes nothing
pub stopped_stays : (mon : ℕ) (frames : List Frame) (a b : Desk) → is_stopped a.coordinator.journal ≡ true → TakesAll refuses takes mon a frames b → b ≡ a
stopped_stays mon [] a b stopped all = all
stopped_stays mon (frame ∷ frames) a b stopped all = absurd (refused_stopped a.coordinator.settings a.coordinator.journal mon frame stopped all.0)
