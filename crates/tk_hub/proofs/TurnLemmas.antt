-- A turn of a hub, put together of its parts.
use Rattle.std.proofs.Common.{◌≡◌, ◌<◌, ◌+◌, ℕ, List, ◌++◌, length, take, set, true, false, Option, Some, None, IfSome, Result, IsErr, is_err, refl, sym, ap, ◌∙◌, subst, arith, inl, inr}
use Rattle.std.proofs.lemmas.Bool.{cases_eq, false≢true}
use Rattle.std.proofs.lemmas.List.{get_or-set_other, get_or-set_same, take-take, take_at}
use Rattle.std.specs.List.{list_any}
use Rattle.tk_base.specs.History.{IsFront}
use Rattle.tk_base.specs.declared.memory.NoMemory.{NoMemory}
use Rattle.tk_coord.specs.Coordinator.{CoordinatorView}
use Rattle.tk_end.proofs.HearingLemmas.{front_refl, front_trans}
use Rattle.tk_end.specs.Link.{LinkView}
use Rattle.tk_journal.specs.Legal.{turn_of}
use Rattle.tk_journal.specs.declared.noted.Noted.{Noted}
use Rattle.tk_journal.specs.declared.noted.Noted.TheVariants as n
use Rattle.tk_hub.proofs.HearLemmas.{passes_same, steady_same}
use Rattle.tk_hub.proofs.SayLemmas.{counts_from, steady_from}
use Rattle.tk_base.proofs.HistoryLemmas.{front_size}
use Rattle.tk_hub.specs.Desk.{getting}
use Rattle.tk_wire.specs.Meanings.{Counts}
use Rattle.tk_hub.specs.Door.{GreetsHeld, LobbyView}
use Rattle.tk_hub.specs.Hub.{EachOpen, Exchanges, IsFinishedBy, SlotPasses, Works}
use Rattle.tk_ledger.specs.Text.{is_tuned}
use Rattle.tk_hub.specs.Lines.{IsAt}
use Rattle.tk_hub.specs.Seats.{SeatsView, link_at}
use Rattle.tk_hub.specs.Turn.{EachSaid, EndsEach, Hears, PassesAt, Reaches, Stays, Takes, goes_on}
use Rattle.tk_hub.specs.declared.course.HubTurn.{HubTurn}
use Rattle.tk_hub.specs.declared.course.HubTurn.TheVariants as t
use Rattle.tk_hub.specs.declared.lines.Lines.{Lines}
use Rattle.tk_hub.proofs.HubLemmas.{more_open}

slot_passes : {W : Type 0} (x y : Option (LinkView W)) → PassesAt x y → SlotPasses x y
slot_passes None y p = p
slot_passes (Some x) None p = p
slot_passes (Some x) (Some y) p = p.0

-- the turn ended in the hearing or the saying
pub exchanges_ended : {W : Type 0} (turn : HubTurn) (a b : SeatsView W) (lines : Lines) → goes_on turn ≡ false → Hears turn a b → Exchanges turn a b lines
exchanges_ended turn a b lines stops h = record {
  run = h.run;
  reaches = h.reaches;
  passes = λ i. slot_passes (link_at a.links i) (link_at b.links i) (h.passes i);
  more = λ is. absurd (more_open turn stops is);
  ends = h.ends;
  counts = h.counts;
  said = λ goes. absurd (false≢true (sym stops ∙ goes));
  written = λ goes. absurd (false≢true (sym stops ∙ goes));
  unfinished = λ goes. absurd (false≢true (sym stops ∙ goes));
  finished = λ is. absurd (h.never is);
}

-- it went on to its end
pub exchanges_written : {W : Type 0} (turn : HubTurn) (a b : SeatsView W) (lines : Lines) → goes_on turn ≡ true → Hears turn a b → EachSaid b.coordinator b.links → lines.passed ≡ length b.coordinator.journal → (IsFinishedBy b lines → ⊥) → Exchanges turn a b lines
exchanges_written turn a b lines goes h said written unfinished = record {
  run = h.run;
  reaches = h.reaches;
  passes = λ i. slot_passes (link_at a.links i) (link_at b.links i) (h.passes i);
  more = h.more;
  ends = h.ends;
  counts = h.counts;
  said = λ _. said;
  written = λ _. written;
  unfinished = λ _. unfinished;
  finished = λ is. absurd (h.never is);
}

-- what was heard and said went on, and the lines ended the turn
exchanges_other : {W : Type 0} (turn last : HubTurn) (a b : SeatsView W) (lines : Lines) → goes_on turn ≡ true → goes_on last ≡ false → (last ≡ t.Failed → ⊥) → EndsEach last b.coordinator b.links → (last ≡ t.Finished → IsFinishedBy b lines) → Hears turn a b → Exchanges last a b lines
exchanges_other turn last a b lines goes stops other ends finished h = record {
  run = h.run;
  reaches = h.reaches;
  passes = λ i. slot_passes (link_at a.links i) (link_at b.links i) (h.passes i);
  more = λ is. absurd (more_open last stops is);
  ends = ends;
  counts = counts_from last b.coordinator a.links b.links other (steady_from turn b.coordinator a.links b.links goes h.counts);
  said = λ goes. absurd (false≢true (sym stops ∙ goes));
  written = λ goes. absurd (false≢true (sym stops ∙ goes));
  unfinished = λ goes. absurd (false≢true (sym stops ∙ goes));
  finished = finished;
}

pub exchanges_finished : {W : Type 0} (turn : HubTurn) (a b : SeatsView W) (lines : Lines) → goes_on turn ≡ true → Hears turn a b → IsFinishedBy b lines → Exchanges t.Finished a b lines
exchanges_finished turn a b lines goes h finished = exchanges_other turn t.Finished a b lines goes refl (λ is. absurd (cc)) tt (λ _. finished) h

pub exchanges_unwritten : {W : Type 0} (turn : HubTurn) (a b : SeatsView W) (lines : Lines) → goes_on turn ≡ true → Hears turn a b → Exchanges t.WriteFailed a b lines
exchanges_unwritten turn a b lines goes h = exchanges_other turn t.WriteFailed a b lines goes refl (λ is. absurd (cc)) tt (λ is. absurd (cc)) h

pub exchanges_wanting : {W : Type 0} (turn : HubTurn) (a b : SeatsView W) (lines : Lines) → goes_on turn ≡ true → Hears turn a b → Exchanges t.NoMemory a b lines
exchanges_wanting turn a b lines goes h = exchanges_other turn t.NoMemory a b lines goes refl (λ is. absurd (cc)) tt (λ is. absurd (cc)) h

-- there was no memory to greet
pub exchanges_nothing : {W : Type 0} (a : SeatsView W) (lines : Lines) → Exchanges t.NoMemory a a lines
exchanges_nothing a lines = record {
  run = refl;
  reaches = Stays a.coordinator a.coordinator refl;
  passes = λ i. slot_passes (link_at a.links i) (link_at a.links i) (passes_same (link_at a.links i));
  more = λ is. absurd (cc);
  ends = tt;
  counts = λ i. steady_same (i + 1) a.coordinator (link_at a.links i);
  said = λ goes. absurd (false≢true goes);
  written = λ goes. absurd (false≢true goes);
  unfinished = λ goes. absurd (false≢true goes);
  finished = λ is. absurd (cc);
}

-- ---- the lines, where the journal has grown

pub reaches_grown : (a b : CoordinatorView) → Reaches a b → IsFront a.journal b.journal
reaches_grown a b (Stays from to is) = subst (λ c. IsFront a.journal c.journal) (sym is) (front_refl a.journal)
reaches_grown a b (Takes from to mon frame is none p) =
    let turn = turn_of a.settings a.journal (n.Got (record { 0 = mon }) frame) in
    front_trans a.journal (a.journal ++ turn) b.journal (record { is = sym (take_at a.journal turn (length a.journal) refl) }) (reaches_grown (getting a mon frame) b p)

pub at_grown : (i j : List Noted) (lines : Lines) → IsFront i j → IsAt i lines → IsAt j lines
at_grown i j lines front at = record {
  within = omega (arith, at.within, front_size i j front);
  tuned = at.tuned ∙ ap (list_any is_tuned) (ap (take lines.passed) front.is ∙ take-take lines.passed (length i) j at.within);
}

-- ---- open wires

open_seat : {W : Type 0} (x y : Option (LinkView W)) → PassesAt x y → IfSome x (λ link. link.shut ≡ false) → IfSome y (λ link. link.shut ≡ false)
open_seat None y p o = subst (λ s. IfSome s (λ link. link.shut ≡ false)) (sym p) tt
open_seat (Some x) None p o = absurd p
open_seat (Some x) (Some y) p o = p.1 ∙ o

pub open_passed : {W : Type 0} (old new : List (Option (LinkView W))) → ((i : ℕ) → PassesAt (link_at old i) (link_at new i)) → EachOpen old → EachOpen new
open_passed old new passes each = λ i. open_seat (link_at old i) (link_at new i) (passes i) (each i)

pub open_set : {W : Type 0} (links : List (Option (LinkView W))) (p : ℕ) (y : Option (LinkView W)) → p < length links → IfSome y (λ link. link.shut ≡ false) → EachOpen links → EachOpen (set links p y)
open_set links p y within is each = λ i. elim (cases_eq i p) [
  | inl same ↦ subst (λ k. IfSome (link_at (set links p y) k) (λ link. link.shut ≡ false)) (sym same) (subst (λ o. IfSome o (λ link. link.shut ≡ false)) (sym (get_or-set_same links p y None within)) is)
  | inr apart ↦ subst (λ o. IfSome o (λ link. link.shut ≡ false)) (sym (get_or-set_other links p i y None apart)) (each i)
]

-- ---- a greeting, and what was exchanged behind it

pub no_error : (welcome : Result (Unit {0}) NoMemory) → is_err welcome ≡ false → IsErr welcome → ⊥
no_error welcome none is = absurd (false≢true (sym none ∙ is))

pub works_of : {W : Type 0} (counts : W → Counts) (turn : HubTurn) (welcome : Result (Unit {0}) NoMemory) (old : SeatsView W) (before : LobbyView W) (met : SeatsView W) (after : LobbyView W) (new : SeatsView W) (lines : Lines)
    → GreetsHeld counts old.run old.coordinator.settings.monitors welcome (record { lobby = before; links = old.links }) (record { lobby = after; links = met.links }) → met ≡ record old { links = met.links } → (IsErr welcome → turn ≡ t.NoMemory)
    → Exchanges turn met new lines → Works counts turn old before new after lines
works_of {W} counts turn welcome old before met after new lines greets is memory exchanges = record {
  greeted = record { lobby = after; links = met.links };
  welcome = welcome;
  greets = greets;
  memory = memory;
  exchanges = subst (λ (v : SeatsView W). Exchanges turn v new lines) is exchanges;
  lobby = refl;
}

-- the lines that are written of the journal before are so of the one that has grown
pub at_heard : {W : Type 0} (turn : HubTurn) (a b : SeatsView W) (lines : Lines) → Hears turn a b → IsAt a.coordinator.journal lines → IsAt b.coordinator.journal lines
at_heard turn a b lines h at = at_grown a.coordinator.journal b.coordinator.journal lines (reaches_grown a.coordinator b.coordinator h.reaches) at
