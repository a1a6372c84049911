-- What a retune leaves of the seats and of a hub.
use Rattle.std.proofs.Common.{◌≡◌, ◌+◌, ℕ, List, ◌++◌, length, Option, None, Result, Ok, Err, OnOk, IfErr, refl, sym, ap, ◌∙◌, subst, append-nil}
use Rattle.std.specs.Prelude.{pos}
use Rattle.std.proofs.lemmas.List.{take_at}
use Rattle.tk_base.specs.History.{IsFront}
use Rattle.tk_base.specs.Settings.{Setup}
use Rattle.tk_coord.specs.Coordinator.{CoordinatorView}
use Rattle.tk_end.specs.Link.{LinkView}
use Rattle.tk_journal.proofs.Appends.{frames_from-append}
use Rattle.tk_journal.proofs.WholeLemmas.{turn_is}
use Rattle.tk_journal.specs.Legal.{IsLegal, Opening, turn_of}
use Rattle.tk_journal.specs.Links.{frames_from, frames_to}
use Rattle.tk_journal.specs.Refusal.{retune_refusal_of}
use Rattle.tk_journal.specs.declared.noted.Noted.{Noted}
use Rattle.tk_journal.specs.declared.noted.Noted.TheVariants as n
use Rattle.tk_journal.specs.declared.refusal.RetuneRefusal.{RetuneRefusal}
use Rattle.tk_hub.proofs.DeskLemmas.{said_after}
use Rattle.tk_journal.proofs.HeardLemmas.{no_input}
use Rattle.tk_hub.proofs.SeatsLemmas.{seat_other}
use Rattle.tk_hub.proofs.TurnLemmas.{at_grown}
use Rattle.tk_hub.specs.Hub.{HubView, IsHub, IsOnCourse, seats_of}
use Rattle.tk_hub.specs.Seats.{AreSeats, SeatsView, link_at}
use Rattle.tk_hub.specs.declared.course.Course.TheVariants as cs

-- no frame of a monitor is taken
same_from : (s : Setup) (j : List Noted) (k e mon : ℕ) → retune_refusal_of s j k e ≡ None → frames_from mon (j ++ turn_of s j (n.Tuned k (pos e))) ≡ frames_from mon j
same_from s j k e mon none =
    let t = turn_is s j (n.Tuned k (pos e)) (e, refl, none) in
    frames_from-append mon j (turn_of s j (n.Tuned k (pos e)))
    ∙ ap (λ xs. frames_from mon j ++ xs) (ap (frames_from mon) t.is ∙ no_input mon t.rest t.none)
    ∙ append-nil (frames_from mon j)

-- the coordinator that a retune leaves
pub record Retunes (k e : ℕ) (a b : CoordinatorView) : Type 0 where
  pub accepted : retune_refusal_of a.settings a.journal k e ≡ None
  pub settings : b.settings ≡ a.settings
  pub turn : b.journal ≡ a.journal ++ turn_of a.settings a.journal (n.Tuned k (pos e))
  pub legal : (o : Opening) → o.settings ≡ a.settings → IsLegal o a.journal → IsLegal o b.journal

pub seats_retuned : {W : Type 0} (run k e : ℕ) (a b : CoordinatorView) (links : List (Option (LinkView W))) → Retunes k e a b → AreSeats (record { run = run; coordinator = a; links = links }) → AreSeats (record { run = run; coordinator = b; links = links })
seats_retuned run k e a b links r h =
    let turn = turn_of a.settings a.journal (n.Tuned k (pos e)) in
    let from : (mon : ℕ) → frames_from mon b.journal ≡ frames_from mon a.journal = λ mon. ap (frames_from mon) r.turn ∙ same_from a.settings a.journal k e mon r.accepted in
    let front : (mon : ℕ) → IsFront (frames_to mon a.journal) (frames_to mon b.journal) = λ mon. subst (λ j. IsFront (frames_to mon a.journal) (frames_to mon j)) (sym r.turn) (said_after a.journal turn mon) in
    record {
      journal = record { opening = h.journal.opening; settings = h.journal.settings ∙ sym r.settings; set_up = h.journal.set_up; legal = r.legal h.journal.opening h.journal.settings h.journal.legal };
      count = h.count ∙ ap (λ s. s.monitors) (sym r.settings);
      each = λ place within. seat_other run (place + 1) a.journal b.journal (link_at links place) (from (place + 1)) (front (place + 1)) (h.each place within);
    }

-- a retune that was taken, or changed nothing
pub seats_after_retune : {W : Type 0} (run k e : ℕ) (a b : CoordinatorView) (links : List (Option (LinkView W))) (result : Result (Unit {0}) RetuneRefusal)
    → OnOk result (retune_refusal_of a.settings a.journal k e ≡ None) → OnOk result (b.journal ≡ a.journal ++ turn_of a.settings a.journal (n.Tuned k (pos e))) → b.settings ≡ a.settings
    → ((o : Opening) → o.settings ≡ a.settings → IsLegal o a.journal → IsLegal o b.journal) → IfErr result (λ _. b ≡ a)
    → AreSeats (record { run = run; coordinator = a; links = links }) → AreSeats (record { run = run; coordinator = b; links = links })
seats_after_retune run k e a b links (Ok u) accepted turn settings legal err h = seats_retuned run k e a b links (record { accepted = accepted; settings = settings; turn = turn; legal = legal }) h
seats_after_retune {W} run k e a b links (Err refusal) accepted turn settings legal err h =
    let Kept : CoordinatorView → Type 0 = λ c. AreSeats {W = W} (record { run = run; coordinator = c; links = links }) in
    subst Kept (sym err) h

-- an open hub whose journal has grown, with the same links
hub_grown : {W : Type 0} (hub : HubView W) (c : CoordinatorView) → hub.course ≡ cs.Open → IsFront hub.coordinator.journal c.journal → AreSeats (record { run = hub.run; coordinator = c; links = hub.links }) → IsHub hub → IsHub (record hub { coordinator = c })
hub_grown hub c open_ front seats h = record {
  seats = seats;
  lines = at_grown hub.coordinator.journal c.journal hub.lines front h.lines;
  few = h.few;
  course = subst (IsOnCourse c hub.links hub.held) (sym open_) (subst (IsOnCourse hub.coordinator hub.links hub.held) open_ h.course);
}

front_of : (a b : CoordinatorView) (turn : List Noted) → b.journal ≡ a.journal ++ turn → IsFront a.journal b.journal
front_of a b turn is = subst (IsFront a.journal) (sym is) (record { is = sym (take_at a.journal turn (length a.journal) refl) })

pub hub_after_retune : {W : Type 0} (hub : HubView W) (new : SeatsView W) (turn : List Noted) (result : Result (Unit {0}) RetuneRefusal) → hub.course ≡ cs.Open → OnOk result (new.coordinator.journal ≡ hub.coordinator.journal ++ turn) → IfErr result (λ _. new ≡ seats_of hub)
    → new ≡ record (seats_of hub) { coordinator = new.coordinator } → AreSeats new → IsHub hub
    → IsHub (record { run = new.run; coordinator = new.coordinator; links = new.links; held = hub.held; strangers = hub.strangers; lines = hub.lines; course = hub.course })
hub_after_retune {W} hub new turn (Ok u) open_ is err rest seats h =
    let Kept : SeatsView W → Type 0 = λ s. IsHub (record { run = s.run; coordinator = s.coordinator; links = s.links; held = hub.held; strangers = hub.strangers; lines = hub.lines; course = hub.course }) in
    subst Kept (sym rest) (hub_grown hub new.coordinator open_ (front_of hub.coordinator new.coordinator turn is) (subst AreSeats rest seats) h)
hub_after_retune {W} hub new turn (Err refusal) open_ is err rest seats h =
    let Kept : SeatsView W → Type 0 = λ s. IsHub (record { run = s.run; coordinator = s.coordinator; links = s.links; held = hub.held; strangers = hub.strangers; lines = hub.lines; course = hub.course }) in
    subst Kept (sym err) h
