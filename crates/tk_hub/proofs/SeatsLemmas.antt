-- What the seats keep, over each of their calls.
use Rattle.std.proofs.Common.{◌≡◌, ◌<◌, ◌≤◌, ◌+◌, ◌-◌, ℕ, suc, zero, List, [], ◌∷◌, ◌++◌, length, take, get_or, set, replicate, Option, Some, None, Result, refl, sym, ap, ◌∙◌, subst, arith, inl, inr}
use Rattle.std.proofs.lemmas.Bool.{cases_eq}
use Rattle.std.proofs.lemmas.List.{get_or_default, get_or-set_other, get_or-set_same, length-replicate, length-set}
use Rattle.tk_base.specs.History.{IsFront}
use Rattle.tk_base.specs.declared.ids.Mon.{Mon}
use Rattle.tk_coord.specs.Coordinator.{CoordinatorView, IsJournal}
use Rattle.tk_end.proofs.EndLemmas.{hears_end, said_grown, says_end, shut_end}
use Rattle.tk_base.specs.declared.memory.NoMemory.{NoMemory}
use Rattle.tk_end.proofs.HearingLemmas.{front_refl}
use Rattle.tk_end.specs.Hearing.{Hears}
use Rattle.tk_end.specs.Link.{IsEnd, IsShut, LinkView, Says}
use Rattle.tk_frames.specs.Spelling.{IsVersion}
use Rattle.tk_frames.specs.declared.frame.Frame.TheVariants as f
use Rattle.tk_journal.proofs.WholeLemmas.{goes_on}
use Rattle.tk_journal.specs.Laws.{IsMonitor}
use Rattle.tk_journal.specs.Legal.{IsAccepted, IsLegal, inputs_of, turn_of}
use Rattle.tk_journal.specs.Links.{frames_from, frames_to}
use Rattle.tk_journal.specs.declared.noted.Noted.{Noted}
use Rattle.tk_journal.specs.declared.noted.Noted.TheVariants as n
use Rattle.tk_base.proofs.HistoryLemmas.{front_size}
use Rattle.tk_journal.proofs.HeardLemmas.{no_input}
use Rattle.tk_hub.proofs.TakenLemmas.{others_heard, others_said, reaches_settings, reaches_taken}
use Rattle.tk_hub.specs.Desk.{getting, heard_from, refuses, said_to, takes}
use Rattle.tk_wire.specs.declared.out_buffer.Pushed.{Pushed}
use Rattle.tk_hub.specs.Seats.{AreSeats, IsFree, IsSeat, IsSeated, IsWithin, SeatShuts, SeatsView, heard_at, link_at, said_at, with_link}
use Rattle.tk_hub.specs.Slot.{SeatHears, SeatHearsOne, SeatSays}
use Rattle.tk_hub.specs.Turn.{Reaches, Stays, Takes, pieces_of}
use Rattle.tk_hub.specs.Visitor.{HasGreeted}
use Rattle.tk_hub.specs.declared.course.HubTurn.{HubTurn}
use Rattle.tk_hub.specs.declared.desk.Desk.{Desk}

-- frames that are taken keep the journal legal
pub reaches_journal : (a b : CoordinatorView) → Reaches a b → IsJournal a.settings a.journal → IsJournal b.settings b.journal
reaches_journal a b (Stays from to is) h = subst (λ c. IsJournal c.settings c.journal) (sym is) h
reaches_journal a b (Takes from to mon frame is none p) h =
    let input = n.Got (record { 0 = mon }) frame in
    let accepted : IsAccepted h.opening.settings a.journal input = subst (λ q. IsAccepted q a.journal input) (sym h.settings) (is.from_one, is.within, none) in
    let legal : IsLegal h.opening (a.journal ++ turn_of a.settings a.journal input) = subst (λ q. IsLegal h.opening (a.journal ++ turn_of q a.journal input)) h.settings (goes_on h.opening a.journal input h.legal accepted) in
    reaches_journal (getting a mon frame) b p (record { opening = h.opening; settings = h.settings; set_up = h.set_up; legal = legal })

-- a seat of which nothing was taken since
pub seat_other : {W : Type 0} (run mon : ℕ) (i j : List Noted) (seat : Option (LinkView W)) → frames_from mon j ≡ frames_from mon i → IsFront (frames_to mon i) (frames_to mon j) → IsSeat run i mon seat → IsSeat run j mon seat
seat_other run mon i j None same front p = same ∙ p
seat_other run mon i j (Some link) same front p = record {
  version = p.version;
  written = omega (arith, p.written, front_size (frames_to mon i) (frames_to mon j) front);
  ends =
      subst (λ fs. IsEnd link (heard_at run j mon link) fs) (said_grown link.written (frames_to mon i) (frames_to mon j) p.written front)
      (subst (λ fs. IsEnd link (f.Hello run link.version (record { 0 = mon }) ∷ fs) (said_at i mon link)) (sym same) p.ends);
}

-- a seat of which frames were taken
seat_heard : {W : Type 0} (run mon least : ℕ) (x y : LinkView W) (a b : Desk) → Hears refuses takes heard_from said_to mon least x y a b → IsSeated run a.coordinator.journal mon x → IsSeated run b.coordinator.journal mon y
seat_heard run mon least x y a b h p =
    let i = a.coordinator.journal in
    let j = b.coordinator.journal in
    let keeps = h.listens.keeps in
    let grown = h.takes.grown in
    let said = said_grown x.written (frames_to mon i) (frames_to mon j) p.written grown ∙ ap (λ k. take k (frames_to mon j)) (sym keeps.written) in
    record {
      version = subst IsVersion (sym keeps.version) p.version;
      written = omega (arith, p.written, keeps.written, front_size (frames_to mon i) (frames_to mon j) grown);
      ends =
          subst (λ v. IsEnd y (f.Hello run v (record { 0 = mon }) ∷ frames_from mon j) (said_at j mon y)) (sym keeps.version)
          (subst (λ fs. IsEnd y (f.Hello run x.version (record { 0 = mon }) ∷ frames_from mon j) fs) said
          (hears_end refuses takes heard_from said_to mon least (f.Hello run x.version (record { 0 = mon }) ∷ []) (said_at i mon x) x y a b h p.ends));
    }

-- frames were taken at a seat, or it is free
abbrev pub SeatTakes : {W : Type 0} → ℕ → Option (LinkView W) → Option (LinkView W) → Desk → Desk → Type 0
SeatTakes mon None new before now = (new ≡ None) × (now ≡ before)
SeatTakes mon (Some x) None before now = ⊥
SeatTakes mon (Some x) (Some y) before now = (least : ℕ) × Hears refuses takes heard_from said_to mon least x y before now

pub taken_by_hearing : {W : Type 0} (mon : ℕ) (turn : HubTurn) (x y : Option (LinkView W)) (a b : Desk) → SeatHears mon turn x y a b → SeatTakes mon x y a b
taken_by_hearing mon turn None y a b h = (h.0, h.1)
taken_by_hearing mon turn (Some x) None a b h = h
taken_by_hearing mon turn (Some x) (Some y) a b h = (pieces_of turn, h.hears)

pub taken_by_one : {W : Type 0} (mon : ℕ) (turn : HubTurn) (x y : Option (LinkView W)) (a b : Desk) → SeatHearsOne mon turn x y a b → SeatTakes mon x y a b
taken_by_one mon turn None y a b h = (h.0, h.1)
taken_by_one mon turn (Some x) None a b h = h
taken_by_one mon turn (Some x) (Some y) a b h = (0, h.hears)

seat_after : {W : Type 0} (run mon : ℕ) (x y : Option (LinkView W)) (a b : Desk) → SeatTakes mon x y a b → IsSeat run a.coordinator.journal mon x → IsSeat run b.coordinator.journal mon y
seat_after run mon None y a b h p = subst (IsSeat run b.coordinator.journal mon) (sym h.0) (ap (λ d. frames_from mon d.coordinator.journal) h.1 ∙ p)
seat_after run mon (Some x) None a b h p = absurd h
seat_after run mon (Some x) (Some y) a b h p = seat_heard run mon h.0 x y a b h.1 p

pub reaches_taking : {W : Type 0} (mon : ℕ) (x y : Option (LinkView W)) (a b : Desk) → IsMonitor a.coordinator.settings mon → SeatTakes mon x y a b → Reaches a.coordinator b.coordinator
reaches_taking mon None y a b is h = Stays a.coordinator b.coordinator (ap (λ d. d.coordinator) h.1)
reaches_taking mon (Some x) None a b is h = absurd h
reaches_taking mon (Some x) (Some y) a b is h = reaches_taken mon h.1.takes.frames a b is h.1.takes.takes

pub reaches_seat : {W : Type 0} (mon : ℕ) (turn : HubTurn) (x y : Option (LinkView W)) (a b : Desk) → IsMonitor a.coordinator.settings mon → SeatHears mon turn x y a b → Reaches a.coordinator b.coordinator
reaches_seat mon turn x y a b is h = reaches_taking mon x y a b is (taken_by_hearing mon turn x y a b h)

others_from : {W : Type 0} (mon other : ℕ) (x y : Option (LinkView W)) (a b : Desk) → (mon ≡ other → ⊥) → IsMonitor a.coordinator.settings mon → SeatTakes mon x y a b → frames_from other b.coordinator.journal ≡ frames_from other a.coordinator.journal
others_from mon other None y a b apart is h = ap (λ d. frames_from other d.coordinator.journal) h.1
others_from mon other (Some x) None a b apart is h = absurd h
others_from mon other (Some x) (Some y) a b apart is h = others_heard other mon h.1.takes.frames a b apart is h.1.takes.takes

others_to : {W : Type 0} (mon other : ℕ) (x y : Option (LinkView W)) (a b : Desk) → SeatTakes mon x y a b → IsFront (frames_to other a.coordinator.journal) (frames_to other b.coordinator.journal)
others_to mon other None y a b h = others_said other mon [] a b h.1
others_to mon other (Some x) None a b h = absurd h
others_to mon other (Some x) (Some y) a b h = others_said other mon h.1.takes.frames a b h.1.takes.takes

-- one seat is another, and the journal has got on by what its monitor sent
pub seats_set : {W : Type 0} (run mon : ℕ) (a b : CoordinatorView) (links : List (Option (LinkView W))) (y : Option (LinkView W)) → IsMonitor a.settings mon → AreSeats (record { run = run; coordinator = a; links = links }) → Reaches a b → IsSeat run b.journal mon y
    → ((other : ℕ) → (mon ≡ other → ⊥) → frames_from other b.journal ≡ frames_from other a.journal) → ((other : ℕ) → IsFront (frames_to other a.journal) (frames_to other b.journal))
    → AreSeats (record { run = run; coordinator = b; links = set links (mon - 1) y })
seats_set run mon a b links y is h reaches seat same front =
    let count = h.count in
    let size = length-set links (mon - 1) y in
    let settings = reaches_settings a b reaches in
    let here : mon - 1 < length links = omega (arith, count, is.from_one, is.within) in
    let place_is : mon ≡ mon - 1 + 1 = omega (arith, is.from_one) in
    record {
      journal = reaches_journal a b reaches h.journal;
      count = size ∙ count ∙ ap (λ s. s.monitors) (sym settings);
      each = λ place within. elim (cases_eq place (mon - 1)) [
        | inl at ↦ subst (λ z. IsSeat run b.journal (z + 1) (get_or (set links (mon - 1) y) z None)) (sym at)
            (subst (IsSeat run b.journal (mon - 1 + 1)) (sym (get_or-set_same links (mon - 1) y None here)) (subst (λ z. IsSeat run b.journal z y) place_is seat))
        | inr apart ↦ subst (IsSeat run b.journal (place + 1)) (sym (get_or-set_other links (mon - 1) place y None apart))
            (seat_other run (place + 1) a.journal b.journal (get_or links place None) (same (place + 1) (λ e. apart (omega (arith, e)))) (front (place + 1)) (h.each place (omega (arith, within, size))))
      ];
    }

-- frames were taken at one seat
pub seats_taken : {W : Type 0} (run mon : ℕ) (links : List (Option (LinkView W))) (y : Option (LinkView W)) (a b : Desk) → IsMonitor a.coordinator.settings mon → AreSeats (record { run = run; coordinator = a.coordinator; links = links }) → SeatTakes mon (link_at links (mon - 1)) y a b
    → AreSeats (record { run = run; coordinator = b.coordinator; links = set links (mon - 1) y })
seats_taken run mon links y a b is h s =
    let place : mon - 1 + 1 ≡ mon = omega (arith, is.from_one) in
    let before : IsSeat run a.coordinator.journal mon (link_at links (mon - 1)) = subst (λ z. IsSeat run a.coordinator.journal z (link_at links (mon - 1))) place (h.each (mon - 1) (omega (arith, h.count, is.from_one, is.within))) in
    seats_set run mon a.coordinator b.coordinator links y is h
    (reaches_taking mon (link_at links (mon - 1)) y a b is s)
    (seat_after run mon (link_at links (mon - 1)) y a b s before)
    (λ other apart. others_from mon other (link_at links (mon - 1)) y a b apart is s)
    (λ other. others_to mon other (link_at links (mon - 1)) y a b s)

pub seats_heard : {W : Type 0} (run mon : ℕ) (turn : HubTurn) (links : List (Option (LinkView W))) (y : Option (LinkView W)) (a b : Desk) → IsMonitor a.coordinator.settings mon → AreSeats (record { run = run; coordinator = a.coordinator; links = links }) → SeatHears mon turn (link_at links (mon - 1)) y a b
    → AreSeats (record { run = run; coordinator = b.coordinator; links = set links (mon - 1) y })
seats_heard run mon turn links y a b is h s = seats_taken run mon links y a b is h (taken_by_hearing mon turn (link_at links (mon - 1)) y a b s)

pub seats_heard_one : {W : Type 0} (run mon : ℕ) (turn : HubTurn) (links : List (Option (LinkView W))) (y : Option (LinkView W)) (a b : Desk) → IsMonitor a.coordinator.settings mon → AreSeats (record { run = run; coordinator = a.coordinator; links = links }) → SeatHearsOne mon turn (link_at links (mon - 1)) y a b
    → AreSeats (record { run = run; coordinator = b.coordinator; links = set links (mon - 1) y })
seats_heard_one run mon turn links y a b is h s = seats_taken run mon links y a b is h (taken_by_one mon turn (link_at links (mon - 1)) y a b s)

-- ---- what is said

seat_said : {W : Type 0} (run mon : ℕ) (j : List Noted) (x y : LinkView W) → Says (frames_to mon j) x y → IsSeated run j mon x → IsSeated run j mon y
seat_said run mon j x y s p = record {
  version = subst IsVersion (sym s.version) p.version;
  written = s.within;
  ends =
      subst (λ v. IsEnd y (f.Hello run v (record { 0 = mon }) ∷ frames_from mon j) (said_at j mon y)) (sym s.version)
      (says_end (frames_to mon j) (f.Hello run x.version (record { 0 = mon }) ∷ frames_from mon j) [] x y s p.ends);
}

says_seat : {W : Type 0} (run mon : ℕ) (c : CoordinatorView) (result : Result Pushed NoMemory) (x y : Option (LinkView W)) → SeatSays mon c result x y → IsSeat run c.journal mon x → IsSeat run c.journal mon y
says_seat run mon c result None y s p = subst (IsSeat run c.journal mon) (sym s.0) p
says_seat run mon c result (Some x) None s p = absurd s
says_seat run mon c result (Some x) (Some y) s p = seat_said run mon c.journal x y s.says p

-- the seat of a monitor
pub seat_of : {W : Type 0} (mon : ℕ) (s : SeatsView W) → IsMonitor s.coordinator.settings mon → AreSeats s → IsSeat s.run s.coordinator.journal mon (link_at s.links (mon - 1))
seat_of mon s is h =
    let place : mon - 1 + 1 ≡ mon = omega (arith, is.from_one) in
    subst (λ z. IsSeat s.run s.coordinator.journal z (link_at s.links (mon - 1))) place (h.each (mon - 1) (omega (arith, h.count, is.from_one, is.within)))

within_seat : {W : Type 0} (run mon : ℕ) (c : CoordinatorView) (x : Option (LinkView W)) → IsSeat run c.journal mon x → IsWithin mon c x
within_seat run mon c None p = tt
within_seat run mon c (Some x) p = p.written

pub within_of : {W : Type 0} (mon : ℕ) (s : SeatsView W) → IsMonitor s.coordinator.settings mon → AreSeats s → IsWithin mon s.coordinator (link_at s.links (mon - 1))
within_of mon s is h = within_seat s.run mon s.coordinator (link_at s.links (mon - 1)) (seat_of mon s is h)

-- the journal stays, and one seat is another
pub seats_put : {W : Type 0} (mon : ℕ) (s : SeatsView W) (y : Option (LinkView W)) → IsMonitor s.coordinator.settings mon → AreSeats s → IsSeat s.run s.coordinator.journal mon y → AreSeats (record { run = s.run; coordinator = s.coordinator; links = set s.links (mon - 1) y })
seats_put mon s y is h seat = seats_set s.run mon s.coordinator s.coordinator s.links y is h (Stays s.coordinator s.coordinator refl) seat (λ other apart. refl) (λ other. front_refl (frames_to other s.coordinator.journal))

pub seats_said : {W : Type 0} (mon : ℕ) (s : SeatsView W) (result : Result Pushed NoMemory) (y : Option (LinkView W)) → IsMonitor s.coordinator.settings mon → AreSeats s → SeatSays mon s.coordinator result (link_at s.links (mon - 1)) y → AreSeats (record { run = s.run; coordinator = s.coordinator; links = set s.links (mon - 1) y })
seats_said mon s result y is h says = seats_put mon s y is h (says_seat s.run mon s.coordinator result (link_at s.links (mon - 1)) y says (seat_of mon s is h))

-- ---- what is shut, and who sits down

shut_seat : {W : Type 0} (run mon : ℕ) (j : List Noted) (x y : LinkView W) → IsShut x y → IsSeated run j mon x → IsSeated run j mon y
shut_seat run mon j x y s p = record {
  version = subst IsVersion (sym s.version) p.version;
  written = subst (λ k. k ≤ length (frames_to mon j)) (sym s.written) p.written;
  ends =
      subst (λ k. IsEnd y (heard_at run j mon y) (take k (frames_to mon j))) (sym s.written)
      (subst (λ v. IsEnd y (f.Hello run v (record { 0 = mon }) ∷ frames_from mon j) (said_at j mon x)) (sym s.version)
      (shut_end (f.Hello run x.version (record { 0 = mon }) ∷ frames_from mon j) (said_at j mon x) x y s p.ends));
}

shuts_seat : {W : Type 0} (run mon : ℕ) (j : List Noted) (x y : Option (LinkView W)) → SeatShuts x y → IsSeat run j mon x → IsSeat run j mon y
shuts_seat run mon j None y s p = subst (IsSeat run j mon) (sym s) p
shuts_seat run mon j (Some x) None s p = absurd s
shuts_seat run mon j (Some x) (Some y) s p = shut_seat run mon j x y s p

pub seats_shut : {W : Type 0} (mon : ℕ) (s : SeatsView W) (y : Option (LinkView W)) → IsMonitor s.coordinator.settings mon → AreSeats s → SeatShuts (link_at s.links (mon - 1)) y → AreSeats (record { run = s.run; coordinator = s.coordinator; links = set s.links (mon - 1) y })
seats_shut mon s y is h shuts = seats_put mon s y is h (shuts_seat s.run mon s.coordinator.journal (link_at s.links (mon - 1)) y shuts (seat_of mon s is h))

greeted_seat : {W : Type 0} (run : ℕ) (mon : Mon) (j : List Noted) (x : Option (LinkView W)) (link : LinkView W) → x ≡ None → IsSeat run j mon.0 x → HasGreeted run mon link → link.written ≡ 0 → IsSeated run j mon.0 link
greeted_seat {W} run mon j x link free p greeted unsaid =
    let none : frames_from mon.0 j ≡ [] = subst (IsSeat run j mon.0) free p in
    record {
      version = greeted.version;
      written = omega (arith, unsaid);
      ends =
          subst (λ k. IsEnd link (heard_at run j mon.0 link) (take k (frames_to mon.0 j))) (sym unsaid)
          (subst (λ fs. IsEnd link (f.Hello run link.version (record { 0 = mon.0 }) ∷ fs) []) (sym none) greeted.ends);
    }

-- a monitor that has greeted sits down
pub seats_seated : {W : Type 0} (mon : Mon) (s : SeatsView W) (link : LinkView W) → IsFree mon.0 s.coordinator.settings.monitors s.links → AreSeats s → HasGreeted s.run mon link → link.written ≡ 0 → AreSeats (record { run = s.run; coordinator = s.coordinator; links = set s.links (mon.0 - 1) (Some link) })
seats_seated mon s link free h greeted unsaid =
    let is : IsMonitor s.coordinator.settings mon.0 = record { from_one = free.some; within = free.within } in
    seats_put mon.0 s (Some link) is h (greeted_seat s.run mon s.coordinator.journal (link_at s.links (mon.0 - 1)) link free.free (seat_of mon.0 s is h) greeted unsaid)

-- ---- all seats are free

same_at : {X : Type 0} (n i : ℕ) (x : X) → get_or (replicate n x) i x ≡ x
same_at zero i x = refl
same_at (suc n) zero x = refl
same_at (suc n) (suc i) x = same_at n i x

pub seats_free : {W : Type 0} (run : ℕ) (c : CoordinatorView) → IsJournal c.settings c.journal → inputs_of c.journal ≡ [] → AreSeats {W = W} (record { run = run; coordinator = c; links = replicate c.settings.monitors None })
seats_free {W} run c journal none = record {
  journal = journal;
  count = length-replicate c.settings.monitors None;
  each = λ place within. subst (IsSeat {W = W} run c.journal (place + 1)) (sym (same_at c.settings.monitors place None)) (no_input (place + 1) c.journal none);
}

-- ---- a call of one seat, which is read and written in its place

pub is_within : {W : Type 0} (mon : ℕ) (s : SeatsView W) → IsMonitor s.coordinator.settings mon → AreSeats s → mon - 1 < length s.links
is_within mon s is h = omega (arith, h.count, is.from_one, is.within)

-- the seat that was read
pub slot_is : {W : Type 0} (links : List (Option (LinkView W))) (place : ℕ) (slot : Option (LinkView W)) → place < length links → slot ≡ get_or links place slot → slot ≡ link_at links place
slot_is links place slot within is = is ∙ get_or_default links place slot None within

-- the seat that was written
pub set_is : {W : Type 0} (links : List (Option (LinkView W))) (place : ℕ) (slot : Option (LinkView W)) → place < length links → link_at (set links place slot) place ≡ slot
set_is links place slot within = get_or-set_same links place slot None within

pub read_at : {W : Type 0} (links : List (Option (LinkView W))) (place : ℕ) (slot y : Option (LinkView W)) (R : Option (LinkView W) → Option (LinkView W) → Type 0) → place < length links → slot ≡ get_or links place slot → R slot y → R (link_at links place) y
read_at links place slot y R within is r = subst (λ o. R o y) (slot_is links place slot within is) r

pub seen_at : {W : Type 0} (links : List (Option (LinkView W))) (place : ℕ) (slot y : Option (LinkView W)) (R : Option (LinkView W) → Option (LinkView W) → Type 0) → place < length links → slot ≡ get_or links place slot → R slot y → R (link_at links place) (link_at (set links place y) place)
seen_at links place slot y R within is r = subst (R (link_at links place)) (sym (set_is links place y within)) (read_at links place slot y R within is r)

-- all else is as it was, or all but the coordinator
pub links_at : {W : Type 0} (mon run : ℕ) (c : CoordinatorView) (links : List (Option (LinkView W))) (y : Option (LinkView W)) (now : SeatsView W) → mon - 1 < length links → record { run = run; coordinator = c; links = links } ≡ now
    → record { run = run; coordinator = c; links = set links (mon - 1) y } ≡ record now { links = with_link mon (set links (mon - 1) y) now.links }
links_at {W} mon run c links y now within is =
    let new : List (Option (LinkView W)) = set links (mon - 1) y in
    let Made : Option (LinkView W) → SeatsView W = λ o. record { run = run; coordinator = c; links = set links (mon - 1) o } in
    subst (λ v. Made y ≡ record v { links = with_link mon new v.links }) is (ap Made (sym (set_is links (mon - 1) y within)))

pub rest_at : {W : Type 0} (mon run : ℕ) (a b : CoordinatorView) (links : List (Option (LinkView W))) (y : Option (LinkView W)) (now : SeatsView W) → mon - 1 < length links → record { run = run; coordinator = a; links = links } ≡ now
    → record { run = run; coordinator = b; links = set links (mon - 1) y } ≡ record now { coordinator = b; links = with_link mon (set links (mon - 1) y) now.links }
rest_at {W} mon run a b links y now within is =
    let new : List (Option (LinkView W)) = set links (mon - 1) y in
    let Made : Option (LinkView W) → SeatsView W = λ o. record { run = run; coordinator = b; links = set links (mon - 1) o } in
    subst (λ v. Made y ≡ record v { coordinator = b; links = with_link mon new v.links }) is (ap Made (sym (set_is links (mon - 1) y within)))

-- the number of a place
pub monitor_at : {W : Type 0} (place : ℕ) (old now : SeatsView W) → Reaches old.coordinator now.coordinator → place < old.coordinator.settings.monitors → IsMonitor now.coordinator.settings (place + 1)
monitor_at place old now reaches few =
    let monitors = ap (λ s. s.monitors) (reaches_settings old.coordinator now.coordinator reaches) in
    record { from_one = omega arith; within = omega (arith, few, monitors) }

pub place_at : {W : Type 0} (place : ℕ) (s : SeatsView W) → IsMonitor s.coordinator.settings (place + 1) → AreSeats s → place < length s.links
place_at place s is h = omega (arith, h.count, is.within)
