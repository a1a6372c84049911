-- What the type of a hub keeps, over each of its calls.
use Rattle.std.proofs.Common.{◌≡◌, ◌<◌, ◌≤◌, ◌-◌, ℕ, [], length, set, None, IfSome, Result, sym, ap, ◌∙◌, subst, arith, false, count_by, is_some, zero, suc, replicate}
use Rattle.slab.specs.Slab.{Slab, slab_len}
use Rattle.tk_base.specs.declared.memory.NoMemory.{NoMemory}
use Rattle.tk_journal.specs.Laws.{IsMonitor}
use Rattle.tk_wire.specs.declared.out_buffer.Pushed.{Pushed}
use Rattle.tk_hub.proofs.HubLemmas.{Stands, course_halted, hub_after, on_open, one_turn, open_hub, open_one, open_said, stands_one, turns_one}
use Rattle.tk_hub.proofs.LinesLemmas.{at_start}
use Rattle.tk_hub.proofs.SeatsLemmas.{reaches_taking, taken_by_one}
use Rattle.tk_hub.proofs.TurnLemmas.{at_grown, open_set, reaches_grown}
use Rattle.tk_hub.specs.Door.{DoorView, LobbyView}
use Rattle.tk_hub.specs.Hub.{Closes, EachOpen, HubView, IsHub, IsOnCourse, TurnsOne, seats_of}
use Rattle.tk_hub.specs.Lines.{IsAt}
use Rattle.tk_hub.specs.Seats.{AreSeats, EachShuts, SeatsView, link_at}
use Rattle.tk_hub.specs.Slot.{SeatHearsOne, SeatSays}
use Rattle.tk_hub.specs.Turn.{HoldsAt, course_of, halted_of, is_open}
use Rattle.tk_hub.specs.Visitor.{VisitorView}
use Rattle.tk_hub.specs.declared.course.Course.{Course}
use Rattle.tk_hub.specs.declared.course.Course.TheVariants as cs
use Rattle.tk_hub.specs.declared.course.HubTurn.{HubTurn}
use Rattle.tk_hub.specs.declared.desk.Desk.{Desk}
use Rattle.tk_hub.specs.declared.lines.Lines.{Lines}

-- a hub of these parts
abbrev pub hub_of : {W : Type 0} → SeatsView W → LobbyView W → Lines → Course → HubView W
hub_of seats lobby lines course = record { run = seats.run; coordinator = seats.coordinator; links = seats.links; held = lobby.held; strangers = lobby.strangers; lines = lines; course = course }

pub hub_pushed : {W : Type 0} (mon : ℕ) (s new : SeatsView W) (lobby : LobbyView W) (lines : Lines) (course : Course) (result : Result Pushed NoMemory) → course ≡ cs.Open → IsMonitor s.coordinator.settings mon → IsHub (hub_of s lobby lines course)
    → SeatSays mon s.coordinator result (link_at s.links (mon - 1)) (link_at new.links (mon - 1)) → new ≡ record s { links = set s.links (mon - 1) (link_at new.links (mon - 1)) } → AreSeats new → IsHub (hub_of new lobby lines course)
hub_pushed {W} mon s new lobby lines course result on mon_is h says is seats =
    let y = link_at new.links (mon - 1) in
    let before = open_hub s.coordinator s.links lobby.held course on h.course in
    let each = open_set s.links (mon - 1) y (omega (arith, h.seats.count, mon_is.from_one, mon_is.within)) (open_said mon s.coordinator result (link_at s.links (mon - 1)) y says (before (mon - 1))) before in
    let Kept : SeatsView W → Type 0 = λ v. IsHub (hub_of v lobby lines course) in
    subst Kept (sym is) (record { seats = subst AreSeats is seats; lines = h.lines; few = h.few; course = on_open s.coordinator (set s.links (mon - 1) y) lobby.held course on each })

pub hub_greeted : {W : Type 0} (s new : SeatsView W) (before after : LobbyView W) (lines : Lines) (course : Course) → course ≡ cs.Open → IsHub (hub_of s before lines course) → new ≡ record s { links = new.links } → AreSeats new → EachOpen new.links → slab_len after.held ≤ 64 → IsHub (hub_of new after lines course)
hub_greeted {W} s new before after lines course on h is seats each few = record {
  seats = seats;
  lines = subst (λ v. IsAt v.coordinator.journal lines) (sym is) h.lines;
  few = few;
  course = on_open new.coordinator new.links after.held course on each;
}

none_held : {W : Type 0} (held : Slab (VisitorView W)) → held.slots ≡ [] → slab_len held ≤ 64
none_held held none = let count : slab_len held ≡ 0 = ap (count_by is_some) none in omega (arith, count)

pub hub_halted : {W : Type 0} (s new : SeatsView W) (before after : LobbyView W) (lines : Lines) (course last : Course) → IsHub (hub_of s before lines course) → new ≡ record s { links = new.links } → EachShuts s.links new.links → AreSeats new → after.held.slots ≡ [] → last ≡ halted_of course → IsHub (hub_of new after lines last)
hub_halted {W} s new before after lines course last h is shuts seats none on =
    let halted = course_halted s.coordinator s.links new.links before.held after.held course shuts none h.course in
    record {
      seats = seats;
      lines = subst (λ v. IsAt v.coordinator.journal lines) (sym is) h.lines;
      few = none_held after.held none;
      course = subst (IsOnCourse new.coordinator new.links after.held) (sym on) (subst (λ v. IsOnCourse v.coordinator new.links after.held (halted_of course)) (sym is) halted);
    }

-- a turn of one frame
pub hub_taken : {W : Type 0} (mon : ℕ) (turn : HubTurn) (s mid last : SeatsView W) (before after : LobbyView W) (lines : Lines) (course next : Course) → course ≡ cs.Open → IsMonitor s.coordinator.settings mon → IsHub (hub_of s before lines course) → HoldsAt s.links mon (λ link. link.shut ≡ false)
    → SeatHearsOne mon turn (link_at s.links (mon - 1)) (link_at mid.links (mon - 1)) (record { coordinator = s.coordinator }) (record { coordinator = mid.coordinator }) → mid ≡ record s { coordinator = mid.coordinator; links = set s.links (mon - 1) (link_at mid.links (mon - 1)) }
    → Closes (is_open (course_of turn)) (record { lobby = before; links = mid.links }) (record { lobby = after; links = last.links }) → last ≡ record mid { links = last.links } → AreSeats last → slab_len after.held ≤ 64 → next ≡ course_of turn
    → IsHub (hub_of last after lines next)
hub_taken {W} mon turn s mid last before after lines course next on is h there hears mid_is closes last_is seats few next_is =
    let x = link_at s.links (mon - 1) in
    let y = link_at mid.links (mon - 1) in
    let a : Desk = record { coordinator = s.coordinator } in
    let b : Desk = record { coordinator = mid.coordinator } in
    let within : mon - 1 < length s.links = omega (arith, h.seats.count, is.from_one, is.within) in
    let each = open_hub s.coordinator s.links before.held course on h.course in
    let opens : EachOpen mid.links = subst (λ v. EachOpen v.links) (sym mid_is) (open_set s.links (mon - 1) y within (open_one mon turn x y a b hears (each (mon - 1))) each) in
    let one = one_turn mon turn there.link x y a b there.at hears in
    let reaches = reaches_taking mon x y a b is (taken_by_one mon turn x y a b hears) in
    let at : IsAt mid.coordinator.journal lines = at_grown s.coordinator.journal mid.coordinator.journal lines (reaches_grown s.coordinator mid.coordinator reaches) h.lines in
    let Kept : SeatsView W → Type 0 = λ v. IsHub (hub_of v after lines next) in
    subst Kept (sym last_is) (hub_after turn (record { lobby = before; links = mid.links }) (record { lobby = after; links = last.links }) mid lines next (subst AreSeats last_is seats) at few opens closes (stands_one mon turn mid.coordinator mid.links there.link one.now is.from_one one.is one.ends one.counts) next_is)

-- a turn
pub hub_turned : {W : Type 0} (turn : HubTurn) (mid last : SeatsView W) (before after : LobbyView W) (lines : Lines) (next : Course) → IsAt mid.coordinator.journal lines → EachOpen mid.links → (Stands mid.coordinator mid.links turn)
    → Closes (is_open (course_of turn)) (record { lobby = before; links = mid.links }) (record { lobby = after; links = last.links }) → last ≡ record mid { links = last.links } → AreSeats last → slab_len after.held ≤ 64 → next ≡ course_of turn
    → IsHub (hub_of last after lines next)
hub_turned {W} turn mid last before after lines next at opens stands closes last_is seats few next_is =
    let Kept : SeatsView W → Type 0 = λ v. IsHub (hub_of v after lines next) in
    subst Kept (sym last_is) (hub_after turn (record { lobby = before; links = mid.links }) (record { lobby = after; links = last.links }) mid lines next (subst AreSeats last_is seats) at few opens closes stands next_is)

-- ---- a hub whose seats are all free

each_free : (W : Type 0) (count place : ℕ) → IfSome (link_at {W = W} (replicate count None) place) (λ link. link.shut ≡ false)
each_free W zero place = tt
each_free W (suc count) zero = tt
each_free W (suc count) (suc place) = each_free W count place

pub hub_new : {W : Type 0} (s : SeatsView W) (lobby : LobbyView W) (lines : Lines) (count : ℕ) → AreSeats s → s.links ≡ replicate count None → lines ≡ record { passed = 0; tuned = false } → lobby.held.slots ≡ [] → IsHub (hub_of s lobby lines cs.Open)
hub_new {W} s lobby lines count seats free start none = record {
  seats = seats;
  lines = subst (IsAt s.coordinator.journal) (sym start) (at_start s.coordinator.journal);
  few = none_held lobby.held none;
  course = subst EachOpen (sym free) (each_free W count);
}

-- ---- what a turn of one frame leaves

pub taken_concluded : {W : Type 0} (mon : ℕ) (turn : HubTurn) (old : HubView W) (mid last : SeatsView W) (after : LobbyView W) (course : Course) → IsMonitor old.coordinator.settings mon → AreSeats (seats_of old) → HoldsAt old.links mon (λ link. link.shut ≡ false)
    → SeatHearsOne mon turn (link_at old.links (mon - 1)) (link_at mid.links (mon - 1)) (record { coordinator = old.coordinator }) (record { coordinator = mid.coordinator }) → mid ≡ record (seats_of old) { coordinator = mid.coordinator; links = set old.links (mon - 1) (link_at mid.links (mon - 1)) }
    → Closes (is_open (course_of turn)) (record { lobby = record { held = old.held; strangers = old.strangers }; links = mid.links }) (record { lobby = after; links = last.links }) → last ≡ record mid { links = last.links } → course ≡ course_of turn
    → TurnsOne mon turn old (hub_of last after old.lines course)
taken_concluded {W} mon turn old mid last after course is h there hears mid_is closes last_is on =
    let door : DoorView W = record { lobby = after; links = last.links } in
    let before : LobbyView W = record { held = old.held; strangers = old.strangers } in
    let Shuts : SeatsView W → Type 0 = λ v. Closes (is_open (course_of turn)) (record { lobby = before; links = v.links }) door in
    let Ends : SeatsView W → SeatsView W = λ v. record v { links = last.links } in
    let Taken : SeatsView W → Type 0 = λ v. TurnsOne mon turn old (hub_of v after old.lines course) in
    let turns = turns_one mon turn old (link_at mid.links (mon - 1)) mid.coordinator door course is h there hears (subst Shuts mid_is closes) on in
    subst Taken (sym (last_is ∙ ap Ends mid_is)) turns
