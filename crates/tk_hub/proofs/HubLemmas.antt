-- What the type of a hub keeps, and what the course leaves of a turn.
use Rattle.std.proofs.Common.{◌≡◌, ◌<◌, ◌≤◌, ◌+◌, ◌-◌, ℕ, List, [], ◌||◌, nat_lt, length, set, Bool, true, false, Option, Some, None, IfSome, Result, refl, sym, ap, ◌∙◌, subst, arith, inl, inr}
use Rattle.std.proofs.lemmas.Bool.{false≢true, lt-ltb, or_right}
use Rattle.std.proofs.lemmas.List.{get_or-set_other, get_or-set_same}
use Rattle.slab.specs.Slab.{Slab, slab_len}
use Rattle.tk_base.specs.declared.memory.NoMemory.{NoMemory}
use Rattle.tk_coord.specs.Coordinator.{CoordinatorView}
use Rattle.tk_end.proofs.PassingLemmas.{passes_heard, passes_on, passes_shut}
use Rattle.tk_end.specs.Inbox.{Leaves}
use Rattle.tk_end.specs.Link.{IsShut, LinkView}
use Rattle.tk_frames.specs.Answer.{Answers}
use Rattle.tk_frames.specs.declared.answer.Next.TheVariants as n
use Rattle.tk_journal.specs.declared.refusal.CoordRefusal.{CoordRefusal}
use Rattle.tk_journal.specs.Laws.{IsMonitor}
use Rattle.tk_wire.specs.Meanings.{Counts, raised_by}
use Rattle.tk_wire.specs.declared.out_buffer.Pushed.{Pushed}
use Rattle.tk_hub.proofs.HearLemmas.{holds_at}
use Rattle.tk_hub.specs.Desk.{refuses}
use Rattle.tk_hub.specs.Door.{DoorView, LobbyView}
use Rattle.tk_hub.specs.Lines.{IsAt}
use Rattle.tk_hub.specs.Hub.{Closes, EachOpen, Exchanges, HubView, IsClosed, IsHub, IsOnCourse, SlotPasses, TakesFrom, Turns, TurnsOne, Works, seats_of}
use Rattle.tk_hub.specs.Seats.{AreSeats, EachShuts, SeatShuts, SeatsView, link_at}
use Rattle.tk_hub.specs.Slot.{EndsOne, HearsOneAt, SeatHearsOne, SeatSays, TakesUpTo}
use Rattle.tk_hub.specs.Turn.{CountsAt, CountsEach, EndsEach, FailsAt, HoldsAt, IsBadAt, IsRefusedAt, IsSteadyAt, IsStopGiven, SomeFails, SomeLost, SteadyAt, answer_of, course_of, goes_on, halted_of, is_lost, is_open}
use Rattle.tk_hub.specs.Visitor.{VisitorView}
use Rattle.tk_hub.specs.declared.course.Course.{Course}
use Rattle.tk_hub.specs.declared.course.Course.TheVariants as cs
use Rattle.tk_hub.specs.declared.course.HubTurn.{HubTurn}
use Rattle.tk_hub.specs.declared.course.HubTurn.TheVariants as t
use Rattle.tk_hub.specs.declared.desk.Desk.{Desk}
use Rattle.tk_hub.specs.declared.lines.Lines.{Lines}

-- ---- a wire that is shut

refused_shut : {W : Type 0} (mon : ℕ) (c : CoordinatorView) (why : CoordRefusal) (y z : LinkView W) → IsShut y z → IsRefusedAt mon c why y → IsRefusedAt mon c why z
refused_shut mon c why y z s r = record {
  frame = r.frame;
  read = s.front ∙ r.read;
  rest = r.rest;
  leaves = subst (λ v. Leaves v r.frame z.unread r.rest) (sym s.version) (subst (λ xs. Leaves y.version r.frame xs r.rest) (sym s.unread) r.leaves);
  refused = r.refused;
}

bad_shut : {W : Type 0} (fault : Rattle.tk_frames.specs.declared.answer.BadFrame.BadFrame) (y z : LinkView W) → IsShut y z → IsBadAt fault y → IsBadAt fault z
bad_shut fault y z s b = (subst (λ v. Answers v z.unread (n.Bad fault)) (sym s.version) (subst (λ xs. Answers y.version xs (n.Bad fault)) (sym s.unread) b.0), s.front ∙ b.1)

given_back : {W : Type 0} (mon : ℕ) (c : CoordinatorView) (y z : LinkView W) → IsShut y z → IsStopGiven mon c z → IsStopGiven mon c y
given_back mon c y z s g = record { stopped = g.stopped; written = sym s.written ∙ g.written; given = sym s.output ∙ g.given }

given_shut : {W : Type 0} (mon : ℕ) (c : CoordinatorView) (y z : LinkView W) → IsShut y z → IsStopGiven mon c y → IsStopGiven mon c z
given_shut mon c y z s g = record { stopped = g.stopped; written = s.written ∙ g.written; given = s.output ∙ g.given }

-- the link that a shut one was
pub shut_is : {W : Type 0} (y z : Option (LinkView W)) (link : LinkView W) → SeatShuts y z → y ≡ Some link → (after : LinkView W) × (z ≡ Some after) × IsShut link after
shut_is None z link s is = absurd (cc)
shut_is (Some y) None link s is = absurd s
shut_is (Some y) (Some z) link s is = (z, refl, subst (λ l. IsShut l z) (let e : y ≡ link = cc in e) s)

holds_shut : {W : Type 0} (mon : ℕ) (old new : List (Option (LinkView W))) (P : LinkView W → Type 0) → EachShuts old new → ((y z : LinkView W) → IsShut y z → P y → P z) → HoldsAt old mon P → HoldsAt new mon P
holds_shut mon old new P shuts keeps h =
    let after = shut_is (link_at old (mon - 1)) (link_at new (mon - 1)) h.link (shuts (mon - 1)) h.at in
    record { some = h.some; link = after.0; at = after.1; holds = keeps h.link after.0 after.2 h.holds }

-- what the end of a turn says still stands
ends_shut : {W : Type 0} (turn : HubTurn) (c : CoordinatorView) (old new : List (Option (LinkView W))) → goes_on turn ≡ false → EachShuts old new → EndsEach turn c old → EndsEach turn c new
ends_shut t.Quiet c old new stops shuts e = absurd (cc)
ends_shut t.More c old new stops shuts e = absurd (cc)
ends_shut t.Finished c old new stops shuts e = tt
ends_shut t.Failed c old new stops shuts e = tt
ends_shut (t.Refused mon why) c old new stops shuts e = holds_shut mon.0 old new (IsRefusedAt mon.0 c why) shuts (refused_shut mon.0 c why) e
ends_shut (t.Bad mon fault) c old new stops shuts e = holds_shut mon.0 old new (IsBadAt fault) shuts (bad_shut fault) e
ends_shut t.WriteFailed c old new stops shuts e = tt
ends_shut t.NoMemory c old new stops shuts e = tt

fails_shut : {W : Type 0} (mon : ℕ) (c : CoordinatorView) (x y z : LinkView W) → IsShut y z → FailsAt mon c x y → FailsAt mon c x z
fails_shut mon c x y z s (inl faults) = inl (ap (λ k. k.faults) s.counts ∙ faults)
fails_shut mon c x y z s (inr (ends, early)) = inr (ap (λ k. k.ends) s.counts ∙ ends, λ g. early (given_back mon c y z s g))

some_fails_shut : {W : Type 0} (c : CoordinatorView) (old mid new : List (Option (LinkView W))) → EachShuts mid new → SomeFails c old mid → SomeFails c old new
some_fails_shut c old mid new shuts f =
    let after = shut_is (link_at mid f.place) (link_at new f.place) f.now (shuts f.place) f.is in
    record { place = f.place; before = f.before; now = after.0; was = f.was; is = after.1; fails = fails_shut (f.place + 1) c f.before f.now after.0 after.2 f.fails }

steady_shut : {W : Type 0} (mon : ℕ) (c : CoordinatorView) (o y z : Option (LinkView W)) → SeatShuts y z → SteadyAt mon c o y → SteadyAt mon c o z
steady_shut mon c None y z s k = tt
steady_shut mon c (Some o) None z s k = subst (SteadyAt mon c (Some o)) (sym s) tt
steady_shut mon c (Some o) (Some y) None s k = absurd s
steady_shut mon c (Some o) (Some y) (Some z) s (faults, inl ends) = (ap (λ k. k.faults) s.counts ∙ faults, inl (ap (λ k. k.ends) s.counts ∙ ends))
steady_shut mon c (Some o) (Some y) (Some z) s (faults, inr stop) = (ap (λ k. k.faults) s.counts ∙ faults, inr (given_shut mon c y z s stop))

counts_shut : {W : Type 0} (turn : HubTurn) (c : CoordinatorView) (old mid new : List (Option (LinkView W))) → EachShuts mid new → CountsEach turn c old mid → CountsEach turn c old new
counts_shut t.Quiet c old mid new shuts k = λ i. steady_shut (i + 1) c (link_at old i) (link_at mid i) (link_at new i) (shuts i) (k i)
counts_shut t.More c old mid new shuts k = λ i. steady_shut (i + 1) c (link_at old i) (link_at mid i) (link_at new i) (shuts i) (k i)
counts_shut t.Finished c old mid new shuts k = λ i. steady_shut (i + 1) c (link_at old i) (link_at mid i) (link_at new i) (shuts i) (k i)
counts_shut t.Failed c old mid new shuts k = some_fails_shut c old mid new shuts k
counts_shut (t.Refused mon why) c old mid new shuts k = λ i. steady_shut (i + 1) c (link_at old i) (link_at mid i) (link_at new i) (shuts i) (k i)
counts_shut (t.Bad mon fault) c old mid new shuts k = λ i. steady_shut (i + 1) c (link_at old i) (link_at mid i) (link_at new i) (shuts i) (k i)
counts_shut t.WriteFailed c old mid new shuts k = λ i. steady_shut (i + 1) c (link_at old i) (link_at mid i) (link_at new i) (shuts i) (k i)
counts_shut t.NoMemory c old mid new shuts k = λ i. steady_shut (i + 1) c (link_at old i) (link_at mid i) (link_at new i) (shuts i) (k i)

passes_closed : {W : Type 0} (x y z : Option (LinkView W)) → SlotPasses x y → SeatShuts y z → SlotPasses x z
passes_closed None y z p s = subst (λ o. SeatShuts o z) p s
passes_closed (Some x) None z p s = absurd p
passes_closed (Some x) (Some y) None p s = absurd s
passes_closed (Some x) (Some y) (Some z) p s = passes_on 0 0 0 x y z (omega arith) p (passes_shut y z s)

-- ---- a closed course

open_goes : (turn : HubTurn) → is_open (course_of turn) ≡ false → goes_on turn ≡ false
open_goes t.Quiet is = absurd (cc)
open_goes t.More is = absurd (cc)
open_goes t.Finished is = refl
open_goes t.Failed is = refl
open_goes (t.Refused mon why) is = refl
open_goes (t.Bad mon fault) is = refl
open_goes t.WriteFailed is = refl
open_goes t.NoMemory is = refl

finished_open : (turn : HubTurn) → is_open (course_of turn) ≡ false → turn ≡ t.Finished → ⊥
finished_open turn shut is = absurd (false≢true (sym shut ∙ ap (λ u. is_open (course_of u)) is))

pub more_open : (turn : HubTurn) → goes_on turn ≡ false → turn ≡ t.More → ⊥
more_open turn stops is = absurd (false≢true (sym stops ∙ ap goes_on is))

closed_exchange : {W : Type 0} (turn : HubTurn) (old mid : SeatsView W) (links : List (Option (LinkView W))) (lines : Lines) → is_open (course_of turn) ≡ false → Exchanges turn old mid lines → EachShuts mid.links links → Exchanges turn old (record { run = mid.run; coordinator = mid.coordinator; links = links }) lines
closed_exchange turn old mid links lines shut e shuts =
    let stops = open_goes turn shut in
    record {
      run = e.run;
      reaches = e.reaches;
      passes = λ i. passes_closed (link_at old.links i) (link_at mid.links i) (link_at links i) (e.passes i) (shuts i);
      more = λ is. absurd (more_open turn stops is);
      ends = ends_shut turn mid.coordinator mid.links links stops shuts e.ends;
      counts = counts_shut turn mid.coordinator old.links mid.links links shuts e.counts;
      said = λ goes. absurd (false≢true (sym stops ∙ goes));
      written = λ goes. absurd (false≢true (sym stops ∙ goes));
      unfinished = λ goes. absurd (false≢true (sym stops ∙ goes));
      finished = λ is. absurd (finished_open turn shut is);
    }

concluded : {W : Type 0} (b : Bool) (turn : HubTurn) (old mid : SeatsView W) (before after : DoorView W) (lines : Lines) → is_open (course_of turn) ≡ b → before.links ≡ mid.links → Closes b before after → Exchanges turn old mid lines → Exchanges turn old (record { run = mid.run; coordinator = mid.coordinator; links = after.links }) lines
concluded {W} true turn old mid before after lines is here closes e =
    let With : List (Option (LinkView W)) → Type 0 = λ ls. Exchanges turn old (record { run = mid.run; coordinator = mid.coordinator; links = ls }) lines in
    subst With (sym (ap (λ d. d.links) closes ∙ here)) e
concluded false turn old mid before after lines is here closes e = closed_exchange turn old mid after.links lines is e (subst (λ ls. EachShuts ls after.links) here closes.0)

-- the wires are shut, or stay so, as the turn's course says
pub exchanges_concluded : {W : Type 0} (turn : HubTurn) (old mid : SeatsView W) (before after : DoorView W) (lines : Lines) → before.links ≡ mid.links → Closes (is_open (course_of turn)) before after → Exchanges turn old mid lines → Exchanges turn old (record { run = mid.run; coordinator = mid.coordinator; links = after.links }) lines
exchanges_concluded turn old mid before after lines here closes e = concluded (is_open (course_of turn)) turn old mid before after lines refl here closes e

shut_seat : {W : Type 0} (y z : Option (LinkView W)) → SeatShuts y z → IfSome z (λ link. link.shut ≡ true)
shut_seat None z s = subst (λ o. IfSome o (λ link. link.shut ≡ true)) (sym s) tt
shut_seat (Some y) None s = absurd s
shut_seat (Some y) (Some z) s = s.shut

pub closed_by : {W : Type 0} (old new : List (Option (LinkView W))) (held : Slab (VisitorView W)) → EachShuts old new → held.slots ≡ [] → IsClosed new held
closed_by old new held shuts none = record { shut = λ place. shut_seat (link_at old place) (link_at new place) (shuts place); held_none = none }

-- ---- a wire that failed, or has ended

some_raised : (n x : ℕ) → x ≡ raised_by 1 n → nat_lt 0 x ≡ true
some_raised n x is = let some : 0 < x = omega (arith, is) in lt-ltb 0 x some

lost_by : {W : Type 0} (mon : ℕ) (c : CoordinatorView) (x y : LinkView W) → FailsAt mon c x y → is_lost y.counts ≡ true
lost_by mon c x y (inl faults) = ap (λ b. b || nat_lt 0 y.counts.ends) (some_raised x.counts.faults y.counts.faults faults)
lost_by mon c x y (inr (ends, early)) = or_right (nat_lt 0 y.counts.faults) (nat_lt 0 y.counts.ends) (some_raised x.counts.ends y.counts.ends ends)

some_lost : {W : Type 0} (c : CoordinatorView) (old new : List (Option (LinkView W))) → SomeFails c old new → SomeLost new
some_lost c old new f = (f.place + 1, holds_at f.place (f.place + 1) new f.now (λ link. is_lost link.counts ≡ true) refl f.is (lost_by (f.place + 1) c f.before f.now f.fails))

lost_shut : {W : Type 0} (y z : LinkView W) → IsShut y z → is_lost y.counts ≡ true → is_lost z.counts ≡ true
lost_shut y z s lost = ap is_lost s.counts ∙ lost

lost_closed : {W : Type 0} (old new : List (Option (LinkView W))) → EachShuts old new → SomeLost old → SomeLost new
lost_closed old new shuts lost = (lost.0, holds_shut lost.0 old new (λ link. is_lost link.counts ≡ true) shuts lost_shut lost.1)

-- what stands next at the monitor that ended a turn
abbrev pub Stands : {W : Type 0} → CoordinatorView → List (Option (LinkView W)) → HubTurn → Type 0
Stands c links t.Quiet = Unit {0}
Stands c links t.More = Unit {0}
Stands c links t.Finished = Unit {0}
Stands c links t.Failed = SomeLost links
Stands c links (t.Refused mon why) = HoldsAt links mon.0 (IsRefusedAt mon.0 c why)
Stands c links (t.Bad mon fault) = HoldsAt links mon.0 (IsBadAt fault)
Stands c links t.WriteFailed = Unit {0}
Stands c links t.NoMemory = Unit {0}

pub course_after : {W : Type 0} (turn : HubTurn) (c : CoordinatorView) (before after : DoorView W) → EachOpen before.links → Closes (is_open (course_of turn)) before after → Stands c before.links turn → IsOnCourse c after.links after.lobby.held (course_of turn)
course_after t.Quiet c before after on closes s = subst EachOpen (sym (ap (λ d. d.links) closes)) on
course_after t.More c before after on closes s = subst EachOpen (sym (ap (λ d. d.links) closes)) on
course_after t.Finished c before after on closes s = subst EachOpen (sym (ap (λ d. d.links) closes)) on
course_after t.NoMemory c before after on closes s = subst EachOpen (sym (ap (λ d. d.links) closes)) on
course_after t.Failed c before after on closes s = (closed_by before.links after.links after.lobby.held closes.0 closes.1, lost_closed before.links after.links closes.0 s)
course_after t.WriteFailed c before after on closes s = closed_by before.links after.links after.lobby.held closes.0 closes.1
course_after (t.Refused mon why) c before after on closes s = (closed_by before.links after.links after.lobby.held closes.0 closes.1, holds_shut mon.0 before.links after.links (IsRefusedAt mon.0 c why) closes.0 (refused_shut mon.0 c why) s)
course_after (t.Bad mon fault) c before after on closes s = (closed_by before.links after.links after.lobby.held closes.0 closes.1, holds_shut mon.0 before.links after.links (IsBadAt fault) closes.0 (bad_shut fault) s)

pub stands_of : {W : Type 0} (turn : HubTurn) (c : CoordinatorView) (old links : List (Option (LinkView W))) → EndsEach turn c links → CountsEach turn c old links → Stands c links turn
stands_of t.Quiet c old links e k = tt
stands_of t.More c old links e k = tt
stands_of t.Finished c old links e k = tt
stands_of t.Failed c old links e k = some_lost c old links k
stands_of (t.Refused mon why) c old links e k = e
stands_of (t.Bad mon fault) c old links e k = e
stands_of t.WriteFailed c old links e k = tt
stands_of t.NoMemory c old links e k = tt

-- ---- halting, a saying, and a turn of one frame

pub course_halted : {W : Type 0} (c : CoordinatorView) (old new : List (Option (LinkView W))) (before after : Slab (VisitorView W)) (course : Course) → EachShuts old new → after.slots ≡ [] → IsOnCourse c old before course → IsOnCourse c new after (halted_of course)
course_halted c old new before after cs.Open shuts none on = closed_by old new after shuts none
course_halted c old new before after cs.Halted shuts none on = closed_by old new after shuts none
course_halted c old new before after cs.Failed shuts none on = (closed_by old new after shuts none, lost_closed old new shuts on.1)
course_halted c old new before after (cs.Refused mon why) shuts none on = (closed_by old new after shuts none, holds_shut mon.0 old new (IsRefusedAt mon.0 c why) shuts (refused_shut mon.0 c why) on.1)
course_halted c old new before after (cs.Bad mon fault) shuts none on = (closed_by old new after shuts none, holds_shut mon.0 old new (IsBadAt fault) shuts (bad_shut fault) on.1)
course_halted c old new before after cs.WriteFailed shuts none on = closed_by old new after shuts none

ends_one_shut : {W : Type 0} (mon : ℕ) (c : CoordinatorView) (turn : HubTurn) (y z : LinkView W) → is_open (course_of turn) ≡ false → IsShut y z → EndsOne mon c y turn → EndsOne mon c z turn
ends_one_shut mon c t.Quiet y z shut s e = absurd (cc)
ends_one_shut mon c t.More y z shut s e = absurd (cc)
ends_one_shut mon c t.Finished y z shut s e = absurd (cc)
ends_one_shut mon c t.Failed y z shut s e = tt
ends_one_shut mon c (t.Refused m why) y z shut s e = (e.0, refused_shut mon c why y z s e.1)
ends_one_shut mon c (t.Bad m fault) y z shut s e = (e.0, bad_shut fault y z s e.1)
ends_one_shut mon c t.WriteFailed y z shut s e = absurd e
ends_one_shut mon c t.NoMemory y z shut s e = absurd (cc)

steady_link : {W : Type 0} (mon : ℕ) (c : CoordinatorView) (x y z : LinkView W) → IsShut y z → IsSteadyAt mon c x y → IsSteadyAt mon c x z
steady_link mon c x y z s (faults, inl ends) = (ap (λ k. k.faults) s.counts ∙ faults, inl (ap (λ k. k.ends) s.counts ∙ ends))
steady_link mon c x y z s (faults, inr stop) = (ap (λ k. k.faults) s.counts ∙ faults, inr (given_shut mon c y z s stop))

counts_one_shut : {W : Type 0} (mon : ℕ) (c : CoordinatorView) (turn : HubTurn) (x y z : LinkView W) → IsShut y z → CountsAt mon c x y turn → CountsAt mon c x z turn
counts_one_shut mon c t.Quiet x y z s k = steady_link mon c x y z s k
counts_one_shut mon c t.More x y z s k = steady_link mon c x y z s k
counts_one_shut mon c t.Finished x y z s k = steady_link mon c x y z s k
counts_one_shut mon c t.Failed x y z s k = fails_shut mon c x y z s k
counts_one_shut mon c (t.Refused m why) x y z s k = steady_link mon c x y z s k
counts_one_shut mon c (t.Bad m fault) x y z s k = steady_link mon c x y z s k
counts_one_shut mon c t.WriteFailed x y z s k = steady_link mon c x y z s k
counts_one_shut mon c t.NoMemory x y z s k = steady_link mon c x y z s k

pub takes_from : {W : Type 0} (mon : ℕ) (turn : HubTurn) (x y : LinkView W) (a b : Desk) → HearsOneAt mon turn x y a b → TakesFrom x y
takes_from mon turn x y a b h = record {
  passes = passes_heard refuses Rattle.tk_hub.specs.Desk.takes Rattle.tk_hub.specs.Desk.heard_from Rattle.tk_hub.specs.Desk.said_to mon 0 x y a b h.hears;
  output = h.hears.listens.keeps.output;
  written = h.hears.listens.keeps.written;
}

-- what one frame did at the link of a monitor
pub record OneTurn {W : Type 0} (mon : ℕ) (turn : HubTurn) (x : LinkView W) (y : Option (LinkView W)) (a b : CoordinatorView) : Type 0 where
  pub now : LinkView W
  pub is : y ≡ Some now
  pub takes : TakesUpTo turn mon a b
  pub passes : TakesFrom x now
  pub ends : EndsOne mon b now turn
  pub counts : CountsAt mon b x now turn

pub one_turn : {W : Type 0} (mon : ℕ) (turn : HubTurn) (x : LinkView W) (o y : Option (LinkView W)) (a b : Desk) → o ≡ Some x → SeatHearsOne mon turn o y a b → OneTurn mon turn x y a.coordinator b.coordinator
one_turn mon turn x None y a b is h = absurd (cc)
one_turn mon turn x (Some o) None a b is h = absurd h
one_turn {W} mon turn x (Some o) (Some y) a b is h =
    let same : o ≡ x = cc in
    let q : HearsOneAt mon turn x y a b = subst (λ l. HearsOneAt mon turn l y a b) same h in
    record { now = y; is = refl; takes = q.once; passes = takes_from mon turn x y a b q; ends = q.ends; counts = q.counts }

one_closed : {W : Type 0} (p : Bool) (mon : ℕ) (turn : HubTurn) (x : LinkView W) (y : Option (LinkView W)) (a b : CoordinatorView) (before after : DoorView W) → is_open (course_of turn) ≡ p → link_at before.links (mon - 1) ≡ y → Closes p before after → OneTurn mon turn x y a b → OneTurn mon turn x (link_at after.links (mon - 1)) a b
one_closed {W} true mon turn x y a b before after is here closes o =
    subst (λ s. OneTurn mon turn x s a b) (sym (ap (λ d. link_at d.links (mon - 1)) closes ∙ here)) o
one_closed false mon turn x y a b before after is here closes o =
    let z = shut_is (link_at before.links (mon - 1)) (link_at after.links (mon - 1)) o.now (closes.0 (mon - 1)) (here ∙ o.is) in
    record {
      now = z.0;
      is = z.1;
      takes = o.takes;
      passes = record {
        passes = passes_on 0 0 0 x o.now z.0 (omega arith) o.passes.passes (passes_shut o.now z.0 z.2);
        output = z.2.output ∙ o.passes.output;
        written = z.2.written ∙ o.passes.written;
      };
      ends = ends_one_shut mon b turn o.now z.0 is z.2 o.ends;
      counts = counts_one_shut mon b turn x o.now z.0 z.2 o.counts;
    }

closes_open : {W : Type 0} (p : Bool) (before after : DoorView W) → Closes p before after → p ≡ true → after ≡ before
closes_open true before after closes is = closes
closes_open false before after closes is = absurd (false≢true is)

closes_shut : {W : Type 0} (p : Bool) (before after : DoorView W) → Closes p before after → p ≡ false → EachShuts before.links after.links
closes_shut true before after closes is = absurd (false≢true (sym is))
closes_shut false before after closes is = closes.0

pub closes_count : {W : Type 0} (p : Bool) (before after : DoorView W) → Closes p before after → after.lobby.strangers ≡ before.lobby.strangers
closes_count true before after closes = ap (λ d. d.lobby.strangers) closes
closes_count false before after closes = closes.2

-- a turn of one frame
pub turns_one : {W : Type 0} (mon : ℕ) (turn : HubTurn) (old : HubView W) (y : Option (LinkView W)) (b : CoordinatorView) (after : DoorView W) (course : Course) → IsMonitor old.coordinator.settings mon → AreSeats (seats_of old) → HoldsAt old.links mon (λ link. link.shut ≡ false)
    → SeatHearsOne mon turn (link_at old.links (mon - 1)) y (record { coordinator = old.coordinator }) (record { coordinator = b })
    → Closes (is_open (course_of turn)) (record { lobby = record { held = old.held; strangers = old.strangers }; links = set old.links (mon - 1) y }) after → course ≡ course_of turn
    → TurnsOne mon turn old (record { run = old.run; coordinator = b; links = after.links; held = after.lobby.held; strangers = after.lobby.strangers; lines = old.lines; course = course })
turns_one {W} mon turn old y b after course is h there hears closes on =
    let before : DoorView W = record { lobby = record { held = old.held; strangers = old.strangers }; links = set old.links (mon - 1) y } in
    let within : mon - 1 < length old.links = omega (arith, h.count, is.from_one, is.within) in
    let here : link_at before.links (mon - 1) ≡ y = get_or-set_same old.links (mon - 1) y None within in
    let first = one_turn mon turn there.link (link_at old.links (mon - 1)) y (record { coordinator = old.coordinator }) (record { coordinator = b }) there.at hears in
    let last = one_closed (is_open (course_of turn)) mon turn there.link y old.coordinator b before after refl here closes first in
    record {
      run = refl;
      course = on;
      strangers = closes_count (is_open (course_of turn)) before after closes;
      lines = refl;
      before = there.link;
      now = last.now;
      was = there.at;
      is = last.is;
      takes = last.takes;
      passes = last.passes;
      ends = last.ends;
      counts = last.counts;
      others = λ open_ place apart. ap (λ d. link_at d.links place) (closes_open (is_open (course_of turn)) before after closes open_) ∙ get_or-set_other old.links (mon - 1) place y None apart;
      others_shut = λ shut place apart. subst (λ x. SeatShuts x (link_at after.links place)) (get_or-set_other old.links (mon - 1) place y None apart) (closes_shut (is_open (course_of turn)) before after closes shut place);
      held = λ open_. ap (λ d. d.lobby.held) (closes_open (is_open (course_of turn)) before after closes open_);
    }

pub stands_one : {W : Type 0} (mon : ℕ) (turn : HubTurn) (c : CoordinatorView) (links : List (Option (LinkView W))) (before now : LinkView W) → 0 < mon → link_at links (mon - 1) ≡ Some now → EndsOne mon c now turn → CountsAt mon c before now turn → Stands c links turn
stands_one mon t.Quiet c links before now some at e k = tt
stands_one mon t.More c links before now some at e k = tt
stands_one mon t.Finished c links before now some at e k = tt
stands_one mon t.Failed c links before now some at e k = (mon, record { some = some; link = now; at = at; holds = lost_by mon c before now k })
stands_one mon (t.Refused m why) c links before now some at e k = subst (λ k. HoldsAt links k (IsRefusedAt k c why)) (sym e.0) (record { some = some; link = now; at = at; holds = e.1 })
stands_one mon (t.Bad m fault) c links before now some at e k = subst (λ k. HoldsAt links k (IsBadAt fault)) (sym e.0) (record { some = some; link = now; at = at; holds = e.1 })
stands_one mon t.WriteFailed c links before now some at e k = tt
stands_one mon t.NoMemory c links before now some at e k = tt

pub open_one : {W : Type 0} (mon : ℕ) (turn : HubTurn) (x y : Option (LinkView W)) (a b : Desk) → SeatHearsOne mon turn x y a b → IfSome x (λ link. link.shut ≡ false) → IfSome y (λ link. link.shut ≡ false)
open_one mon turn None y a b h o = subst (λ s. IfSome s (λ link. link.shut ≡ false)) (sym h.0) tt
open_one mon turn (Some x) None a b h o = absurd h
open_one mon turn (Some x) (Some y) a b h o = h.hears.listens.keeps.shut ∙ o

pub open_said : {W : Type 0} (mon : ℕ) (c : CoordinatorView) (result : Result Pushed NoMemory) (x y : Option (LinkView W)) → SeatSays mon c result x y → IfSome x (λ link. link.shut ≡ false) → IfSome y (λ link. link.shut ≡ false)
open_said mon c result None y h o = subst (λ s. IfSome s (λ link. link.shut ≡ false)) (sym h.0) tt
open_said mon c result (Some x) None h o = absurd h
open_said mon c result (Some x) (Some y) h o = h.says.shut ∙ o

-- a turn, with what its course leaves
pub turns_concluded : {W : Type 0} (counts : W → Counts) (turn : HubTurn) (old : HubView W) (mid : SeatsView W) (after : LobbyView W) (last : DoorView W) (lines : Lines) (course : Course)
    → Works counts turn (seats_of old) (record { held = old.held; strangers = old.strangers }) mid after lines
    → Closes (is_open (course_of turn)) (record { lobby = after; links = mid.links }) last → course ≡ course_of turn
    → Turns counts turn old (record { run = mid.run; coordinator = mid.coordinator; links = last.links; held = last.lobby.held; strangers = last.lobby.strangers; lines = lines; course = course })
turns_concluded {W} counts turn old mid after last lines course w closes on =
    let before : DoorView W = record { lobby = after; links = mid.links } in
    record {
      course = on;
      greeted = w.greeted;
      welcome = w.welcome;
      greets = w.greets;
      memory = w.memory;
      exchanges = exchanges_concluded turn (record { run = old.run; coordinator = old.coordinator; links = w.greeted.links }) mid before last lines refl closes w.exchanges;
      strangers = closes_count (is_open (course_of turn)) before last closes ∙ ap (λ l. l.strangers) w.lobby;
      held = λ open_. ap (λ d. d.lobby.held) (closes_open (is_open (course_of turn)) before last closes open_) ∙ ap (λ l. l.held) w.lobby;
    }

-- ---- what the type keeps

pub hub_after : {W : Type 0} (turn : HubTurn) (before after : DoorView W) (s : SeatsView W) (lines : Lines) (course : Course) → AreSeats (record { run = s.run; coordinator = s.coordinator; links = after.links }) → IsAt s.coordinator.journal lines → slab_len after.lobby.held ≤ 64
    → EachOpen before.links → Closes (is_open (course_of turn)) before after → Stands s.coordinator before.links turn → course ≡ course_of turn
    → IsHub (record { run = s.run; coordinator = s.coordinator; links = after.links; held = after.lobby.held; strangers = after.lobby.strangers; lines = lines; course = course })
hub_after turn before after s lines course seats at few on closes stands is = record {
  seats = seats;
  lines = at;
  few = few;
  course = subst (IsOnCourse s.coordinator after.links after.lobby.held) (sym is) (course_after turn s.coordinator before after on closes stands);
}

-- the wires of an open hub are not shut
pub open_hub : {W : Type 0} (c : CoordinatorView) (links : List (Option (LinkView W))) (held : Slab (VisitorView W)) (course : Course) → course ≡ cs.Open → IsOnCourse c links held course → EachOpen links
open_hub c links held course is on = subst (IsOnCourse c links held) is on

pub on_open : {W : Type 0} (c : CoordinatorView) (links : List (Option (LinkView W))) (held : Slab (VisitorView W)) (course : Course) → course ≡ cs.Open → EachOpen links → IsOnCourse c links held course
on_open c links held course is each = subst (IsOnCourse c links held) (sym is) each

-- a course that is not halted, and on which a turn answers nothing at once
pub goes : (course : Course) → (course ≡ cs.Halted → ⊥) → answer_of course ≡ None → course ≡ cs.Open
goes cs.Open halted none = refl
goes cs.Halted halted none = absurd (halted refl)
goes cs.Failed halted none = absurd (cc)
goes (cs.Refused mon why) halted none = absurd (cc)
goes (cs.Bad mon fault) halted none = absurd (cc)
goes cs.WriteFailed halted none = absurd (cc)
