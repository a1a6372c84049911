-- Bytes that leave or reach a wire in memory change nothing that was heard or said.
use Rattle.std.proofs.Common.{◌≡◌, ◌<◌, ◌-◌, ℕ, List, length, take, set, Option, Some, None, IfSome, refl, sym, ap, ◌∙◌, subst, arith, Bool, true, false, inl, inr}
use Rattle.std.proofs.lemmas.Bool.{cases_eq}
use Rattle.std.proofs.lemmas.List.{get_or-set_other, get_or-set_same}
use Rattle.slab.specs.Slab.{Slab}
use Rattle.tk_coord.specs.Coordinator.{CoordinatorView}
use Rattle.tk_frames.specs.Answer.{Answers}
use Rattle.tk_frames.specs.declared.answer.BadFrame.{BadFrame}
use Rattle.tk_frames.specs.declared.answer.Next.TheVariants as n
use Rattle.tk_journal.specs.Laws.{IsMonitor}
use Rattle.tk_journal.specs.declared.noted.Noted.{Noted}
use Rattle.tk_journal.specs.declared.refusal.CoordRefusal.{CoordRefusal}
use Rattle.tk_wire.specs.Meanings.{Traffic}
use Rattle.tk_wire.specs.Parse.{IsEncoding, IsParse}
use Rattle.tk_wire.specs.Pipe.{Queue}
use Rattle.tk_wire.specs.PipeWire.{drained, filled}
use Rattle.tk_end.specs.Inbox.{Leaves}
use Rattle.tk_end.specs.Link.{LinkView, over}
use Rattle.tk_hub.proofs.SeatsLemmas.{seat_of, seats_put}
use Rattle.tk_hub.specs.End.{SeatDrains, SeatFills}
use Rattle.tk_hub.specs.Hub.{HubView, IsClosed, IsHub, IsOnCourse, seats_of}
use Rattle.tk_hub.specs.Seats.{AreSeats, IsSeat, IsSeated, SeatsView, heard_at, link_at, said_at}
use Rattle.tk_hub.specs.Turn.{HoldsAt, IsBadAt, IsRefusedAt, is_lost}
use Rattle.tk_hub.specs.Visitor.{VisitorView}
use Rattle.tk_hub.specs.declared.course.Course.{Course}
use Rattle.tk_hub.specs.declared.course.Course.TheVariants as cs

-- the wire has other bytes in its boxes
pub record Pipes {W : Type 0} (x y : LinkView W) : Type 0 where
  pub bearing : Traffic → W → W
  pub traffic : Traffic
  pub is : y ≡ over bearing traffic x
  pub came : traffic.came ≡ x.traffic.came
  pub went : traffic.went ≡ x.traffic.went

abbrev pub SeatPipes : {W : Type 0} → Option (LinkView W) → Option (LinkView W) → Type 0
SeatPipes None new = new ≡ None
SeatPipes (Some x) None = ⊥
SeatPipes (Some x) (Some y) = Pipes x y

pub pipes_drained : {W : Type 0} (piece : W → ℕ) (bearing : Traffic → W → W) (moved : ℕ) (x y : Option (LinkView W)) (before now : Queue) → SeatDrains piece bearing moved x y before now → SeatPipes x y
pipes_drained piece bearing moved None y before now d = d.0
pipes_drained piece bearing moved (Some x) None before now d = d
pipes_drained piece bearing moved (Some x) (Some y) before now d = record { bearing = bearing; traffic = drained moved x.traffic; is = d.wire; came = refl; went = refl }

pub pipes_filled : {W : Type 0} (piece : W → ℕ) (bearing : Traffic → W → W) (moved : ℕ) (x y : Option (LinkView W)) (before now : Queue) → SeatFills piece bearing moved x y before now → SeatPipes x y
pipes_filled piece bearing moved None y before now d = d.0
pipes_filled piece bearing moved (Some x) None before now d = d
pipes_filled piece bearing moved (Some x) (Some y) before now d = record { bearing = bearing; traffic = filled (take moved before.bytes) x.traffic; is = d.wire; came = refl; went = refl }

piped_link : {W : Type 0} (run mon : ℕ) (j : List Noted) (x : LinkView W) (bearing : Traffic → W → W) (t : Traffic) → t.came ≡ x.traffic.came → t.went ≡ x.traffic.went → IsSeated run j mon x → IsSeated run j mon (over bearing t x)
piped_link run mon j x bearing t came went p = record {
  version = p.version;
  written = p.written;
  ends = record {
    came = λ tells. subst (λ xs. IsParse x.version (heard_at run j mon x) xs x.unread) (sym came) (p.ends.came tells);
    went = λ tells. subst (λ xs. IsEncoding x.version (said_at j mon x) xs x.output) (sym went) (p.ends.went tells);
    covered = p.ends.covered;
  };
}

piped_seat : {W : Type 0} (run mon : ℕ) (j : List Noted) (x y : Option (LinkView W)) → SeatPipes x y → IsSeat run j mon x → IsSeat run j mon y
piped_seat run mon j None y s p = subst (IsSeat run j mon) (sym s) p
piped_seat run mon j (Some x) None s p = absurd s
piped_seat run mon j (Some x) (Some y) s p = subst (IsSeated run j mon) (sym s.is) (piped_link run mon j x s.bearing s.traffic s.came s.went p)

pub seats_piped : {W : Type 0} (mon : ℕ) (s : SeatsView W) (y : Option (LinkView W)) → IsMonitor s.coordinator.settings mon → AreSeats s → SeatPipes (link_at s.links (mon - 1)) y → AreSeats (record { run = s.run; coordinator = s.coordinator; links = set s.links (mon - 1) y })
seats_piped mon s y is h pipes = seats_put mon s y is h (piped_seat s.run mon s.coordinator.journal (link_at s.links (mon - 1)) y pipes (seat_of mon s is h))

-- ---- the course

-- what a course says of a link is the same of both
record AreAlike {W : Type 0} (x y : LinkView W) : Type 0 where
  version : y.version ≡ x.version
  unread : y.unread ≡ x.unread
  front : y.front ≡ x.front
  shut : y.shut ≡ x.shut
  counts : y.counts ≡ x.counts

abbrev SeatsAlike : {W : Type 0} → Option (LinkView W) → Option (LinkView W) → Type 0
SeatsAlike None new = new ≡ None
SeatsAlike (Some x) None = ⊥
SeatsAlike (Some x) (Some y) = AreAlike x y

alike_same : {W : Type 0} (x : Option (LinkView W)) → SeatsAlike x x
alike_same None = refl
alike_same (Some x) = record { version = refl; unread = refl; front = refl; shut = refl; counts = refl }

alike_piped : {W : Type 0} (x y : Option (LinkView W)) → SeatPipes x y → SeatsAlike x y
alike_piped None y s = s
alike_piped (Some x) None s = s
alike_piped (Some x) (Some y) s = record { version = ap (λ l. l.version) s.is; unread = ap (λ l. l.unread) s.is; front = ap (λ l. l.front) s.is; shut = ap (λ l. l.shut) s.is; counts = ap (λ l. l.counts) s.is }

abbrev EachAlike : {W : Type 0} → List (Option (LinkView W)) → List (Option (LinkView W)) → Type 0
EachAlike old new = (place : ℕ) → SeatsAlike (link_at old place) (link_at new place)

alike_set : {W : Type 0} (links : List (Option (LinkView W))) (p : ℕ) (y : Option (LinkView W)) → p < length links → SeatsAlike (link_at links p) y → EachAlike links (set links p y)
alike_set links p y within alike = λ place. elim (cases_eq place p) [
  | inl same ↦ subst (λ k. SeatsAlike (link_at links k) (link_at (set links p y) k)) (sym same) (subst (SeatsAlike (link_at links p)) (sym (get_or-set_same links p y None within)) alike)
  | inr apart ↦ subst (SeatsAlike (link_at links place)) (sym (get_or-set_other links p place y None apart)) (alike_same (link_at links place))
]

shut_alike : {W : Type 0} (b : Bool) (x y : Option (LinkView W)) → SeatsAlike x y → IfSome x (λ link. link.shut ≡ b) → IfSome y (λ link. link.shut ≡ b)
shut_alike b None y s is = subst (λ o. IfSome o (λ link. link.shut ≡ b)) (sym s) tt
shut_alike b (Some x) None s is = absurd s
shut_alike b (Some x) (Some y) s is = s.shut ∙ is

refused_alike : {W : Type 0} (mon : ℕ) (c : CoordinatorView) (why : CoordRefusal) (y z : LinkView W) → AreAlike y z → IsRefusedAt mon c why y → IsRefusedAt mon c why z
refused_alike mon c why y z s r = record {
  frame = r.frame;
  read = s.front ∙ r.read;
  rest = r.rest;
  leaves = subst (λ v. Leaves v r.frame z.unread r.rest) (sym s.version) (subst (λ xs. Leaves y.version r.frame xs r.rest) (sym s.unread) r.leaves);
  refused = r.refused;
}

bad_alike : {W : Type 0} (fault : BadFrame) (y z : LinkView W) → AreAlike y z → IsBadAt fault y → IsBadAt fault z
bad_alike fault y z s b = (subst (λ v. Answers v z.unread (n.Bad fault)) (sym s.version) (subst (λ xs. Answers y.version xs (n.Bad fault)) (sym s.unread) b.0), s.front ∙ b.1)

alike_is : {W : Type 0} (y z : Option (LinkView W)) (link : LinkView W) → SeatsAlike y z → y ≡ Some link → (after : LinkView W) × (z ≡ Some after) × AreAlike link after
alike_is None z link s is = absurd (cc)
alike_is (Some y) None link s is = absurd s
alike_is (Some y) (Some z) link s is = (z, refl, subst (λ l. AreAlike l z) (let e : y ≡ link = cc in e) s)

holds_alike : {W : Type 0} (mon : ℕ) (old new : List (Option (LinkView W))) (P : LinkView W → Type 0) → EachAlike old new → ((y z : LinkView W) → AreAlike y z → P y → P z) → HoldsAt old mon P → HoldsAt new mon P
holds_alike mon old new P alike keeps h =
    let after = alike_is (link_at old (mon - 1)) (link_at new (mon - 1)) h.link (alike (mon - 1)) h.at in
    record { some = h.some; link = after.0; at = after.1; holds = keeps h.link after.0 after.2 h.holds }

closed_alike : {W : Type 0} (old new : List (Option (LinkView W))) (held : Slab (VisitorView W)) → EachAlike old new → IsClosed old held → IsClosed new held
closed_alike old new held alike closed = record { shut = λ place. shut_alike true (link_at old place) (link_at new place) (alike place) (closed.shut place); held_none = closed.held_none }

course_alike : {W : Type 0} (c : CoordinatorView) (old new : List (Option (LinkView W))) (held : Slab (VisitorView W)) (course : Course) → EachAlike old new → IsOnCourse c old held course → IsOnCourse c new held course
course_alike c old new held cs.Open alike on = λ place. shut_alike false (link_at old place) (link_at new place) (alike place) (on place)
course_alike c old new held cs.Halted alike on = closed_alike old new held alike on
course_alike c old new held cs.Failed alike on = (closed_alike old new held alike on.0, (on.1.0, holds_alike on.1.0 old new (λ link. is_lost link.counts ≡ true) alike (λ y z s lost. ap is_lost s.counts ∙ lost) on.1.1))
course_alike c old new held (cs.Refused mon why) alike on = (closed_alike old new held alike on.0, holds_alike mon.0 old new (IsRefusedAt mon.0 c why) alike (refused_alike mon.0 c why) on.1)
course_alike c old new held (cs.Bad mon fault) alike on = (closed_alike old new held alike on.0, holds_alike mon.0 old new (IsBadAt fault) alike (bad_alike fault) on.1)
course_alike c old new held cs.WriteFailed alike on = closed_alike old new held alike on

-- a hub of which one wire has other bytes in its boxes
pub hub_piped : {W : Type 0} (mon : ℕ) (hub : HubView W) (new : SeatsView W) → IsMonitor hub.coordinator.settings mon → IsHub hub → AreSeats new → SeatPipes (link_at hub.links (mon - 1)) (link_at new.links (mon - 1)) → new ≡ record (seats_of hub) { links = set hub.links (mon - 1) (link_at new.links (mon - 1)) }
    → IsHub (record { run = new.run; coordinator = new.coordinator; links = new.links; held = hub.held; strangers = hub.strangers; lines = hub.lines; course = hub.course })
hub_piped {W} mon hub new is h seats pipes rest =
    let Kept : SeatsView W → Type 0 = λ s. IsHub (record { run = s.run; coordinator = s.coordinator; links = s.links; held = hub.held; strangers = hub.strangers; lines = hub.lines; course = hub.course }) in
    let y = link_at new.links (mon - 1) in
    let within : mon - 1 < length hub.links = omega (arith, h.seats.count, is.from_one, is.within) in
    subst Kept (sym rest) (record {
      seats = subst AreSeats rest seats;
      lines = h.lines;
      few = h.few;
      course = course_alike hub.coordinator hub.links (set hub.links (mon - 1) y) hub.held hub.course (alike_set hub.links (mon - 1) y within (alike_piped (link_at hub.links (mon - 1)) y pipes)) h.course;
    })
