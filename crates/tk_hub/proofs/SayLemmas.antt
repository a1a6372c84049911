-- What is said behind a hearing leaves what that was.
use Rattle.std.proofs.Common.{◌≡◌, ◌<◌, ◌≤◌, ◌+◌, min, ℕ, List, [], ◌∷◌, ◌++◌, length, take, set, true, Option, Some, None, IfSome, Result, Ok, Err, refl, sym, ap, ◌∙◌, subst, arith, inl, inr}
use Rattle.std.proofs.lemmas.Bool.{cases_eq, cases_lt, false≢true}
use Rattle.std.proofs.lemmas.List.{get_or-set_same, get_or_past, length-append, length-take}
use Rattle.tk_base.specs.declared.memory.NoMemory.{NoMemory}
use Rattle.tk_coord.specs.Coordinator.{CoordinatorView}
use Rattle.tk_end.proofs.PassingLemmas.{passes_said}
use Rattle.tk_end.specs.Link.{LinkView, Says}
use Rattle.tk_frames.specs.Answer.{Answers}
use Rattle.tk_frames.specs.declared.answer.Next.{Next}
use Rattle.tk_frames.specs.declared.answer.Next.TheVariants as n
use Rattle.tk_frames.specs.declared.frame.Frame.{Frame}
use Rattle.tk_journal.specs.Links.{frames_to}
use Rattle.tk_wire.specs.Meanings.{raised_by}
use Rattle.tk_wire.specs.Parse.{spellings}
use Rattle.tk_wire.specs.declared.out_buffer.Pushed.{Pushed}
use Rattle.tk_wire.specs.declared.out_buffer.Pushed.TheVariants as p
use Rattle.tk_hub.proofs.HearLemmas.{all_ends, at_other, gives_on, passes_at_on, passes_set}
use Rattle.tk_hub.specs.Seats.{AreSeats, HasGiven, SeatsView, link_at}
use Rattle.tk_hub.specs.Slot.{SaysAt, SeatSays}
use Rattle.tk_hub.specs.Turn.{CountsEach, EachSaid, EachSteady, EndsAt, EndsEach, HasSaid, Hears, IsStopGiven, PassesAt, SomeFails, SteadyAt, goes_on}
use Rattle.tk_hub.specs.declared.course.HubTurn.{HubTurn}
use Rattle.tk_hub.specs.declared.course.HubTurn.TheVariants as t

front_empty : (xs ys : List ℕ) → [] ≡ xs ++ ys → ys ≡ []
front_empty [] ys is = sym is
front_empty (x ∷ xs) ys is = absurd (cc)

none_of : {X : Type 0} (xs : List X) → length xs ≡ 0 → xs ≡ []
none_of [] is = refl
none_of (x ∷ xs) is = absurd (omega (arith, is))

-- where all is written and given, a saying changes nothing
stop_said : {W : Type 0} (mon : ℕ) (c : CoordinatorView) (x y : LinkView W) → Says (frames_to mon c.journal) x y → IsStopGiven mon c x → IsStopGiven mon c y
stop_said mon c x y s g =
    let all = frames_to mon c.journal in
    let count : min y.written (length all) ≡ min x.written (length all) + length s.frames =
    sym (length-take y.written all) ∙ ap length s.reached ∙ length-append (take x.written all) s.frames ∙ ap (λ k. k + length s.frames) (length-take x.written all) in
    let none : s.frames ≡ [] = none_of s.frames (omega (arith, count, g.written, s.within)) in
    record {
      stopped = g.stopped;
      written = omega (arith, count, g.written, s.within);
      given = front_empty s.given y.output (ap (λ xs. xs ++ []) (sym g.given) ∙ ap (λ fs. x.output ++ spellings x.version fs) (sym none) ∙ s.output);
    }

answers_said : {W : Type 0} (frames : List Frame) (x y : LinkView W) (next : Next) → Says frames x y → Answers x.version x.unread next → Answers y.version y.unread next
answers_said frames x y next s a = subst (λ v. Answers v y.unread next) (sym s.version) (subst (λ xs. Answers x.version xs next) (sym s.unread) a)

-- a saying finds no end
ends_counted : {W : Type 0} (mon : ℕ) (c : CoordinatorView) (result : Result Pushed NoMemory) (x y : LinkView W) → SaysAt mon c result x y → y.counts.ends ≡ x.counts.ends
ends_counted mon c (Ok p.Empty) x y s = ap (λ k. k.ends) s.counted
ends_counted mon c (Ok p.NotYet) x y s = ap (λ k. k.ends) s.counted
ends_counted mon c (Ok p.Failed) x y s = ap (λ k. k.ends) s.counted
ends_counted mon c (Err e) x y s = ap (λ k. k.ends) s.err.1

ends_said : {W : Type 0} (mon : ℕ) (c : CoordinatorView) (turn : HubTurn) (x y : LinkView W) → goes_on turn ≡ true → Says (frames_to mon c.journal) x y → y.counts.ends ≡ x.counts.ends → EndsAt mon c x turn → EndsAt mon c y turn
ends_said mon c t.Quiet x y goes s ends (all, inl e) = (answers_said (frames_to mon c.journal) x y n.Part s all, inl (λ tells. let told = sym s.tells ∙ tells in (s.departed told).waiting ∙ e told))
ends_said mon c t.Quiet x y goes s ends (all, inr e) = (answers_said (frames_to mon c.journal) x y n.Part s all, inr (stop_said mon c x y s e.0, omega (arith, ends, e.1)))
ends_said mon c t.More x y goes s ends e = answers_said (frames_to mon c.journal) x y n.Part s e
ends_said mon c t.Finished x y goes s ends e = absurd (cc)
ends_said mon c t.Failed x y goes s ends e = absurd (cc)
ends_said mon c (t.Refused m why) x y goes s ends e = absurd (cc)
ends_said mon c (t.Bad m fault) x y goes s ends e = absurd (cc)
ends_said mon c t.WriteFailed x y goes s ends e = absurd (cc)
ends_said mon c t.NoMemory x y goes s ends e = absurd (cc)

ends_seat : {W : Type 0} (mon : ℕ) (c : CoordinatorView) (turn : HubTurn) (result : Result Pushed NoMemory) (x y : Option (LinkView W)) → goes_on turn ≡ true → SeatSays mon c result x y → IfSome x (λ link. EndsAt mon c link turn) → IfSome y (λ link. EndsAt mon c link turn)
ends_seat mon c turn result None y goes s e = subst (λ o. IfSome o (λ link. EndsAt mon c link turn)) (sym s.0) tt
ends_seat mon c turn result (Some x) None goes s e = absurd s
ends_seat mon c turn result (Some x) (Some y) goes s e = ends_said mon c turn x y goes s.says (ends_counted mon c result x y s) e

passes_seat : {W : Type 0} (mon : ℕ) (c : CoordinatorView) (result : Result Pushed NoMemory) (x y : Option (LinkView W)) → SeatSays mon c result x y → PassesAt x y
passes_seat mon c result None y s = s.0
passes_seat mon c result (Some x) None s = absurd s
passes_seat mon c result (Some x) (Some y) s = (passes_said (frames_to mon c.journal) x y s.says, s.says.shut)

-- ---- the counts

abbrev pub Fails : Result Pushed NoMemory → Type 0
Fails result = result ≡ Ok p.Failed

counts_said : {W : Type 0} (mon : ℕ) (c : CoordinatorView) (result : Result Pushed NoMemory) (x y : LinkView W) → (Fails result → ⊥) → SaysAt mon c result x y → y.counts ≡ x.counts
counts_said mon c (Ok p.Empty) x y other s = s.counted
counts_said mon c (Ok p.NotYet) x y other s = s.counted
counts_said mon c (Ok p.Failed) x y other s = absurd (other refl)
counts_said mon c (Err e) x y other s = s.err.1

steady_said : {W : Type 0} (mon : ℕ) (c : CoordinatorView) (result : Result Pushed NoMemory) (o x y : Option (LinkView W)) → (Fails result → ⊥) → SeatSays mon c result x y → SteadyAt mon c o x → SteadyAt mon c o y
steady_said mon c result None x y other s k = tt
steady_said mon c result (Some o) x None other s k = tt
steady_said mon c result (Some o) None (Some y) other s k = absurd (let q = s.0 in cc)
steady_said mon c result (Some o) (Some x) (Some y) other s (faults, inl ends) =
    let same = counts_said mon c result x y other s in (ap (λ k. k.faults) same ∙ faults, inl (ap (λ k. k.ends) same ∙ ends))
steady_said mon c result (Some o) (Some x) (Some y) other s (faults, inr stop) =
    let same = counts_said mon c result x y other s in (ap (λ k. k.faults) same ∙ faults, inr (stop_said mon c x y s.says stop))

steady_all : {W : Type 0} (p : ℕ) (c : CoordinatorView) (result : Result Pushed NoMemory) (old mid : List (Option (LinkView W))) (y : Option (LinkView W)) → (Fails result → ⊥) → p < length mid → SeatSays (p + 1) c result (link_at mid p) y → EachSteady c old mid → EachSteady c old (set mid p y)
steady_all p c result old mid y other within s each = λ i. elim (cases_eq i p) [
  | inl same ↦ subst (λ k. SteadyAt (k + 1) c (link_at old k) (link_at (set mid p y) k)) (sym same)
      (subst (SteadyAt (p + 1) c (link_at old p)) (sym (get_or-set_same mid p y None within)) (steady_said (p + 1) c result (link_at old p) (link_at mid p) y other s (each p)))
  | inr apart ↦ subst (SteadyAt (i + 1) c (link_at old i)) (sym (at_other mid p i y apart)) (each i)
]

raised : (a b x : ℕ) → b ≡ a → x ≡ raised_by 1 b → x ≡ raised_by 1 a
raised a b x same is = is ∙ ap (raised_by 1) same

fails_said : {W : Type 0} (q : ℕ) (c : CoordinatorView) (old new : List (Option (LinkView W))) (o x y : Option (LinkView W)) → link_at old q ≡ o → link_at new q ≡ y → PassesAt o x → SteadyAt (q + 1) c o x → SeatSays (q + 1) c (Ok p.Failed) x y → SomeFails c old new
fails_said q c old new o None y was is passes k s = absurd (let e = s.1 in cc)
fails_said q c old new o (Some x) None was is passes k s = absurd s
fails_said q c old new None (Some x) (Some y) was is passes k s = absurd (cc)
fails_said q c old new (Some o) (Some x) (Some y) was is passes k s = record {
  place = q;
  before = o;
  now = y;
  was = was;
  is = is;
  fails = inl (raised o.counts.faults x.counts.faults y.counts.faults k.0 (ap (λ z. z.faults) s.counted));
}

-- ---- a hearing, and then one saying

pub steady_from : {W : Type 0} (turn : HubTurn) (c : CoordinatorView) (old new : List (Option (LinkView W))) → goes_on turn ≡ true → CountsEach turn c old new → EachSteady c old new
steady_from t.Quiet c old new goes k = k
steady_from t.More c old new goes k = k
steady_from t.Finished c old new goes k = absurd (cc)
steady_from t.Failed c old new goes k = absurd (cc)
steady_from (t.Refused m why) c old new goes k = absurd (cc)
steady_from (t.Bad m fault) c old new goes k = absurd (cc)
steady_from t.WriteFailed c old new goes k = absurd (cc)
steady_from t.NoMemory c old new goes k = absurd (cc)

ends_from : {W : Type 0} (turn : HubTurn) (c : CoordinatorView) (links : List (Option (LinkView W))) → goes_on turn ≡ true → EndsEach turn c links → (i : ℕ) → IfSome (link_at links i) (λ link. EndsAt (i + 1) c link turn)
ends_from t.Quiet c links goes e = e
ends_from t.More c links goes e = e
ends_from t.Finished c links goes e = absurd (cc)
ends_from t.Failed c links goes e = absurd (cc)
ends_from (t.Refused m why) c links goes e = absurd (cc)
ends_from (t.Bad m fault) c links goes e = absurd (cc)
ends_from t.WriteFailed c links goes e = absurd (cc)
ends_from t.NoMemory c links goes e = absurd (cc)

pub counts_from : {W : Type 0} (turn : HubTurn) (c : CoordinatorView) (old new : List (Option (LinkView W))) → (turn ≡ t.Failed → ⊥) → EachSteady c old new → CountsEach turn c old new
counts_from t.Quiet c old new other k = k
counts_from t.More c old new other k = k
counts_from t.Finished c old new other k = k
counts_from t.Failed c old new other k = absurd (other refl)
counts_from (t.Refused m why) c old new other k = k
counts_from (t.Bad m fault) c old new other k = k
counts_from t.WriteFailed c old new other k = k
counts_from t.NoMemory c old new other k = k

no_failure : (turn : HubTurn) → goes_on turn ≡ true → turn ≡ t.Failed → ⊥
no_failure turn goes is = absurd (false≢true (sym (ap goes_on is) ∙ goes))

abbrev with_seat : {W : Type 0} → SeatsView W → ℕ → Option (LinkView W) → SeatsView W
with_seat s p y = record { run = s.run; coordinator = s.coordinator; links = set s.links p y }

-- one link said what there was to say
pub heard_said : {W : Type 0} (q : ℕ) (turn : HubTurn) (result : Result Pushed NoMemory) (old now : SeatsView W) (y : Option (LinkView W)) → q < length now.links → goes_on turn ≡ true → (Fails result → ⊥) → Hears turn old now → SeatSays (q + 1) now.coordinator result (link_at now.links q) y → Hears turn old (with_seat now q y)
heard_said q turn result old now y within goes other h s =
    let c = now.coordinator in
    let links = set now.links q y in
    let steps : (i : ℕ) → PassesAt (link_at now.links i) (link_at links i) = passes_set now.links q y within (passes_seat (q + 1) c result (link_at now.links q) y s) in
    record {
      run = h.run;
      reaches = h.reaches;
      passes = λ i. passes_at_on (link_at old.links i) (link_at now.links i) (link_at links i) (h.passes i) (steps i);
      more = λ is. gives_on old.links now.links links (h.more is) steps;
      never = h.never;
      ends = all_ends turn c links goes (λ i. elim (cases_eq i q) [
        | inl same ↦ subst (λ k. IfSome (link_at links k) (λ link. EndsAt (k + 1) c link turn)) (sym same)
            (subst (λ o. IfSome o (λ link. EndsAt (q + 1) c link turn)) (sym (get_or-set_same now.links q y None within))
            (ends_seat (q + 1) c turn result (link_at now.links q) y goes s (ends_from turn c now.links goes h.ends q)))
        | inr apart ↦ subst (λ o. IfSome o (λ link. EndsAt (i + 1) c link turn)) (sym (at_other now.links q i y apart)) (ends_from turn c now.links goes h.ends i)
      ]);
      counts = counts_from turn c old.links links (no_failure turn goes) (steady_all q c result old.links now.links y other within s (steady_from turn c old.links now.links goes h.counts));
    }

-- there was no memory to say it, or the wire failed
pub heard_unsaid : {W : Type 0} (q : ℕ) (turn : HubTurn) (e : NoMemory) (old now : SeatsView W) (y : Option (LinkView W)) → q < length now.links → goes_on turn ≡ true → Hears turn old now → SeatSays (q + 1) now.coordinator (Err e) (link_at now.links q) y → Hears t.NoMemory old (with_seat now q y)
heard_unsaid q turn e old now y within goes h s =
    let c = now.coordinator in
    let links = set now.links q y in
    let steps : (i : ℕ) → PassesAt (link_at now.links i) (link_at links i) = passes_set now.links q y within (passes_seat (q + 1) c (Err e) (link_at now.links q) y s) in
    record {
      run = h.run;
      reaches = h.reaches;
      passes = λ i. passes_at_on (link_at old.links i) (link_at now.links i) (link_at links i) (h.passes i) (steps i);
      more = λ is. absurd (cc);
      never = λ is. absurd (cc);
      ends = tt;
      counts = steady_all q c (Err e) old.links now.links y (λ is. absurd (cc)) within s (steady_from turn c old.links now.links goes h.counts);
    }

pub heard_failed : {W : Type 0} (q : ℕ) (turn : HubTurn) (old now : SeatsView W) (y : Option (LinkView W)) → q < length now.links → goes_on turn ≡ true → Hears turn old now → SeatSays (q + 1) now.coordinator (Ok p.Failed) (link_at now.links q) y → Hears t.Failed old (with_seat now q y)
heard_failed q turn old now y within goes h s =
    let c = now.coordinator in
    let links = set now.links q y in
    let steps : (i : ℕ) → PassesAt (link_at now.links i) (link_at links i) = passes_set now.links q y within (passes_seat (q + 1) c (Ok p.Failed) (link_at now.links q) y s) in
    record {
      run = h.run;
      reaches = h.reaches;
      passes = λ i. passes_at_on (link_at old.links i) (link_at now.links i) (link_at links i) (h.passes i) (steps i);
      more = λ is. absurd (cc);
      never = λ is. absurd (cc);
      ends = tt;
      counts = fails_said q c old.links links (link_at old.links q) (link_at now.links q) y refl (get_or-set_same now.links q y None within) (h.passes q) (steady_from turn c old.links now.links goes h.counts q) s;
    }

-- ---- all that is said

has_said : {W : Type 0} (mon : ℕ) (c : CoordinatorView) (pushed : Pushed) (x y : Option (LinkView W)) → (pushed ≡ p.Failed → ⊥) → SeatSays mon c (Ok pushed) x y → IfSome y (HasSaid mon c)
has_said mon c pushed None y other s = subst (λ o. IfSome o (HasSaid mon c)) (sym s.0) tt
has_said mon c pushed (Some x) None other s = absurd s
has_said mon c p.Empty (Some x) (Some y) other s = record { written = s.ok; given = inl (s.empty.0 refl) }
has_said mon c p.NotYet (Some x) (Some y) other s = record { written = s.ok; given = inr (s.full refl) }
has_said mon c p.Failed (Some x) (Some y) other s = absurd (other refl)

-- the links in front of a place have said all
abbrev pub SaidUpTo : {W : Type 0} → ℕ → CoordinatorView → List (Option (LinkView W)) → Type 0
SaidUpTo place c links = (i : ℕ) → i < place → IfSome (link_at links i) (HasSaid (i + 1) c)

pub said_more : {W : Type 0} (q : ℕ) (c : CoordinatorView) (pushed : Pushed) (links : List (Option (LinkView W))) (y : Option (LinkView W)) → q < length links → (pushed ≡ p.Failed → ⊥) → SaidUpTo q c links → SeatSays (q + 1) c (Ok pushed) (link_at links q) y → SaidUpTo (q + 1) c (set links q y)
said_more q c pushed links y within other u s = λ i few. elim (cases_eq i q) [
  | inl same ↦ subst (λ k. IfSome (link_at (set links q y) k) (HasSaid (k + 1) c)) (sym same)
      (subst (λ o. IfSome o (HasSaid (q + 1) c)) (sym (get_or-set_same links q y None within)) (has_said (q + 1) c pushed (link_at links q) y other s))
  | inr apart ↦ subst (λ o. IfSome o (HasSaid (i + 1) c)) (sym (at_other links q i y apart)) (u i (omega (arith, few, apart)))
]

-- ---- over a call of one seat, whose place is one less than its number

seat_here : {W : Type 0} (m q : ℕ) (now : SeatsView W) (result : Result Pushed NoMemory) (y : Option (LinkView W)) → q ≡ m → SeatSays (m + 1) now.coordinator result (link_at now.links q) y → SeatSays (m + 1) now.coordinator result (link_at now.links m) y
seat_here m q now result y at s = subst (λ k. SeatSays (m + 1) now.coordinator result (link_at now.links k) y) at s

pub heard_step : {W : Type 0} (m q : ℕ) (turn : HubTurn) (result : Result Pushed NoMemory) (old now new : SeatsView W) → q ≡ m → m < length now.links → SeatSays (m + 1) now.coordinator result (link_at now.links q) (link_at new.links q) → new ≡ record now { links = set now.links q (link_at new.links q) }
    → goes_on turn ≡ true → (Fails result → ⊥) → Hears turn old now → Hears turn old new
heard_step {W} m q turn result old now new at within s is goes other h =
    let y = link_at new.links q in
    let With : ℕ → Type 0 = λ k. Hears turn old (with_seat now k y) in
    subst (Hears turn old) (sym is) (subst With (sym at) (heard_said m turn result old now y within goes other h (seat_here m q now result y at s)))

pub heard_want : {W : Type 0} (m q : ℕ) (turn : HubTurn) (e : NoMemory) (old now new : SeatsView W) → q ≡ m → m < length now.links → SeatSays (m + 1) now.coordinator (Err e) (link_at now.links q) (link_at new.links q) → new ≡ record now { links = set now.links q (link_at new.links q) }
    → goes_on turn ≡ true → Hears turn old now → Hears t.NoMemory old new
heard_want {W} m q turn e old now new at within s is goes h =
    let y = link_at new.links q in
    let With : ℕ → Type 0 = λ k. Hears t.NoMemory old (with_seat now k y) in
    subst (Hears t.NoMemory old) (sym is) (subst With (sym at) (heard_unsaid m turn e old now y within goes h (seat_here m q now (Err e) y at s)))

pub heard_fail : {W : Type 0} (m q : ℕ) (turn : HubTurn) (old now new : SeatsView W) → q ≡ m → m < length now.links → SeatSays (m + 1) now.coordinator (Ok p.Failed) (link_at now.links q) (link_at new.links q) → new ≡ record now { links = set now.links q (link_at new.links q) }
    → goes_on turn ≡ true → Hears turn old now → Hears t.Failed old new
heard_fail {W} m q turn old now new at within s is goes h =
    let y = link_at new.links q in
    let With : ℕ → Type 0 = λ k. Hears t.Failed old (with_seat now k y) in
    subst (Hears t.Failed old) (sym is) (subst With (sym at) (heard_failed m turn old now y within goes h (seat_here m q now (Ok p.Failed) y at s)))

pub said_step : {W : Type 0} (m q : ℕ) (pushed : Pushed) (now new : SeatsView W) → q ≡ m → m < length now.links → SeatSays (m + 1) now.coordinator (Ok pushed) (link_at now.links q) (link_at new.links q) → new ≡ record now { links = set now.links q (link_at new.links q) }
    → (pushed ≡ p.Failed → ⊥) → SaidUpTo m now.coordinator now.links → SaidUpTo (m + 1) new.coordinator new.links
said_step {W} m q pushed now new at within s is other u =
    let y = link_at new.links q in
    let With : ℕ → Type 0 = λ k. SaidUpTo (m + 1) now.coordinator (set now.links k y) in
    let Seen : SeatsView W → Type 0 = λ v. SaidUpTo (m + 1) v.coordinator v.links in
    subst Seen (sym is) (subst With (sym at) (said_more m now.coordinator pushed now.links y within other u (seat_here m q now (Ok pushed) y at s)))

-- all seats have said all
pub said_past : {W : Type 0} (count : ℕ) (c : CoordinatorView) (links : List (Option (LinkView W))) → length links ≤ count → SaidUpTo count c links → EachSaid c links
said_past count c links all u = λ i. elim (cases_lt i count) [
  | inl few ↦ u i few
  | inr beyond ↦ subst (λ o. IfSome o (HasSaid (i + 1) c)) (sym (get_or_past links i None (omega (arith, beyond, all)))) tt
]

-- what a saying of one seat after the other keeps
abbrev pub SaysUpTo : {W : Type 0} → ℕ → SeatsView W → SeatsView W → Type 0
SaysUpTo {W} place start now =
    (now ≡ record start { links = now.links })
    × SaidUpTo place now.coordinator now.links
    × ((old : SeatsView W) (turn : HubTurn) → goes_on turn ≡ true → Hears turn old start → Hears turn old now)
    × AreSeats now

ok_fails : (pushed : Pushed) → (pushed ≡ p.Failed → ⊥) → Fails (Ok pushed) → ⊥
ok_fails p.Empty other is = absurd (cc)
ok_fails p.NotYet other is = absurd (cc)
ok_fails p.Failed other is = other refl

-- one more seat said what there was to say
pub says_step : {W : Type 0} (m q : ℕ) (pushed : Pushed) (start now new : SeatsView W) → q ≡ m → m < length now.links → SeatSays (m + 1) now.coordinator (Ok pushed) (link_at now.links q) (link_at new.links q) → new ≡ record now { links = set now.links q (link_at new.links q) }
    → (pushed ≡ p.Failed → ⊥) → AreSeats new → SaysUpTo m start now → SaysUpTo (m + 1) start new
says_step {W} m q pushed start now new at within s is other kept u = (
  (let Whole : SeatsView W → SeatsView W = λ v. record v { links = new.links } in ap Whole is ∙ ap Whole u.0),
  said_step m q pushed now new at within s is other u.1,
  λ old turn goes h. heard_step m q turn (Ok pushed) old now new at within s is goes (ok_fails pushed other) (u.2 old turn goes h),
  kept,
)

-- ---- whether all is given

pub given_at : {W : Type 0} (m q : ℕ) (s : SeatsView W) → q ≡ m → HasGiven (length (frames_to (m + 1) s.coordinator.journal)) (link_at s.links m) → HasGiven (length (frames_to (m + 1) s.coordinator.journal)) (link_at s.links q)
given_at m q s at h = subst (λ k. HasGiven (length (frames_to (m + 1) s.coordinator.journal)) (link_at s.links k)) (sym at) h
