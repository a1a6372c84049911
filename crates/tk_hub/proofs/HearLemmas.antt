-- Links that are heard one behind the other.
use Rattle.std.proofs.Common.{◌≡◌, ◌<◌, ◌≤◌, ◌+◌, ◌-◌, ℕ, List, length, set, true, false, Option, Some, None, IfSome, refl, sym, ap, ◌∙◌, subst, arith, inl, inr}
use Rattle.std.proofs.lemmas.Bool.{cases_eq, cases_lt, false≢true}
use Rattle.std.proofs.lemmas.List.{get_or-set_other, get_or-set_same, get_or_past, length-set}
use Rattle.tk_coord.specs.Coordinator.{CoordinatorView}
use Rattle.tk_end.proofs.PassingLemmas.{passes_heard, passes_nothing, passes_on}
use Rattle.tk_end.specs.Link.{LinkView, Passes}
use Rattle.tk_journal.specs.Laws.{IsMonitor}
use Rattle.tk_hub.proofs.SeatsLemmas.{reaches_seat}
use Rattle.tk_hub.proofs.TakenLemmas.{reaches_on, stopped_stays}
use Rattle.tk_hub.specs.Desk.{heard_from, refuses, said_to, takes}
use Rattle.tk_hub.specs.Seats.{SeatsView, link_at}
use Rattle.tk_hub.specs.Slot.{SeatHears}
use Rattle.tk_hub.specs.Turn.{CountsAt, CountsEach, EachSteady, EndsAt, EndsEach, GivesPieces, Hears, HoldsAt, IsRefusedAt, IsSteadyAt, IsStopGiven, PassesAt, Reaches, SomeFails, Stays, SteadyAt, goes_on, joined, pieces_of}
use Rattle.tk_hub.specs.declared.course.HubTurn.{HubTurn}
use Rattle.tk_hub.specs.declared.course.HubTurn.TheVariants as t
use Rattle.tk_hub.specs.declared.desk.Desk.{Desk}

-- the links in front of a place were heard, and the turn goes on
pub record HearsUpTo {W : Type 0} (place : ℕ) (turn : HubTurn) (old new : SeatsView W) : Type 0 where
  pub run : new.run ≡ old.run
  pub count : length new.links ≡ length old.links
  pub reaches : Reaches old.coordinator new.coordinator
  pub passes : (i : ℕ) → PassesAt (link_at old.links i) (link_at new.links i)
  pub more : turn ≡ t.More → GivesPieces old.links new.links
  pub goes : goes_on turn ≡ true
  pub ends : (i : ℕ) → i < place → IfSome (link_at new.links i) (λ link. EndsAt (i + 1) new.coordinator link turn)
  pub counts : EachSteady new.coordinator old.links new.links
  pub rest : (i : ℕ) → place ≤ i → link_at new.links i ≡ link_at old.links i

-- ---- one seat

pub passes_same : {W : Type 0} (x : Option (LinkView W)) → PassesAt x x
passes_same None = refl
passes_same (Some x) = (passes_nothing x, refl)

pub passes_at_on : {W : Type 0} (x y z : Option (LinkView W)) → PassesAt x y → PassesAt y z → PassesAt x z
passes_at_on None y z p q = subst (λ o. PassesAt o z) p q
passes_at_on (Some x) None z p q = absurd p
passes_at_on (Some x) (Some y) None p q = absurd q
passes_at_on (Some x) (Some y) (Some z) p q = (passes_on 0 0 0 x y z (omega arith) p.0 q.0, q.1 ∙ p.1)

passes_seat : {W : Type 0} (mon : ℕ) (next : HubTurn) (x y : Option (LinkView W)) (a b : Desk) → SeatHears mon next x y a b → PassesAt x y
passes_seat mon next None y a b h = h.0
passes_seat mon next (Some x) None a b h = absurd h
passes_seat mon next (Some x) (Some y) a b h =
    let all = passes_heard refuses takes heard_from said_to mon (pieces_of next) x y a b h.hears in
    (passes_on 0 (pieces_of next) 0 x y y (omega arith) all (passes_nothing y), h.hears.listens.keeps.shut)

-- Stop that was given stays given: a coordinator that has stopped takes nothing
pub given_on : {W : Type 0} (mon peer : ℕ) (next : HubTurn) (x y : Option (LinkView W)) (a b : Desk) (link : LinkView W) → SeatHears peer next x y a b → IsStopGiven mon a.coordinator link → IsStopGiven mon b.coordinator link
given_on mon peer next None y a b link h g = subst (λ d. IsStopGiven mon d.coordinator link) (sym h.1) g
given_on mon peer next (Some x) None a b link h g = absurd h
given_on mon peer next (Some x) (Some y) a b link h g = subst (λ d. IsStopGiven mon d.coordinator link) (sym (stopped_stays peer h.hears.takes.frames a b g.stopped h.hears.takes.takes)) g

ends_seat : {W : Type 0} (mon : ℕ) (next : HubTurn) (x y : Option (LinkView W)) (a b : Desk) → SeatHears mon next x y a b → IfSome y (λ link. EndsAt mon b.coordinator link next)
ends_seat mon next None y a b h = subst (λ o. IfSome o (λ link. EndsAt mon b.coordinator link next)) (sym h.0) tt
ends_seat mon next (Some x) None a b h = absurd h
ends_seat mon next (Some x) (Some y) a b h = h.ends

-- what an end says where the turn goes on
ends_joined : {W : Type 0} (mon : ℕ) (c : CoordinatorView) (turn next : HubTurn) (link : LinkView W) → goes_on turn ≡ true → goes_on next ≡ true → EndsAt mon c link next → EndsAt mon c link (joined turn next)
ends_joined mon c t.Quiet t.Quiet link on goes e = e
ends_joined mon c t.More t.Quiet link on goes e = e.0
ends_joined mon c t.Quiet t.More link on goes e = e
ends_joined mon c t.More t.More link on goes e = e
ends_joined mon c t.Finished next link on goes e = absurd (cc)
ends_joined mon c t.Failed next link on goes e = absurd (cc)
ends_joined mon c (t.Refused m why) next link on goes e = absurd (cc)
ends_joined mon c (t.Bad m fault) next link on goes e = absurd (cc)
ends_joined mon c t.WriteFailed next link on goes e = absurd (cc)
ends_joined mon c t.NoMemory next link on goes e = absurd (cc)
ends_joined mon c t.Quiet t.Finished link on goes e = absurd (cc)
ends_joined mon c t.Quiet t.Failed link on goes e = absurd (cc)
ends_joined mon c t.Quiet (t.Refused m why) link on goes e = absurd (cc)
ends_joined mon c t.Quiet (t.Bad m fault) link on goes e = absurd (cc)
ends_joined mon c t.Quiet t.WriteFailed link on goes e = absurd (cc)
ends_joined mon c t.Quiet t.NoMemory link on goes e = absurd (cc)
ends_joined mon c t.More t.Finished link on goes e = absurd (cc)
ends_joined mon c t.More t.Failed link on goes e = absurd (cc)
ends_joined mon c t.More (t.Refused m why) link on goes e = absurd (cc)
ends_joined mon c t.More (t.Bad m fault) link on goes e = absurd (cc)
ends_joined mon c t.More t.WriteFailed link on goes e = absurd (cc)
ends_joined mon c t.More t.NoMemory link on goes e = absurd (cc)

-- what an end said before, where the turn goes on
ends_kept : {W : Type 0} (mon : ℕ) (c d : CoordinatorView) (turn next : HubTurn) (link : LinkView W) → goes_on turn ≡ true → goes_on next ≡ true → (IsStopGiven mon c link → IsStopGiven mon d link) → EndsAt mon c link turn → EndsAt mon d link (joined turn next)
ends_kept mon c d t.Quiet t.Quiet link on goes given (all, inl e) = (all, inl e)
ends_kept mon c d t.Quiet t.Quiet link on goes given (all, inr e) = (all, inr (given e.0, e.1))
ends_kept mon c d t.Quiet t.More link on goes given e = e.0
ends_kept mon c d t.More t.Quiet link on goes given e = e
ends_kept mon c d t.More t.More link on goes given e = e
ends_kept mon c d t.Finished next link on goes given e = absurd (cc)
ends_kept mon c d t.Failed next link on goes given e = absurd (cc)
ends_kept mon c d (t.Refused m why) next link on goes given e = absurd (cc)
ends_kept mon c d (t.Bad m fault) next link on goes given e = absurd (cc)
ends_kept mon c d t.WriteFailed next link on goes given e = absurd (cc)
ends_kept mon c d t.NoMemory next link on goes given e = absurd (cc)
ends_kept mon c d t.Quiet t.Finished link on goes given e = absurd (cc)
ends_kept mon c d t.Quiet t.Failed link on goes given e = absurd (cc)
ends_kept mon c d t.Quiet (t.Refused m why) link on goes given e = absurd (cc)
ends_kept mon c d t.Quiet (t.Bad m fault) link on goes given e = absurd (cc)
ends_kept mon c d t.Quiet t.WriteFailed link on goes given e = absurd (cc)
ends_kept mon c d t.Quiet t.NoMemory link on goes given e = absurd (cc)
ends_kept mon c d t.More t.Finished link on goes given e = absurd (cc)
ends_kept mon c d t.More t.Failed link on goes given e = absurd (cc)
ends_kept mon c d t.More (t.Refused m why) link on goes given e = absurd (cc)
ends_kept mon c d t.More (t.Bad m fault) link on goes given e = absurd (cc)
ends_kept mon c d t.More t.WriteFailed link on goes given e = absurd (cc)
ends_kept mon c d t.More t.NoMemory link on goes given e = absurd (cc)

pub if_some_map : {X : Type 0} (P Q : X → Type 0) (o : Option X) → ((x : X) → P x → Q x) → IfSome o P → IfSome o Q
if_some_map P Q None f p = tt
if_some_map P Q (Some x) f p = f x p

-- the counts where the wire did not fail
steady_of : {W : Type 0} (mon : ℕ) (c : CoordinatorView) (next : HubTurn) (x y : LinkView W) → (next ≡ t.Failed → ⊥) → CountsAt mon c x y next → IsSteadyAt mon c x y
steady_of mon c t.Quiet x y other k = k
steady_of mon c t.More x y other k = k
steady_of mon c t.Finished x y other k = k
steady_of mon c t.Failed x y other k = absurd (other refl)
steady_of mon c (t.Refused m why) x y other k = k
steady_of mon c (t.Bad m fault) x y other k = k
steady_of mon c t.WriteFailed x y other k = k
steady_of mon c t.NoMemory x y other k = k

steady_seat : {W : Type 0} (mon : ℕ) (next : HubTurn) (x y : Option (LinkView W)) (a b : Desk) → (next ≡ t.Failed → ⊥) → SeatHears mon next x y a b → SteadyAt mon b.coordinator x y
steady_seat mon next None y a b other h = tt
steady_seat mon next (Some x) None a b other h = absurd h
steady_seat mon next (Some x) (Some y) a b other h = steady_of mon b.coordinator next x y other h.counts

pub steady_kept : {W : Type 0} (mon : ℕ) (c d : CoordinatorView) (x y : Option (LinkView W)) → ((link : LinkView W) → IsStopGiven mon c link → IsStopGiven mon d link) → SteadyAt mon c x y → SteadyAt mon d x y
steady_kept mon c d None y given k = tt
steady_kept mon c d (Some x) None given k = tt
steady_kept mon c d (Some x) (Some y) given (faults, inl ends) = (faults, inl ends)
steady_kept mon c d (Some x) (Some y) given (faults, inr stop) = (faults, inr (given y stop))

-- ---- one seat behind the others

pub at_other : {W : Type 0} (links : List (Option (LinkView W))) (p i : ℕ) (y : Option (LinkView W)) → (i ≡ p → ⊥) → link_at (set links p y) i ≡ link_at links i
at_other links p i y apart = get_or-set_other links p i y None apart

pub passes_set : {W : Type 0} (links : List (Option (LinkView W))) (p : ℕ) (y : Option (LinkView W)) → p < length links → PassesAt (link_at links p) y → (i : ℕ) → PassesAt (link_at links i) (link_at (set links p y) i)
passes_set links p y within passes i = elim (cases_eq i p) [
  | inl same ↦ subst (λ k. PassesAt (link_at links k) (link_at (set links p y) k)) (sym same) (subst (PassesAt (link_at links p)) (sym (get_or-set_same links p y None within)) passes)
  | inr apart ↦ subst (PassesAt (link_at links i)) (sym (at_other links p i y apart)) (passes_same (link_at links i))
]

passes_64 : {W : Type 0} (x : LinkView W) (now : LinkView W) (y : Option (LinkView W)) → Passes 64 x now → PassesAt (Some now) y → (z : LinkView W) × (y ≡ Some z) × Passes 64 x z
passes_64 x now None p q = absurd q
passes_64 x now (Some z) p q = (z, refl, passes_on 64 64 0 x now z (omega arith) p q.0)

pub gives_on : {W : Type 0} (old mid new : List (Option (LinkView W))) → GivesPieces old mid → ((i : ℕ) → PassesAt (link_at mid i) (link_at new i)) → GivesPieces old new
gives_on old mid new g passes =
    let more = passes_64 g.before g.now (link_at new g.place) g.passes (subst (λ o. PassesAt o (link_at new g.place)) g.is (passes g.place)) in
    record { place = g.place; before = g.before; now = more.0; was = g.was; is = more.1; passes = more.2 }

gives_seat : {W : Type 0} (mon p : ℕ) (old new : List (Option (LinkView W))) (x y : Option (LinkView W)) (a b : Desk) → link_at old p ≡ x → link_at new p ≡ y → SeatHears mon t.More x y a b → GivesPieces old new
gives_seat mon p old new None y a b was is h = absurd (let q = h.2 in cc)
gives_seat mon p old new (Some x) None a b was is h = absurd h
gives_seat mon p old new (Some x) (Some y) a b was is h = record { place = p; before = x; now = y; was = was; is = is; passes = passes_heard refuses takes heard_from said_to mon 64 x y a b h.hears }

more_joined : {W : Type 0} (p : ℕ) (turn next : HubTurn) (old mid new : List (Option (LinkView W))) (x y : Option (LinkView W)) (a b : Desk) → goes_on next ≡ true → link_at old p ≡ x → link_at new p ≡ y → ((i : ℕ) → PassesAt (link_at mid i) (link_at new i)) → SeatHears (p + 1) next x y a b → (turn ≡ t.More → GivesPieces old mid) → joined turn next ≡ t.More → GivesPieces old new
more_joined p turn t.Quiet old mid new x y a b goes was is passes h more joins = gives_on old mid new (more joins) passes
more_joined p turn t.More old mid new x y a b goes was is passes h more joins = gives_seat (p + 1) p old new x y a b was is h
more_joined p turn t.Finished old mid new x y a b goes was is passes h more joins = absurd (cc)
more_joined p turn t.Failed old mid new x y a b goes was is passes h more joins = absurd (cc)
more_joined p turn (t.Refused m why) old mid new x y a b goes was is passes h more joins = absurd (cc)
more_joined p turn (t.Bad m fault) old mid new x y a b goes was is passes h more joins = absurd (cc)
more_joined p turn t.WriteFailed old mid new x y a b goes was is passes h more joins = absurd (cc)
more_joined p turn t.NoMemory old mid new x y a b goes was is passes h more joins = absurd (cc)

goes_joined : (turn next : HubTurn) → goes_on turn ≡ true → goes_on next ≡ true → goes_on (joined turn next) ≡ true
goes_joined turn t.Quiet on goes = on
goes_joined turn t.More on goes = refl
goes_joined turn t.Finished on goes = goes
goes_joined turn t.Failed on goes = goes
goes_joined turn (t.Refused m why) on goes = goes
goes_joined turn (t.Bad m fault) on goes = goes
goes_joined turn t.WriteFailed on goes = goes
goes_joined turn t.NoMemory on goes = goes

not_failed : (next : HubTurn) → goes_on next ≡ true → next ≡ t.Failed → ⊥
not_failed next goes is = absurd (false≢true (sym (ap goes_on is) ∙ goes))

-- one more link was heard, and the turn goes on
pub hears_more : {W : Type 0} (p : ℕ) (turn next : HubTurn) (old now : SeatsView W) (y : Option (LinkView W)) (b : Desk) → p < length now.links → IsMonitor now.coordinator.settings (p + 1) → HearsUpTo p turn old now → SeatHears (p + 1) next (link_at now.links p) y (record { coordinator = now.coordinator }) b → goes_on next ≡ true
    → HearsUpTo (p + 1) (joined turn next) old (record { run = now.run; coordinator = b.coordinator; links = set now.links p y })
hears_more {W} p turn next old now y b within is u s goes =
    let a : Desk = record { coordinator = now.coordinator } in
    let links = set now.links p y in
    let x = link_at now.links p in
    let here : link_at links p ≡ y = get_or-set_same now.links p y None within in
    let was : link_at old.links p ≡ x = sym (u.rest p (omega arith)) in
    let steps : (i : ℕ) → PassesAt (link_at now.links i) (link_at links i) = passes_set now.links p y within (passes_seat (p + 1) next x y a b s) in
    let given : (mon : ℕ) (link : LinkView W) → IsStopGiven mon now.coordinator link → IsStopGiven mon b.coordinator link = λ mon link. given_on mon (p + 1) next x y a b link s in
    record {
      run = u.run;
      count = length-set now.links p y ∙ u.count;
      reaches = reaches_on old.coordinator now.coordinator b.coordinator u.reaches (reaches_seat (p + 1) next x y a b is s);
      passes = λ i. passes_at_on (link_at old.links i) (link_at now.links i) (link_at links i) (u.passes i) (steps i);
      more = more_joined p turn next old.links now.links links x y a b goes was here steps s u.more;
      goes = goes_joined turn next u.goes goes;
      ends = λ i few. elim (cases_eq i p) [
        | inl same ↦ subst (λ k. IfSome (link_at links k) (λ link. EndsAt (k + 1) b.coordinator link (joined turn next))) (sym same)
            (subst (λ o. IfSome o (λ link. EndsAt (p + 1) b.coordinator link (joined turn next))) (sym here)
            (if_some_map (λ link. EndsAt (p + 1) b.coordinator link next) (λ link. EndsAt (p + 1) b.coordinator link (joined turn next)) y (λ link e. ends_joined (p + 1) b.coordinator turn next link u.goes goes e) (ends_seat (p + 1) next x y a b s)))
        | inr apart ↦ subst (λ o. IfSome o (λ link. EndsAt (i + 1) b.coordinator link (joined turn next))) (sym (at_other now.links p i y apart))
            (if_some_map (λ link. EndsAt (i + 1) now.coordinator link turn) (λ link. EndsAt (i + 1) b.coordinator link (joined turn next)) (link_at now.links i) (λ link e. ends_kept (i + 1) now.coordinator b.coordinator turn next link u.goes goes (given (i + 1) link) e) (u.ends i (omega (arith, few, apart))))
      ];
      counts = λ i. elim (cases_eq i p) [
        | inl same ↦ subst (λ k. SteadyAt (k + 1) b.coordinator (link_at old.links k) (link_at links k)) (sym same)
            (subst (λ o. SteadyAt (p + 1) b.coordinator o (link_at links p)) (sym was) (subst (SteadyAt (p + 1) b.coordinator x) (sym here) (steady_seat (p + 1) next x y a b (not_failed next goes) s)))
        | inr apart ↦ subst (SteadyAt (i + 1) b.coordinator (link_at old.links i)) (sym (at_other now.links p i y apart)) (steady_kept (i + 1) now.coordinator b.coordinator (link_at old.links i) (link_at now.links i) (given (i + 1)) (u.counts i))
      ];
      rest = λ i beyond. at_other now.links p i y (λ e. absurd (omega (arith, e, beyond))) ∙ u.rest i (omega (arith, beyond));
    }

-- ---- the turn ended at a seat

fails_seat : {W : Type 0} (p : ℕ) (old new : List (Option (LinkView W))) (x y : Option (LinkView W)) (a b : Desk) → link_at old p ≡ x → link_at new p ≡ y → SeatHears (p + 1) t.Failed x y a b → SomeFails b.coordinator old new
fails_seat p old new None y a b was is h = absurd (let q = h.2 in cc)
fails_seat p old new (Some x) None a b was is h = absurd h
fails_seat p old new (Some x) (Some y) a b was is h = record { place = p; before = x; now = y; was = was; is = is; fails = h.counts }

counts_ended : {W : Type 0} (p : ℕ) (next : HubTurn) (old new : List (Option (LinkView W))) (x y : Option (LinkView W)) (a b : Desk) → goes_on next ≡ false → link_at old p ≡ x → link_at new p ≡ y → SeatHears (p + 1) next x y a b → ((next ≡ t.Failed → ⊥) → EachSteady b.coordinator old new) → CountsEach next b.coordinator old new
counts_ended p t.Quiet old new x y a b stops was is h steady = absurd (cc)
counts_ended p t.More old new x y a b stops was is h steady = absurd (cc)
counts_ended p t.Finished old new x y a b stops was is h steady = steady (λ e. absurd (cc))
counts_ended p t.Failed old new x y a b stops was is h steady = fails_seat p old new x y a b was is h
counts_ended p (t.Refused m why) old new x y a b stops was is h steady = steady (λ e. absurd (cc))
counts_ended p (t.Bad m fault) old new x y a b stops was is h steady = steady (λ e. absurd (cc))
counts_ended p t.WriteFailed old new x y a b stops was is h steady = steady (λ e. absurd (cc))
counts_ended p t.NoMemory old new x y a b stops was is h steady = steady (λ e. absurd (cc))

pub holds_at : {W : Type 0} (p mon : ℕ) (new : List (Option (LinkView W))) (link : LinkView W) (P : LinkView W → Type 0) → mon ≡ p + 1 → link_at new p ≡ Some link → P link → HoldsAt new mon P
holds_at p mon new link P same at holds = record { some = omega (arith, same); link = link; at = ap (link_at new) (let e : mon - 1 ≡ p = omega (arith, same) in e) ∙ at; holds = holds }

ends_ended : {W : Type 0} (p : ℕ) (next : HubTurn) (new : List (Option (LinkView W))) (x y : Option (LinkView W)) (a b : Desk) → goes_on next ≡ false → link_at new p ≡ y → SeatHears (p + 1) next x y a b → EndsEach next b.coordinator new
ends_ended p t.Quiet new x y a b stops is h = absurd (cc)
ends_ended p t.More new x y a b stops is h = absurd (cc)
ends_ended p t.Finished new x y a b stops is h = tt
ends_ended p t.Failed new x y a b stops is h = tt
ends_ended p t.WriteFailed new x y a b stops is h = tt
ends_ended p t.NoMemory new x y a b stops is h = tt
ends_ended p (t.Refused m why) new None y a b stops is h = absurd (let q = h.2 in cc)
ends_ended p (t.Refused m why) new (Some x) None a b stops is h = absurd h
ends_ended p (t.Refused m why) new (Some x) (Some y) a b stops is h = holds_at p m.0 new y _ h.ends.0 is (subst (λ k. IsRefusedAt k b.coordinator why y) (sym h.ends.0) h.ends.1)
ends_ended p (t.Bad m fault) new None y a b stops is h = absurd (let q = h.2 in cc)
ends_ended p (t.Bad m fault) new (Some x) None a b stops is h = absurd h
ends_ended p (t.Bad m fault) new (Some x) (Some y) a b stops is h = holds_at p m.0 new y _ h.ends.0 is h.ends.1

never_seat : {W : Type 0} (mon : ℕ) (next : HubTurn) (x y : Option (LinkView W)) (a b : Desk) → SeatHears mon next x y a b → next ≡ t.Finished → ⊥
never_seat mon next None y a b h is = absurd (let q = h.2 in cc)
never_seat mon next (Some x) None a b h is = h
never_seat mon next (Some x) (Some y) a b h is = subst (EndsAt mon b.coordinator y) is h.ends

-- no hearing writes a line
pub unwritten_seat : {W : Type 0} (mon : ℕ) (next : HubTurn) (x y : Option (LinkView W)) (a b : Desk) → SeatHears mon next x y a b → next ≡ t.WriteFailed → ⊥
unwritten_seat mon next None y a b h is = absurd (let q = h.2 in cc)
unwritten_seat mon next (Some x) None a b h is = h
unwritten_seat mon next (Some x) (Some y) a b h is = subst (EndsAt mon b.coordinator y) is h.ends

pub unwritten_goes : (turn : HubTurn) → goes_on turn ≡ true → turn ≡ t.WriteFailed → ⊥
unwritten_goes turn goes is = absurd (false≢true (sym (ap goes_on is) ∙ goes))

pub unwritten_joined : (turn next : HubTurn) → (turn ≡ t.WriteFailed → ⊥) → (next ≡ t.WriteFailed → ⊥) → joined turn next ≡ t.WriteFailed → ⊥
unwritten_joined turn t.Quiet first last is = first is
unwritten_joined turn t.More first last is = last is
unwritten_joined turn t.Finished first last is = last is
unwritten_joined turn t.Failed first last is = last is
unwritten_joined turn (t.Refused m why) first last is = last is
unwritten_joined turn (t.Bad m fault) first last is = last is
unwritten_joined turn t.WriteFailed first last is = last is
unwritten_joined turn t.NoMemory first last is = last is

pub never_goes : (turn : HubTurn) → goes_on turn ≡ true → turn ≡ t.Finished → ⊥
never_goes turn goes is = absurd (false≢true (sym (ap goes_on is) ∙ goes))

pub hears_ended : {W : Type 0} (p : ℕ) (turn next : HubTurn) (old now : SeatsView W) (y : Option (LinkView W)) (b : Desk) → p < length now.links → IsMonitor now.coordinator.settings (p + 1) → HearsUpTo p turn old now → SeatHears (p + 1) next (link_at now.links p) y (record { coordinator = now.coordinator }) b → goes_on next ≡ false
    → Hears next old (record { run = now.run; coordinator = b.coordinator; links = set now.links p y })
hears_ended {W} p turn next old now y b within is u s stops =
    let a : Desk = record { coordinator = now.coordinator } in
    let links = set now.links p y in
    let x = link_at now.links p in
    let here : link_at links p ≡ y = get_or-set_same now.links p y None within in
    let was : link_at old.links p ≡ x = sym (u.rest p (omega arith)) in
    let steps : (i : ℕ) → PassesAt (link_at now.links i) (link_at links i) = passes_set now.links p y within (passes_seat (p + 1) next x y a b s) in
    let given : (mon : ℕ) (link : LinkView W) → IsStopGiven mon now.coordinator link → IsStopGiven mon b.coordinator link = λ mon link. given_on mon (p + 1) next x y a b link s in
    record {
      run = u.run;
      reaches = reaches_on old.coordinator now.coordinator b.coordinator u.reaches (reaches_seat (p + 1) next x y a b is s);
      passes = λ i. passes_at_on (link_at old.links i) (link_at now.links i) (link_at links i) (u.passes i) (steps i);
      more = λ e. absurd (false≢true (sym stops ∙ ap goes_on e));
      never = never_seat (p + 1) next x y a b s;
      ends = ends_ended p next links x y a b stops here s;
      counts = counts_ended p next old.links links x y a b stops was here s (λ other i. elim (cases_eq i p) [
        | inl same ↦ subst (λ k. SteadyAt (k + 1) b.coordinator (link_at old.links k) (link_at links k)) (sym same)
            (subst (λ o. SteadyAt (p + 1) b.coordinator o (link_at links p)) (sym was) (subst (SteadyAt (p + 1) b.coordinator x) (sym here) (steady_seat (p + 1) next x y a b other s)))
        | inr apart ↦ subst (SteadyAt (i + 1) b.coordinator (link_at old.links i)) (sym (at_other now.links p i y apart)) (steady_kept (i + 1) now.coordinator b.coordinator (link_at old.links i) (link_at now.links i) (given (i + 1)) (u.counts i))
      ]);
    }

-- ---- none, and all

pub steady_same : {W : Type 0} (mon : ℕ) (c : CoordinatorView) (x : Option (LinkView W)) → SteadyAt mon c x x
steady_same mon c None = tt
steady_same mon c (Some x) = (refl, inl refl)

pub hears_none : {W : Type 0} (s : SeatsView W) → HearsUpTo 0 t.Quiet s s
hears_none s = record {
  run = refl;
  count = refl;
  reaches = Stays s.coordinator s.coordinator refl;
  passes = λ i. passes_same (link_at s.links i);
  more = λ e. absurd (cc);
  goes = refl;
  ends = λ i few. absurd (omega (arith, few));
  counts = λ i. steady_same (i + 1) s.coordinator (link_at s.links i);
  rest = λ i beyond. refl;
}

pub all_ends : {W : Type 0} (turn : HubTurn) (c : CoordinatorView) (links : List (Option (LinkView W))) → goes_on turn ≡ true → ((i : ℕ) → IfSome (link_at links i) (λ link. EndsAt (i + 1) c link turn)) → EndsEach turn c links
all_ends t.Quiet c links goes e = e
all_ends t.More c links goes e = e
all_ends t.Finished c links goes e = tt
all_ends t.Failed c links goes e = tt
all_ends (t.Refused m why) c links goes e = absurd (cc)
all_ends (t.Bad m fault) c links goes e = absurd (cc)
all_ends t.WriteFailed c links goes e = tt
all_ends t.NoMemory c links goes e = tt

all_counts : {W : Type 0} (turn : HubTurn) (c : CoordinatorView) (old new : List (Option (LinkView W))) → goes_on turn ≡ true → EachSteady c old new → CountsEach turn c old new
all_counts t.Quiet c old new goes e = e
all_counts t.More c old new goes e = e
all_counts t.Finished c old new goes e = e
all_counts t.Failed c old new goes e = absurd (cc)
all_counts (t.Refused m why) c old new goes e = e
all_counts (t.Bad m fault) c old new goes e = e
all_counts t.WriteFailed c old new goes e = e
all_counts t.NoMemory c old new goes e = e

pub hears_past : {W : Type 0} (n : ℕ) (turn : HubTurn) (old now : SeatsView W) → length now.links ≤ n → HearsUpTo n turn old now → Hears turn old now
hears_past {W} n turn old now all u = record {
  run = u.run;
  reaches = u.reaches;
  passes = u.passes;
  more = u.more;
  never = never_goes turn u.goes;
  ends = all_ends turn now.coordinator now.links u.goes (λ i. elim (cases_lt i n) [
    | inl few ↦ u.ends i few
    | inr beyond ↦ subst (λ o. IfSome o (λ link. EndsAt (i + 1) now.coordinator link turn)) (sym (get_or_past now.links i None (omega (arith, beyond, all)))) tt
  ]);
  counts = all_counts turn now.coordinator old.links now.links u.goes u.counts;
}

-- ---- over a call of one seat, whose place is one less than its number

pub hears_step : {W : Type 0} (p q : ℕ) (turn next : HubTurn) (old now new : SeatsView W) → q ≡ p → p < length now.links → IsMonitor now.coordinator.settings (p + 1) → HearsUpTo p turn old now
    → SeatHears (p + 1) next (link_at now.links q) (link_at new.links q) (record { coordinator = now.coordinator }) (record { coordinator = new.coordinator }) → new ≡ record now { coordinator = new.coordinator; links = set now.links q (link_at new.links q) } → goes_on next ≡ true
    → HearsUpTo (p + 1) (joined turn next) old new
hears_step {W} p q turn next old now new at within mon u s is goes =
    let a : Desk = record { coordinator = now.coordinator } in
    let b : Desk = record { coordinator = new.coordinator } in
    let y = link_at new.links q in
    let here : SeatHears (p + 1) next (link_at now.links p) y a b = subst (λ k. SeatHears (p + 1) next (link_at now.links k) y a b) at s in
    let With : ℕ → Type 0 = λ k. HearsUpTo {W = W} (p + 1) (joined turn next) old (record { run = now.run; coordinator = new.coordinator; links = set now.links k y }) in
    subst (HearsUpTo (p + 1) (joined turn next) old) (sym is) (subst With (sym at) (hears_more p turn next old now y b within mon u here goes))

pub hears_stop : {W : Type 0} (p q : ℕ) (turn next : HubTurn) (old now new : SeatsView W) → q ≡ p → p < length now.links → IsMonitor now.coordinator.settings (p + 1) → HearsUpTo p turn old now
    → SeatHears (p + 1) next (link_at now.links q) (link_at new.links q) (record { coordinator = now.coordinator }) (record { coordinator = new.coordinator }) → new ≡ record now { coordinator = new.coordinator; links = set now.links q (link_at new.links q) } → goes_on next ≡ false
    → Hears next old new
hears_stop {W} p q turn next old now new at within mon u s is stops =
    let a : Desk = record { coordinator = now.coordinator } in
    let b : Desk = record { coordinator = new.coordinator } in
    let y = link_at new.links q in
    let here : SeatHears (p + 1) next (link_at now.links p) y a b = subst (λ k. SeatHears (p + 1) next (link_at now.links k) y a b) at s in
    let With : ℕ → Type 0 = λ k. Hears {W = W} next old (record { run = now.run; coordinator = new.coordinator; links = set now.links k y }) in
    subst (Hears next old) (sym is) (subst With (sym at) (hears_ended p turn next old now y b within mon u here stops))
