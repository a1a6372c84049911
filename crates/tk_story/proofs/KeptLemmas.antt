-- Kept ends: they agree or there is a first difference, and what is odd makes one.
use Rattle.std.proofs.Common.{◌≡◌, ℕ, zero, suc, ◌+◌, ◌-◌, ◌≤◌, ◌<◌, ◌⊎◌, Bool, true, List, [], ◌∷◌, ◌++◌, length, take, map, Option, Some, None, refl, sym, ap, ◌∙◌, subst, arith, inl, inr}
use Rattle.std.specs.Prelude.{IsSome, slice_get}
use Rattle.std.specs.Option.{option_map}
use Rattle.std.proofs.lemmas.Bool.{cases_Bool, cases_lt, true≢false}
use Rattle.std.proofs.lemmas.Option.{slice_get-map, same_Some}
use Rattle.std.proofs.Common.{eq-eqb, ◌==◌}
use Rattle.std.specs.Prelude.{if◌then◌else◌}
use Rattle.std.proofs.lemmas.Grind.{not_there}
use Rattle.tk_base.specs.Settings.{Setup}
use Rattle.tk_story.specs.declared.ends.coord_end.CoordEnd.{CoordEnd}
use Rattle.tk_story.specs.declared.ends.mon_end.MonEnd.{MonEnd}
use Rattle.tk_base.specs.History.{IsFront}
use Rattle.tk_base.specs.declared.ids.Mon.{Mon}
use Rattle.tk_frames.specs.declared.frame.Frame.{Frame}
use Rattle.tk_input.specs.Logs.{LogSet}
use Rattle.tk_journal.specs.Laws.{IsMonitor}
use Rattle.tk_journal.specs.Legal.{start}
use Rattle.tk_journal.specs.Links.{frames_from, frames_to}
use Rattle.tk_journal.specs.Refusal.{refusal_of as refusal_up}
use Rattle.tk_trail.specs.Readings.{sent_by, taken_by}
use Rattle.tk_trail.specs.Refusal.{refusal_of as refusal_down}
use Rattle.tk_story.specs.Ends.{AreKept, AreOfOneRun, AreOrdered, HaveDifference, HaveNothingOdd, IsBefore, IsFirstDifference, IsFirstOfAll, IsOrdered, KeptEnds, KeptLink, joined, kept_by, link_at, odd_at, odd_from, trail_at, with_odd}
use Rattle.tk_story.specs.Odd.{IsNotTaken, IsOddDown, IsOddUp}
use Rattle.tk_story.specs.Story.{AreHistories, setup_of, trail_of}
use Rattle.tk_story.specs.declared.ends.difference.Direction.{Direction}
use Rattle.tk_story.specs.declared.ends.difference.Direction.TheVariants.{UpLink, DownLink}
use Rattle.tk_story.specs.declared.ends.received.Received.{Received}
use Rattle.tk_story.specs.declared.ends.received.Received.TheVariants as r
use Rattle.tk_story.proofs.DownLemmas.{down_is_taken}
use Rattle.tk_story.proofs.EndsLemmas.{frame_of}
use Rattle.tk_story.proofs.FrameLemmas.{derived, frames_tell}
use Rattle.tk_story.proofs.JoiningLemmas.{AreBefore, all_ordered, at_map, before_more, end_of, less_before_up, none_before, ordered_before_down, ordered_is_story}
use Rattle.tk_story.proofs.QuietLemmas.{joined as joined_end, setup_is}
use Rattle.tk_story.proofs.UpLemmas.{up_is_taken}

-- ---- one link

record Differs (sent : List Frame) (received : List Received) : Type 0 where
  place : ℕ
  there : Option Frame
  here : Received
  first : IsFirstDifference (record { sent = sent; received = received }) place there here

later : (f : Frame) (sent : List Frame) (received : List Received) → Differs sent received → Differs (f ∷ sent) (r.Frame f ∷ received)
later f sent received d = record {
  place = suc d.place;
  there = d.there;
  here = d.here;
  first = record {
    same = ap (λ xs. r.Frame f ∷ xs) d.first.same;
    sent_is = d.first.sent_is;
    received_is = d.first.received_is;
    other = d.first.other;
  };
}

agree_with : (g f : Frame) (gs : List Frame) (xs : List Received) → g ≡ f → (IsFront xs (map r.Frame gs) ⊎ Differs gs xs) → IsFront (r.Frame f ∷ xs) (map r.Frame (g ∷ gs)) ⊎ Differs (g ∷ gs) (r.Frame f ∷ xs)
agree_with g f gs xs e (inl front) = inl (record { is = λ i. r.Frame (sym e i) ∷ front.is i })
agree_with g f gs xs e (inr d) = inr (subst (λ h. Differs (h ∷ gs) (r.Frame f ∷ xs)) (sym e) (later f gs xs d))

agree_or_differ : (sent : List Frame) (received : List Received) → IsFront received (map r.Frame sent) ⊎ Differs sent received
agree_or_differ sent [] = inl (record { is = refl })
agree_or_differ [] (x ∷ xs) = inr (record { place = 0; there = None; here = x; first = record { same = refl; sent_is = refl; received_is = refl; other = λ e. absurd cc } })
agree_or_differ (g ∷ gs) (r.Bytes bytes ∷ xs) = inr (record { place = 0; there = Some g; here = r.Bytes bytes; first = record { same = refl; sent_is = refl; received_is = refl; other = λ e. absurd cc } })
agree_or_differ (g ∷ gs) (r.Frame f ∷ xs) = elim (cases_Bool (derived g f)) [
  | inl same ↦ agree_with g f gs xs ((frames_tell g f).0 same) (agree_or_differ gs xs)
  | inr other ↦ inr (record {
    place = 0;
    there = Some g;
    here = r.Frame f;
    first = record {
      same = refl;
      sent_is = refl;
      received_is = refl;
      other = λ e. true≢false (sym ((frames_tell g f).1 (same_Some g f (frame_of (Some g) f e))) ∙ other);
    };
  })
]

-- ---- all links

first_up : (ends : KeptEnds) (j : ℕ) → j < ends.settings.monitors → AreBefore ends j → Differs (link_at ends (j + 1) UpLink).sent (link_at ends (j + 1) UpLink).received → HaveDifference ends
first_up ends j few before d = record {
  mon = j + 1;
  direction = UpLink;
  place = d.place;
  sent = d.there;
  received = d.here;
  first = record {
    monitor = record { from_one = omega arith; within = omega (arith, few) };
    here = d.first;
    before = λ k x one less. before k x one.from_one (less_before_up k j x less);
  };
}

first_down : (ends : KeptEnds) (j : ℕ) → j < ends.settings.monitors → IsOrdered (link_at ends (j + 1) UpLink) → AreBefore ends j → Differs (link_at ends (j + 1) DownLink).sent (link_at ends (j + 1) DownLink).received → HaveDifference ends
first_down ends j few up before d = record {
  mon = j + 1;
  direction = DownLink;
  place = d.place;
  sent = d.there;
  received = d.here;
  first = record {
    monitor = record { from_one = omega arith; within = omega (arith, few) };
    here = d.first;
    before = λ k x one less. ordered_before_down ends j k x up before one.from_one less;
  };
}

look : (ends : KeptEnds) (j : ℕ) → j ≤ ends.settings.monitors → AreBefore ends j ⊎ HaveDifference ends
look ends zero few = inl (none_before ends)
look ends (suc j) few = elim (look ends j (omega (arith, few))) [
  | inr d ↦ inr d
  | inl before ↦ elim (agree_or_differ (link_at ends (j + 1) UpLink).sent (link_at ends (j + 1) UpLink).received) [
    | inr d ↦ inr (first_up ends j (omega (arith, few)) before d)
    | inl up ↦ elim (agree_or_differ (link_at ends (j + 1) DownLink).sent (link_at ends (j + 1) DownLink).received) [
      | inr d ↦ inr (first_down ends j (omega (arith, few)) up before d)
      | inl down ↦ inl (subst (AreBefore ends) (let e : j + 1 ≡ suc j = omega arith in e) (before_more ends j up down before))
    ]
  ]
]

pub ordered_or_different : (ends : KeptEnds) → AreOrdered ends ⊎ HaveDifference ends
ordered_or_different ends = elim (look ends ends.settings.monitors (omega arith)) [
  | inl before ↦ inl (all_ordered ends ends.settings.monitors (omega arith) before)
  | inr d ↦ inr d
]

take_get : {A : Type 0} (n : ℕ) (ys : List A) (k : ℕ) (x : A) → slice_get (take n ys) k ≡ Some x → slice_get ys k ≡ Some x
take_get zero ys k x e = absurd cc
take_get (suc n) [] k x e = absurd cc
take_get (suc n) (y ∷ ys) zero x e = e
take_get (suc n) (y ∷ ys) (suc k) x e = take_get n ys k x e

unordered : (link : KeptLink) (place : ℕ) (sent : Option Frame) (received : Received) → IsFirstDifference link place sent received → IsOrdered link → ⊥
unordered link place sent received d h =
    let there : slice_get (map r.Frame link.sent) place ≡ Some received = take_get (length link.received) (map r.Frame link.sent) place received (ap (λ xs. slice_get xs place) (sym h.is) ∙ d.received_is) in
    d.other (ap (option_map r.Frame) (sym d.sent_is) ∙ sym (slice_get-map r.Frame link.sent place) ∙ there)

pub never_both : (ends : KeptEnds) → AreOrdered ends → HaveDifference ends → ⊥
never_both ends ordered h = unordered (link_at ends h.mon h.direction) h.place h.sent h.received h.first.here (ordered h.mon h.direction h.first.monitor)

-- ---- what is odd

record NextSent (frames sent : List Frame) (odd : Received) : Type 0 where
  frame : Frame
  rest : List Frame
  odd_is : odd ≡ r.Frame frame
  sent_is : sent ≡ frames ++ frame ∷ rest

next_sent : (frames sent : List Frame) (odd : Received) → IsFront (map r.Frame frames ++ odd ∷ []) (map r.Frame sent) → NextSent frames sent odd
next_sent [] [] odd h = absurd (let e = h.is in cc)
next_sent [] (g ∷ gs) odd h = record { frame = g; rest = gs; odd_is = (let e = h.is in cc); sent_is = refl }
next_sent (f ∷ frames) [] odd h = absurd (let e = h.is in cc)
next_sent (f ∷ frames) (g ∷ gs) odd h =
    let e = h.is in
    let first : r.Frame f ≡ r.Frame g = cc in
    let same : f ≡ g = same_Some f g (frame_of (Some f) g (ap Some first)) in
    let n = next_sent frames gs odd (record { is = cc }) in
    record { frame = n.frame; rest = n.rest; odd_is = n.odd_is; sent_is = λ i. sym same i ∷ n.sent_is i }

not_some : {X : Type 0} (o : Option X) → o ≡ None → IsSome o → ⊥
not_some None e s = true≢false (sym s)
not_some (Some x) e s = absurd cc

refused_frame : {X : Type 0} (refusal : Frame → Option X) (odd : Received) (frame : Frame) → odd ≡ r.Frame frame → IsNotTaken refusal odd → refusal frame ≡ None → ⊥
refused_frame refusal odd frame is refused none = not_some (refusal frame) none (subst (IsNotTaken refusal) is refused)

own_odd : (mon : ℕ) (odd : Option (Mon × Received)) (x : Mon × Received) → odd ≡ Some x → x.0.0 ≡ mon → odd_from mon odd ≡ Some x.1
own_odd mon None x is own = absurd cc
own_odd mon (Some y) x is own =
    let same : y ≡ x = same_Some y x is in
    let number : (y.0.0 == mon) ≡ true = eq-eqb y.0.0 mon (ap (λ (p : Mon × Received). p.0.0) same ∙ own) in
    ap (λ (b : Bool). if b then Some y.1 else None) number ∙ ap (λ (p : Mon × Received). Some p.1) same

pub odd_up_differs : (ends : KeptEnds) (logs : LogSet) (from : List (List ℕ)) (odd : Mon × Received) → AreHistories (joined ends logs from) → ends.odd ≡ Some odd → IsOddUp ends.settings ends.journal odd → AreOrdered ends → ⊥
odd_up_differs ends logs from odd histories is refused ordered =
    let s = joined ends logs from in
    let story = ordered_is_story ends logs from histories ordered in
    let mon = odd.0.0 in
    let front = subst (λ o. IsFront (with_odd (frames_from mon ends.journal) o) (map r.Frame (sent_by (trail_at ends mon)))) (own_odd mon ends.odd odd is refl) (ordered mon UpLink refused.0) in
    let n = next_sent (frames_from mon ends.journal) (sent_by (trail_at ends mon)) odd.1 front in
    refused_frame (refusal_up ends.settings ends.journal mon) odd.1 n.frame n.odd_is refused.1
    (up_is_taken (start ends.settings) ends.journal mon (setup_of s mon) (trail_of s mon) n.frame n.rest (joined_end s story mon refused.0) (setup_is s story mon refused.0) refl n.sent_is)

pub odd_down_differs : (ends : KeptEnds) (logs : LogSet) (from : List (List ℕ)) (mon : ℕ) (odd : Received) → AreHistories (joined ends logs from) → IsMonitor ends.settings mon → odd_at ends mon ≡ Some odd
    → IsOddDown (setup_of (joined ends logs from) mon) (trail_at ends mon) odd → AreOrdered ends → ⊥
odd_down_differs ends logs from mon odd histories m is refused ordered =
    let s = joined ends logs from in
    let story = ordered_is_story ends logs from histories ordered in
    let front = subst (λ o. IsFront (with_odd (taken_by (trail_at ends mon)) o) (map r.Frame (frames_to mon ends.journal))) is (ordered mon DownLink m) in
    let n = next_sent (taken_by (trail_at ends mon)) (frames_to mon ends.journal) odd front in
    refused_frame (refusal_down (setup_of s mon) (trail_at ends mon)) odd n.frame n.odd_is refused
    (down_is_taken (start ends.settings) ends.journal mon (setup_of s mon) (trail_of s mon) n.frame n.rest (joined_end s story mon m) refl n.sent_is)

different : (ends : KeptEnds) → (AreOrdered ends → ⊥) → HaveDifference ends
different ends unordered = elim (ordered_or_different ends) [
  | inl ordered ↦ absurd (unordered ordered)
  | inr d ↦ d
]

pub odd_at_the_coordinator : (ends : KeptEnds) (logs : LogSet) (from : List (List ℕ)) (odd : Mon × Received) → AreKept ends logs from → ends.odd ≡ Some odd → HaveDifference ends
odd_at_the_coordinator ends logs from odd kept is = different ends (odd_up_differs ends logs from odd kept.histories is (kept.odd odd is))

pub odd_at_a_monitor : (ends : KeptEnds) (logs : LogSet) (from : List (List ℕ)) (mon : ℕ) (odd : Received) → AreKept ends logs from → IsMonitor ends.settings mon → odd_at ends mon ≡ Some odd → HaveDifference ends
odd_at_a_monitor ends logs from mon odd kept m is = different ends (odd_down_differs ends logs from mon odd kept.histories m is (kept.odds mon m odd is))

-- ---- nothing is odd at ends that agree

none_unless : {X : Type 0} (o : Option X) → ((x : X) → o ≡ Some x → ⊥) → o ≡ None
none_unless None never = refl
none_unless (Some x) never = absurd (never x refl)

pub nothing_is_odd : (coordinator : CoordEnd) (ends : List MonEnd) (logs : LogSet) (settings : Setup) (from : List (List ℕ)) → AreOfOneRun coordinator ends logs settings from
    → AreHistories (joined (kept_by coordinator ends) logs from) → AreOrdered (kept_by coordinator ends) → HaveNothingOdd (kept_by coordinator ends)
nothing_is_odd coordinator ends logs settings from given histories ordered =
    let kept = kept_by coordinator ends in
    let h = subst (λ x. AreOfOneRun coordinator ends logs x from) (sym given.made) given in
    record {
      coordinator = none_unless coordinator.odd (λ odd is. not_there coordinator.not_taken (λ refused. odd_up_differs kept logs from odd histories is (refused odd is) ordered));
      monitors = λ mon m.
          let e = end_of coordinator ends logs from mon h.monitors m in
          let own : odd_at kept mon ≡ e.at.it.odd = at_map (λ (x : MonEnd). x.odd) ends (mon - 1) e.at.it None e.at.is in
          none_unless (odd_at kept mon) (λ odd is. not_there e.at.it.not_taken (λ refused.
          let here = subst (λ t. IsOddDown (setup_of (joined kept logs from) mon) t odd) e.trail (subst (λ u. IsOddDown u e.at.it.monitor.trail odd) e.setup (refused odd (sym own ∙ is))) in
          odd_down_differs kept logs from mon odd histories m is here ordered));
    }

-- ---- the first difference is one

get_take : {A : Type 0} (n : ℕ) (ys : List A) (k : ℕ) → k < n → slice_get (take n ys) k ≡ slice_get ys k
get_take zero ys k less = absurd (omega (arith, less))
get_take (suc n) [] k less = refl
get_take (suc n) (y ∷ ys) zero less = refl
get_take (suc n) (y ∷ ys) (suc k) less = get_take n ys k (omega (arith, less))

-- no difference stands in front of a first one
none_in_front : (link : KeptLink) (p q : ℕ) (s t : Option Frame) (x y : Received) → IsFirstDifference link p s x → IsFirstDifference link q t y → p < q → ⊥
none_in_front link p q s t x y a b less =
    let agree : slice_get link.received p ≡ option_map r.Frame (slice_get link.sent p) =
    sym (get_take q link.received p less) ∙ ap (λ xs. slice_get xs p) b.same ∙ slice_get-map r.Frame (take q link.sent) p ∙ ap (option_map r.Frame) (get_take q link.sent p less) in
    a.other (ap (option_map r.Frame) (sym a.sent_is) ∙ sym agree ∙ a.received_is)

one_place : (link : KeptLink) (p q : ℕ) (s t : Option Frame) (x y : Received) → IsFirstDifference link p s x → IsFirstDifference link q t y → p ≡ q
one_place link p q s t x y a b = elim (cases_lt p q) [
  | inl less ↦ absurd (none_in_front link p q s t x y a b less)
  | inr not' ↦ elim (cases_lt q p) [
    | inl less ↦ absurd (none_in_front link q p t s y x b a less)
    | inr neither ↦ omega (arith, not', neither)
  ]
]

less_is_before : (m k : ℕ) (d x : Direction) → m < k → IsBefore m d k x
less_is_before m k UpLink UpLink less = less
less_is_before m k UpLink DownLink less = omega (arith, less)
less_is_before m k DownLink UpLink less = less
less_is_before m k DownLink DownLink less = less

not_before : (ends : KeptEnds) (m k : ℕ) (d x : Direction) (p q : ℕ) (s t : Option Frame) (a b : Received) → IsFirstOfAll ends m d p s a → IsFirstOfAll ends k x q t b → IsBefore m d k x → ⊥
not_before ends m k d x p q s t a b first second less = unordered (link_at ends m d) p s a first.here (second.before m d first.monitor less)

one_monitor : (ends : KeptEnds) (m k : ℕ) (d x : Direction) (p q : ℕ) (s t : Option Frame) (a b : Received) → IsFirstOfAll ends m d p s a → IsFirstOfAll ends k x q t b → m ≡ k
one_monitor ends m k d x p q s t a b first second = elim (cases_lt m k) [
  | inl less ↦ absurd (not_before ends m k d x p q s t a b first second (less_is_before m k d x less))
  | inr not' ↦ elim (cases_lt k m) [
    | inl less ↦ absurd (not_before ends k m x d q p t s b a second first (less_is_before k m x d less))
    | inr neither ↦ omega (arith, not', neither)
  ]
]

one_direction : (ends : KeptEnds) (m : ℕ) (d x : Direction) (p q : ℕ) (s t : Option Frame) (a b : Received) → IsFirstOfAll ends m d p s a → IsFirstOfAll ends m x q t b → d ≡ x
one_direction ends m UpLink UpLink p q s t a b first second = refl
one_direction ends m UpLink DownLink p q s t a b first second = absurd (not_before ends m m UpLink DownLink p q s t a b first second (omega arith))
one_direction ends m DownLink UpLink p q s t a b first second = absurd (not_before ends m m UpLink DownLink q p t s b a second first (omega arith))
one_direction ends m DownLink DownLink p q s t a b first second = refl

-- what is told of a first difference at its link is one
one_here : (link : KeptLink) (p q : ℕ) (s t : Option Frame) (a b : Received) → IsFirstDifference link p s a → IsFirstDifference link q t b → (p ≡ q) × (s ≡ t) × (a ≡ b)
one_here link p q s t a b first second =
    let place = one_place link p q s t a b first second in
    (place, sym first.sent_is ∙ ap (slice_get link.sent) place ∙ second.sent_is, same_Some a b (sym first.received_is ∙ ap (slice_get link.received) place ∙ second.received_is))

pub one_first : (ends : KeptEnds) (m k : ℕ) (d x : Direction) (p q : ℕ) (s t : Option Frame) (a b : Received) → IsFirstOfAll ends m d p s a → IsFirstOfAll ends k x q t b
    → (m ≡ k) × (d ≡ x) × (p ≡ q) × (s ≡ t) × (a ≡ b)
one_first ends m k d x p q s t a b first second =
    let number = one_monitor ends m k d x p q s t a b first second in
    let second' = subst (λ i. IsFirstOfAll ends i x q t b) (sym number) second in
    let way = one_direction ends m d x p q s t a b first second' in
    let here = one_here (link_at ends m d) p q s t a b first.here (subst (λ y. IsFirstDifference (link_at ends m y) q t b) (sym way) second'.here) in
    (number, way, here.0, here.1, here.2)
