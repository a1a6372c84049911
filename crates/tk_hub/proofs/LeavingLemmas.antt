-- What came next at some link and was not taken, as the links are left one by one, and what that is of a hub.
use Rattle.std.proofs.Common.{◌≡◌, ◌<◌, ◌≤◌, ◌+◌, ◌-◌, ◌||◌, Bool, true, ℕ, zero, suc, List, [], ◌∷◌, ◌++◌, length, get_or, append-nil, Option, Some, None, IfSome, is_some, refl, sym, ap, ◌∙◌, subst, arith, inl, inr}
use Rattle.std.specs.Option.{ForSome, option_map, option_or}
use Rattle.std.proofs.lemmas.Bool.{cases_eq, cases_lt, or_right}
use Rattle.std.proofs.lemmas.List.{get_or_append_left, get_or_default, get_or_past, get_or_push, length_push}
use Rattle.std.proofs.lemmas.List.Elements.{filter_map-append}
use Rattle.std.proofs.lemmas.Option.{same_Some}
use Rattle.slab.specs.Slab.{Slab}
use Rattle.tk_base.specs.declared.ids.Mon.{Mon}
use Rattle.tk_coord.specs.Coordinator.{CoordinatorView}
use Rattle.tk_frames.specs.Spelling.{IsVersion}
use Rattle.tk_frames.specs.declared.answer.BadFrame.{BadFrame}
use Rattle.tk_frames.specs.declared.answer.BadFrame.TheVariants.{BadLength, BadKind, BadFields}
use Rattle.tk_journal.specs.Laws.{IsMonitor}
use Rattle.tk_journal.specs.declared.noted.Noted.{Noted}
use Rattle.tk_journal.specs.declared.refusal.CoordRefusal.{CoordRefusal}
use Rattle.tk_story.specs.Odd.{IsNoFrame, IsOddUp}
use Rattle.tk_story.specs.declared.ends.received.Received.{Received}
use Rattle.tk_story.specs.declared.ends.received.Received.TheVariants as r
use Rattle.tk_end.specs.Inbox.{IsOdd, IsOddPayload}
use Rattle.tk_wire.specs.Meanings.{Counts}
use Rattle.tk_end.specs.Link.{Covers, LinkView}
use Rattle.tk_hub.specs.End.{AreCounted, AreShut, CoversHeard, IsOddBytes, IsOddFrame, LeavesOdd, is_some_lost, wire_of, wires_of}
use Rattle.tk_hub.specs.Hub.{IsOnCourse}
use Rattle.tk_hub.specs.Leaving.{IsLeftOn, IsOfOrNone, IsStanding, LeavesAt, StandsAt}
use Rattle.tk_hub.specs.Seats.{AreSeats, IsSeat, SeatsView, heard_at, link_at}
use Rattle.tk_hub.specs.Turn.{HoldsAt, IsBadAt, IsRefusedAt, is_lost}
use Rattle.tk_hub.specs.Visitor.{VisitorView}
use Rattle.tk_hub.specs.declared.course.Course.{Course}
use Rattle.tk_hub.specs.declared.course.Course.TheVariants as cs

abbrev pub Odd : Type 0
Odd = Option (Mon × Received)

-- ---- link by link

-- of some of the first links: nothing is left until that of the monitor is passed, and then what that leaves
pub record LeftOf {W : Type 0} (from : Mon) (Q : LinkView W → Odd → Type 0) (done : List (Option (LinkView W))) (odd : Odd) : Type 0 where
  pub before : length done < from.0 → odd ≡ None
  pub behind : from.0 ≤ length done → IfSome (link_at done (from.0 - 1)) (λ link. Q link odd)

abbrev pub LeftUpTo : {W : Type 0} → Course → List (Option (LinkView W)) → Odd → Type 0
LeftUpTo cs.Open done odd = odd ≡ None
LeftUpTo cs.Halted done odd = odd ≡ None
LeftUpTo cs.Failed done odd = odd ≡ None
LeftUpTo (cs.Refused from why) done odd = LeftOf from (IsOddFrame from) done odd
LeftUpTo (cs.Bad from fault) done odd = LeftOf from (IsOddBytes from fault) done odd
LeftUpTo cs.WriteFailed done odd = odd ≡ None

no_link : {W : Type 0} (place : ℕ) (Q : LinkView W → Type 0) → IfSome (link_at [] place) Q
no_link place Q = subst (λ o. IfSome o Q) (sym (get_or_past [] place None (omega arith))) tt

left_first : {W : Type 0} (from : Mon) (Q : LinkView W → Odd → Type 0) → LeftOf from Q [] None
left_first from Q = record { before = λ _. refl; behind = λ _. no_link (from.0 - 1) (λ link. Q link None) }

-- of two of which one is there it is that one
pub or_first : (first second both : Odd) → both ≡ option_or first second → second ≡ None → both ≡ first
or_first None second both is none = is ∙ none
or_first (Some x) second both is none = is

pub or_second : (first second both : Odd) → both ≡ option_or first second → first ≡ None → both ≡ second
or_second None second both is none = is
or_second (Some x) second both is none = absurd (cc)

-- nothing is passed yet
pub left_none : (W : Type 0) (course : Course) → LeftUpTo {W = W} course [] None
left_none W cs.Open = refl
left_none W cs.Halted = refl
left_none W cs.Failed = refl
left_none W (cs.Refused from why) = left_first {W = W} from (IsOddFrame from)
left_none W (cs.Bad from fault) = left_first {W = W} from (IsOddBytes from fault)
left_none W cs.WriteFailed = refl

earlier : {W : Type 0} (done : List (Option (LinkView W))) (x : Option (LinkView W)) (p : ℕ) (Q : LinkView W → Type 0) → p < length done → IfSome (link_at done p) Q → IfSome (link_at (done ++ x ∷ []) p) Q
earlier done x p Q within is = subst (λ o. IfSome o Q) (sym (get_or_append_left done (x ∷ []) None p within)) is

latest : {W : Type 0} (done : List (Option (LinkView W))) (x : Option (LinkView W)) (p : ℕ) (Q : LinkView W → Type 0) → length done ≡ p → IfSome x Q → IfSome (link_at (done ++ x ∷ []) p) Q
latest done x p Q here is = subst (λ o. IfSome o Q) (sym (get_or_push done x None p here)) is

left_free : {W : Type 0} (from : Mon) (Q : LinkView W → Odd → Type 0) (done : List (Option (LinkView W))) (odd : Odd) → 0 < from.0 → LeftOf from Q done odd → LeftOf from Q (done ++ None ∷ []) odd
left_free from Q done odd some l =
    let size = length_push done None in
    record {
      before = λ few. l.before (omega (arith, few, size));
      behind = λ enough. elim (cases_eq from.0 (length done + 1)) [
        | inl last ↦ latest done None (from.0 - 1) (λ link. Q link odd) (omega (arith, last)) tt
        | inr apart ↦
            let within : from.0 ≤ length done = omega (arith, enough, size, apart) in
            earlier done None (from.0 - 1) (λ link. Q link odd) (omega (arith, within, some)) (l.behind within)
      ];
    }

same_mon : (a b : Mon) → a.0 ≡ b.0 → a ≡ b
same_mon a b is = let made : ℕ → Mon = λ n. record { 0 = n } in ap made is

left_taken : {W : Type 0} (from mon : Mon) (Q : LinkView W → Odd → Type 0) (done : List (Option (LinkView W))) (link : LinkView W) (odd next new : Odd) → 0 < from.0 → mon.0 ≡ length done + 1 → IsOfOrNone from mon (Q link) next → (next ≡ None → new ≡ odd) → (odd ≡ None → new ≡ next) → LeftOf from Q done odd → LeftOf from Q (done ++ Some link ∷ []) new
left_taken from mon Q done link odd next new some is (inl (same, q)) keeps brings l =
    let size = length_push done (Some link) in
    let at : from.0 ≡ length done + 1 = ap (λ (m : Mon). m.0) same ∙ is in
    let here : new ≡ next = brings (l.before (omega (arith, at))) in
    record {
      before = λ few. absurd (omega (arith, few, size, at));
      behind = λ _. latest done (Some link) (from.0 - 1) (λ x. Q x new) (omega (arith, at)) (subst (Q link) (sym here) q);
    }
left_taken from mon Q done link odd next new some is (inr (apart, none)) keeps brings l =
    let size = length_push done (Some link) in
    let same : new ≡ odd = keeps none in
    let other : from.0 ≡ length done + 1 → ⊥ = λ e. apart (same_mon from mon (e ∙ sym is)) in
    record {
      before = λ few. same ∙ l.before (omega (arith, few, size));
      behind = λ enough.
          let within : from.0 ≤ length done = omega (arith, enough, size, other) in
          earlier done (Some link) (from.0 - 1) (λ x. Q x new) (omega (arith, within, some)) (subst (λ o. IfSome (link_at done (from.0 - 1)) (λ x. Q x o)) (sym same) (l.behind within));
    }

-- one more seat is free
pub left_past : {W : Type 0} (course : Course) (links done : List (Option (LinkView W))) (odd : Odd) → IsStanding course links → LeftUpTo course done odd → LeftUpTo course (done ++ None ∷ []) odd
left_past cs.Open links done odd on l = l
left_past cs.Halted links done odd on l = l
left_past cs.Failed links done odd on l = l
left_past (cs.Refused from why) links done odd on l = left_free from (IsOddFrame from) done odd on.some l
left_past (cs.Bad from fault) links done odd on l = left_free from (IsOddBytes from fault) done odd on.some l
left_past cs.WriteFailed links done odd on l = l

-- one more link is left
pub left_more : {W : Type 0} (course : Course) (mon : Mon) (links done : List (Option (LinkView W))) (link : LinkView W) (odd next new : Odd) → IsStanding course links → mon.0 ≡ length done + 1 → LeavesAt mon course link next → (next ≡ None → new ≡ odd) → (odd ≡ None → new ≡ next) → LeftUpTo course done odd → LeftUpTo course (done ++ Some link ∷ []) new
left_more cs.Open mon links done link odd next new on is none keeps brings l = keeps none ∙ l
left_more cs.Halted mon links done link odd next new on is none keeps brings l = keeps none ∙ l
left_more cs.Failed mon links done link odd next new on is none keeps brings l = keeps none ∙ l
left_more (cs.Refused from why) mon links done link odd next new on is leaves keeps brings l = left_taken from mon (IsOddFrame from) done link odd next new on.some is leaves keeps brings l
left_more (cs.Bad from fault) mon links done link odd next new on is leaves keeps brings l = left_taken from mon (IsOddBytes from fault) done link odd next new on.some is leaves keeps brings l
left_more cs.WriteFailed mon links done link odd next new on is none keeps brings l = keeps none ∙ l

-- ---- the seats that an iterator gives, and their wires

pub item_at : {W : Type 0} (links : List (Option (LinkView W))) (place mon : ℕ) (seat : Option (LinkView W)) (link : LinkView W) → mon ≡ place → place < length links → seat ≡ get_or links place seat → seat ≡ Some link → link_at links (mon + 1 - 1) ≡ Some link
item_at links place mon seat link is within at some =
    let here : mon + 1 - 1 ≡ place = omega (arith, is) in
    ap (link_at links) here ∙ get_or_default links place None seat within ∙ sym at ∙ some

-- one more wire
pub wires_more : {W : Type 0} (done : List (Option (LinkView W))) (seat : Option (LinkView W)) (link : LinkView W) (wires new : List W) (wire : W) → seat ≡ Some link → wire ≡ link.wire → new ≡ wires ++ wire ∷ [] → wires ≡ wires_of done → new ≡ wires_of (done ++ seat ∷ [])
wires_more {W} done seat link wires new wire some is push before =
    let now : wires_of (done ++ seat ∷ []) ≡ wires_of done ++ link.wire ∷ [] = filter_map-append wire_of done (seat ∷ []) ∙ ap (λ (o : Option (LinkView W)). wires_of done ++ wires_of (o ∷ [])) some in
    push ∙ ap (λ (xs : List W). xs ++ wire ∷ []) before ∙ ap (λ (w : W). wires_of done ++ w ∷ []) is ∙ sym now

pub wires_past : {W : Type 0} (done : List (Option (LinkView W))) (seat : Option (LinkView W)) (wires : List W) → seat ≡ None → wires ≡ wires_of done → wires ≡ wires_of (done ++ seat ∷ [])
wires_past {W} done seat wires none before =
    let now : wires_of (done ++ seat ∷ []) ≡ wires_of done ++ [] = filter_map-append wire_of done (seat ∷ []) ∙ ap (λ (o : Option (LinkView W)). wires_of done ++ wires_of (o ∷ [])) none in
    before ∙ sym (append-nil (wires_of done)) ∙ sym now

-- a seat without a link is free
pub is_free : {W : Type 0} (seat : Option (LinkView W)) → ((link : LinkView W) → seat ≡ Some link → ⊥) → seat ≡ None
is_free None apart = refl
is_free (Some link) apart = absurd (apart link refl)

-- ---- the counts of the wires

pub counted_none : {W : Type 0} (counts : W → Counts) → AreCounted counts []
counted_none counts = λ place. no_link place (λ link. counts link.wire ≡ link.counts)

pub counted_seat : {W : Type 0} (counts : W → Counts) (seat : Option (LinkView W)) (link : LinkView W) (wire : W) → seat ≡ Some link → wire ≡ link.wire → counts wire ≡ link.counts → IfSome seat (λ x. counts x.wire ≡ x.counts)
counted_seat counts seat link wire some is counted = subst (λ o. IfSome o (λ x. counts x.wire ≡ x.counts)) (sym some) (ap counts (sym is) ∙ counted)

pub counted_free : {W : Type 0} (counts : W → Counts) (seat : Option (LinkView W)) → seat ≡ None → IfSome seat (λ x. counts x.wire ≡ x.counts)
counted_free counts seat none = subst (λ o. IfSome o (λ x. counts x.wire ≡ x.counts)) (sym none) tt

-- what holds of each link passed and of one more
each_more : {W : Type 0} (Q : LinkView W → Type 0) (done : List (Option (LinkView W))) (seat : Option (LinkView W)) → IfSome seat Q → ((place : ℕ) → IfSome (link_at done place) Q) → (place : ℕ) → IfSome (link_at (done ++ seat ∷ []) place) Q
each_more Q done seat is before place =
    elim (cases_lt place (length done)) [
      | inl within ↦ earlier done seat place Q within (before place)
      | inr past ↦ elim (cases_eq place (length done)) [
        | inl same ↦ latest done seat place Q (sym same) is
        | inr apart ↦ subst (λ o. IfSome o Q) (sym (get_or_past (done ++ seat ∷ []) place None (omega (arith, past, apart, length_push done seat)))) tt
      ]
    ]

pub counted_more : {W : Type 0} (counts : W → Counts) (done : List (Option (LinkView W))) (seat : Option (LinkView W)) → IfSome seat (λ x. counts x.wire ≡ x.counts) → AreCounted counts done → AreCounted counts (done ++ seat ∷ [])
counted_more counts done seat is before = each_more (λ x. counts x.wire ≡ x.counts) done seat is before

-- ---- the wires that are shut

pub shut_none : {W : Type 0} (is_shut : W → Bool) → AreShut is_shut []
shut_none is_shut = λ place. no_link place (λ link. link.shut ≡ true → is_shut link.wire ≡ true)

pub shut_seat : {W : Type 0} (is_shut : W → Bool) (seat : Option (LinkView W)) (link : LinkView W) (wire : W) → seat ≡ Some link → wire ≡ link.wire → (link.shut ≡ true → is_shut wire ≡ true) → IfSome seat (λ x. x.shut ≡ true → is_shut x.wire ≡ true)
shut_seat is_shut seat link wire some is shut = subst (λ o. IfSome o (λ x. x.shut ≡ true → is_shut x.wire ≡ true)) (sym some) (λ was. ap is_shut (sym is) ∙ shut was)

pub shut_free : {W : Type 0} (is_shut : W → Bool) (seat : Option (LinkView W)) → seat ≡ None → IfSome seat (λ x. x.shut ≡ true → is_shut x.wire ≡ true)
shut_free is_shut seat none = subst (λ o. IfSome o (λ x. x.shut ≡ true → is_shut x.wire ≡ true)) (sym none) tt

pub shut_more : {W : Type 0} (is_shut : W → Bool) (done : List (Option (LinkView W))) (seat : Option (LinkView W)) → IfSome seat (λ x. x.shut ≡ true → is_shut x.wire ≡ true) → AreShut is_shut done → AreShut is_shut (done ++ seat ∷ [])
shut_more is_shut done seat is before = each_more (λ x. x.shut ≡ true → is_shut x.wire ≡ true) done seat is before

covered_at : {W : Type 0} (counts : W → Counts) (run mon : ℕ) (j : List Noted) (o : Option (LinkView W)) → IsSeat run j mon o → IfSome o (λ x. counts x.wire ≡ x.counts) → IfSome o (CoversHeard counts run j mon)
covered_at counts run mon j None p is = tt
covered_at counts run mon j (Some x) p is = subst (λ (c : Counts). Covers x.version (heard_at run j mon x) x.unread c.taken) (sym is) p.ends.covered

-- each wire took what the journal got of its monitor
pub covered_of : {W : Type 0} (counts : W → Counts) (s : SeatsView W) → AreSeats s → AreCounted counts s.links → (place : ℕ) → IfSome (link_at s.links place) (CoversHeard counts s.run s.coordinator.journal (place + 1))
covered_of counts s h counted place = elim (cases_lt place (length s.links)) [
  | inl within ↦ covered_at counts s.run (place + 1) s.coordinator.journal (link_at s.links place) (h.each place within) (counted place)
  | inr past ↦ subst (λ o. IfSome o (CoversHeard counts s.run s.coordinator.journal (place + 1))) (sym (get_or_past s.links place None past)) tt
]

lost_in : {W : Type 0} (counts : W → Counts) (links : List (Option (LinkView W))) (place : ℕ) (link : LinkView W) → AreCounted counts links → link_at links place ≡ Some link → is_lost link.counts ≡ true → is_some_lost counts (wires_of links) ≡ true
lost_in counts [] place link counted at lost = absurd (cc)
lost_in counts (None ∷ links) zero link counted at lost = absurd (cc)
lost_in counts (None ∷ links) (suc place) link counted at lost = lost_in counts links place link (λ i. counted (suc i)) at lost
lost_in counts (Some x ∷ links) zero link counted at lost =
    let one : x ≡ link = cc in
    ap (λ b. b || is_some_lost counts (wires_of links)) (ap is_lost (counted zero ∙ ap (λ (l : LinkView _). l.counts) one) ∙ lost)
lost_in counts (Some x ∷ links) (suc place) link counted at lost =
    or_right (is_lost (counts x.wire)) (is_some_lost counts (wires_of links)) (lost_in counts links place link (λ i. counted (suc i)) at lost)

-- of a hub that failed some wire shows it
pub lost_of : {W : Type 0} (counts : W → Counts) (c : CoordinatorView) (links : List (Option (LinkView W))) (held : Slab (VisitorView W)) (course : Course) (wires : List W) → AreCounted counts links → wires ≡ wires_of links → IsOnCourse c links held course → course ≡ cs.Failed → is_some_lost counts wires ≡ true
lost_of counts c links held course wires counted is on failed =
    let lost = (subst (IsOnCourse c links held) failed on).1 in
    ap (is_some_lost counts) is ∙ lost_in counts links (lost.0 - 1) lost.1.link counted lost.1.at lost.1.holds

-- ---- all links

there : {W : Type 0} (links : List (Option (LinkView W))) (p : ℕ) (link : LinkView W) → link_at links p ≡ Some link → p < length links
there links p link is = elim (cases_lt p (length links)) [
  | inl within ↦ within
  | inr past ↦ absurd (let none = get_or_past links p None past in cc)
]

if_link : {W : Type 0} (o : Option (LinkView W)) (link : LinkView W) (Q : LinkView W → Type 0) → o ≡ Some link → IfSome o Q → Q link
if_link None link Q is q = absurd (cc)
if_link (Some x) link Q is q = subst Q (cc) q

left_whole : {W : Type 0} (from : Mon) (P : LinkView W → Type 0) (Q : LinkView W → Odd → Type 0) (links : List (Option (LinkView W))) (odd : Odd) → HoldsAt links from.0 P → LeftOf from Q links odd → HoldsAt links from.0 (λ link. Q link odd)
left_whole from P Q links odd h l =
    let within = there links (from.0 - 1) h.link h.at in
    record { some = h.some; link = h.link; at = h.at; holds = if_link (link_at links (from.0 - 1)) h.link (λ link. Q link odd) h.at (l.behind (omega (arith, within, h.some))) }

pub left_all : {W : Type 0} (course : Course) (links : List (Option (LinkView W))) (odd : Odd) → IsStanding course links → LeftUpTo course links odd → LeavesOdd course links odd
left_all cs.Open links odd on l = l
left_all cs.Halted links odd on l = l
left_all cs.Failed links odd on l = l
left_all (cs.Refused from why) links odd on l = left_whole from (λ link. Unit {0}) (IsOddFrame from) links odd on l
left_all (cs.Bad from fault) links odd on l = left_whole from (IsBadAt fault) (IsOddBytes from fault) links odd on l
left_all cs.WriteFailed links odd on l = l

-- bad bytes stand at the front of the link of their monitor
pub stands_at : {W : Type 0} (course : Course) (mon : Mon) (links : List (Option (LinkView W))) (link : LinkView W) → IsStanding course links → link_at links (mon.0 - 1) ≡ Some link → StandsAt mon course link
stands_at cs.Open mon links link on is = tt
stands_at cs.Halted mon links link on is = tt
stands_at cs.Failed mon links link on is = tt
stands_at (cs.Refused from why) mon links link on is = tt
stands_at (cs.Bad from fault) mon links link on is = λ same. if_link (link_at links (from.0 - 1)) link (IsBadAt fault) (ap (λ (m : Mon). link_at links (m.0 - 1)) same ∙ is) (subst (λ o. IfSome o (IsBadAt fault)) (sym on.at) on.holds)
stands_at cs.WriteFailed mon links link on is = tt

-- ---- of a hub

pub standing_of : {W : Type 0} (course : Course) (seats : SeatsView W) → IsLeftOn course seats → IsStanding course seats.links
standing_of cs.Open seats on = tt
standing_of cs.Halted seats on = tt
standing_of cs.Failed seats on = tt
standing_of (cs.Refused mon why) seats on = record { some = on.some; link = on.link; at = on.at; holds = tt }
standing_of (cs.Bad mon fault) seats on = on
standing_of cs.WriteFailed seats on = tt

no_payload : (version : ℕ) (unread odd : List ℕ) → IsVersion version → IsOddPayload version unread odd → IsNoFrame odd
no_payload version unread odd is p = inl (record { size = p.stands.size; version = version; is_version = is; no_frame = p.no_frame })

no_frame : (version : ℕ) (fault : BadFrame) (unread odd : List ℕ) → IsVersion version → IsOdd version fault unread odd → IsNoFrame odd
no_frame version (BadLength size) unread odd is p = inr (record { whole = p.1; size = size; no_length = p.0 })
no_frame version (BadKind code) unread odd is p = no_payload version unread odd is p
no_frame version (BadFields kind) unread odd is p = no_payload version unread odd is p

pub monitor_is : {W : Type 0} (mon : ℕ) (s : SeatsView W) (link : LinkView W) → 0 < mon → link_at s.links (mon - 1) ≡ Some link → AreSeats s → IsMonitor s.coordinator.settings mon
monitor_is mon s link some is h = record { from_one = omega (arith, some); within = omega (arith, some, h.count, there s.links (mon - 1) link is) }

version_in : {W : Type 0} (run mon : ℕ) (j : List Noted) (o : Option (LinkView W)) (link : LinkView W) → o ≡ Some link → IsSeat run j mon o → IsVersion link.version
version_in run mon j None link is p = absurd (cc)
version_in run mon j (Some x) link is p = subst (λ (l : LinkView _). IsVersion l.version) (let e : x ≡ link = cc in e) p.version

version_is : {W : Type 0} (mon : ℕ) (s : SeatsView W) (link : LinkView W) → link_at s.links (mon - 1) ≡ Some link → AreSeats s → IsVersion link.version
version_is mon s link is h = version_in s.run (mon - 1 + 1) s.coordinator.journal (link_at s.links (mon - 1)) link is (h.each (mon - 1) (there s.links (mon - 1) link is))

frame_odd : {W : Type 0} (mon : Mon) (why : CoordRefusal) (s : SeatsView W) (odd : Odd) (x : Mon × Received) → AreSeats s → HoldsAt s.links mon.0 (IsRefusedAt mon.0 s.coordinator why) → HoldsAt s.links mon.0 (λ link. IsOddFrame mon link odd) → odd ≡ Some x → IsOddUp s.coordinator.settings s.coordinator.journal x
frame_odd {W} mon why s odd x h on left is =
    let frame = on.holds.frame in
    let one : left.link ≡ on.link = same_Some left.link on.link (sym left.at ∙ on.at) in
    let at : option_map (λ frame. (mon, r.Frame frame)) left.link.front ≡ Some (mon, r.Frame frame) = ap (λ (l : LinkView W). option_map (λ frame. (mon, r.Frame frame)) l.front) one ∙ ap (option_map (λ frame. (mon, r.Frame frame))) on.holds.read in
    let same : (mon, r.Frame frame) ≡ x = same_Some (mon, r.Frame frame) x (sym at ∙ sym left.holds ∙ is) in
    subst (IsOddUp s.coordinator.settings s.coordinator.journal) same (monitor_is mon.0 s on.link on.some on.at h, ap is_some on.holds.refused)

bytes_odd : {W : Type 0} (mon : Mon) (fault : BadFrame) (s : SeatsView W) (odd : Odd) (x : Mon × Received) → AreSeats s → HoldsAt s.links mon.0 (λ link. IsOddBytes mon fault link odd) → odd ≡ Some x → IsOddUp s.coordinator.settings s.coordinator.journal x
bytes_odd mon fault s odd x h left is =
    let bytes = left.holds.bytes in
    let same : (mon, r.Bytes bytes) ≡ x = same_Some (mon, r.Bytes bytes) x (sym left.holds.is ∙ is) in
    subst (IsOddUp s.coordinator.settings s.coordinator.journal) same (monitor_is mon.0 s left.link left.some left.at h, no_frame left.link.version fault left.link.unread bytes (version_is mon.0 s left.link left.at h) left.holds.odd_ones)

-- it is of one of the monitors, and one that the coordinator refuses, or no frame
pub odd_up : {W : Type 0} (course : Course) (s : SeatsView W) (odd : Odd) → AreSeats s → IsLeftOn course s → LeavesOdd course s.links odd → ForSome odd (IsOddUp s.coordinator.settings s.coordinator.journal)
odd_up cs.Open s odd h on left x is = absurd (cc)
odd_up cs.Halted s odd h on left x is = absurd (cc)
odd_up cs.Failed s odd h on left x is = absurd (cc)
odd_up (cs.Refused mon why) s odd h on left x is = frame_odd mon why s odd x h on left is
odd_up (cs.Bad mon fault) s odd h on left x is = bytes_odd mon fault s odd x h left is
odd_up cs.WriteFailed s odd h on left x is = absurd (cc)
