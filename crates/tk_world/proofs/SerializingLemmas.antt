-- The events that are written down walk the story.
use Rattle.tk_journal.specs.declared.noted.Noted.TheVariants as n
use Rattle.std.proofs.Common.{◌≡◌, ℕ, suc, zero, ◌+◌, ◌-◌, ◌≤◌, ◌<◌, ◌==◌, pos, Bool, true, false, List, [], ◌∷◌, ◌++◌, length, set, get_or, replicate, Some, None, refl, sym, ap, ◌∙◌, subst, arith, append_assoc, append-nil, inl, inr}
use Rattle.std.specs.Prelude.{ℤ, drop, unsigned_abs, slice_get, if◌then◌else◌, Result, Ok, Err, OnOk}
use Rattle.std.specs.List.{cons_option}
use Rattle.std.proofs.lemmas.Bool.{cases_eq, cases_lt, eq-eqb, ne_eqb}
use Rattle.std.proofs.lemmas.List.{get_or-set_same, get_or-set_other, length-append, length-replicate, length-set}
use Rattle.std.proofs.lemmas.List.Elements.{filter_map-append}
use Rattle.tk_base.specs.declared.memory.NoMemory.{NoMemory}
use Rattle.tk_base.proofs.ListLemmas.{zeros}
use Rattle.tk_frames.specs.declared.frame.Frame.{Frame}
use Rattle.tk_journal.specs.Laws.{IsMonitor}
use Rattle.tk_journal.specs.Legal.{inputs_of, opened, start}
use Rattle.tk_journal.specs.Links.{frames_from, frames_to}
use Rattle.tk_journal.specs.declared.noted.Noted.{Noted}
use Rattle.tk_journal.proofs.Appends.{frames_from-append}
use Rattle.tk_story.proofs.JoinLemmas.{Rest, rest_of}
use Rattle.tk_trail.specs.Frames.{answer_to}
use Rattle.tk_trail.specs.Legal.{IsLegal as IsLegalTrail}
use Rattle.tk_trail.specs.Readings.{sent_by, sent_in, taken_by}
use Rattle.tk_trail.specs.declared.entry.Entry.{Entry}
use Rattle.tk_trail.specs.declared.entry.Entry.TheVariants.{Raised, Took, Sent}
use Rattle.tk_input.specs.declared.event.Event.{Event}
use Rattle.tk_journal.proofs.HeardLemmas.{no_input}
use Rattle.tk_story.specs.Story.{IsStory, StoryView, setup_of, trail_of}
use Rattle.tk_world.specs.Events.{raise_at, check_at, up_at, down_at, retune_at}
use Rattle.tk_world.specs.Order.{left_after, of_entry}
use Rattle.tk_world.specs.Runs.{RunsBy, UsesCheck, UsesDown, UsesRaise, UsesTurn, UsesUp, Walks, further, walked, wants_answer, IsDirect}
use Rattle.tk_world.specs.Serializing.{IsTurnOf, IsWalking, WhileLeft, sends, under_way, uses}
use Rattle.tk_world.proofs.WalkLemmas.{Within, Stepped, answers_if, begins_within, check_walks, down_walks, raise_walks, retune_walks, up_walks}
use Rattle.tk_world.proofs.SerialLemmas.{Ready, frames_behind, got_next, heads, never_stuck, ready_by, split_answer, taken_next, turn_used, at_end_of}

-- ---- what is walked

abbrev pub within : (s : StoryView) (places : List ℕ) (events : List Event) (left : List Noted) (ahead : ℕ) → (w : IsWalking s places events left ahead) → Within s w.journal w.trails
within s places events left ahead w = record {
  story = w.story;
  inputs = left;
  played = w.played;
  accepted = w.accepted;
  fronts = λ i. record { rest = (w.fronts i).0; is = (w.fronts i).1 };
}

always : (left : List Noted) (Fact : Type 0) → Fact → WhileLeft left Fact
always [] Fact holds = tt
always (input ∷ left) Fact holds = holds

carried : (left : List Noted) (Fact Next : Type 0) → (Fact → Next) → WhileLeft left Fact → WhileLeft left Next
carried [] Fact Next step holds = tt
carried (input ∷ left) Fact Next step holds = step holds

-- one more event
walks_on : (s : StoryView) (places : List ℕ) (events : List Event) (left : List Noted) (ahead : ℕ) (e : Event) (journal' : List Noted) (trails' : List (List Entry)) (places' : List ℕ) (left' : List Noted) (ahead' : ℕ) → (w : IsWalking s places events left ahead)
    → Stepped s w.journal w.trails left e journal' trails' → left_after left e ≡ left' → ((more : List Event) → Walks s journal' trails' more → Walks s w.journal w.trails (e ∷ more))
    → length places' ≡ s.settings.monitors → ((i : ℕ) → get_or places' i 0 ≡ length (get_or trails' i []))
    → ((mon : ℕ) → IsMonitor s.settings mon → WhileLeft left' (length (sent_by (walked trails' mon)) ≡ length (frames_from mon journal') + under_way ahead' mon))
    → IsWalking s places' (events ++ e ∷ []) left' ahead'
walks_on s places events left ahead e journal' trails' places' left' ahead' w step after build count to heard =
    let inputs = step.left ∙ after in
    record {
      whole = w.whole;
      journal = journal';
      trails = trails';
      story = step.within.story;
      played = step.within.played ∙ ap (Rattle.tk_journal.specs.Legal.played_from s.settings journal') inputs;
      accepted = subst (Rattle.tk_journal.specs.Legal.AreAccepted s.settings journal') inputs step.within.accepted;
      fronts = λ i. ((step.within.fronts i).rest, (step.within.fronts i).is);
      runs = λ more all. subst (RunsBy s) (sym (append_assoc events (e ∷ []) more)) (w.runs (e ∷ more) (build more all));
      count = count;
      walked_to = to;
      heard = heard;
    }

-- ---- at the beginning

no_entries : ℕ → List (List Entry)
no_entries k = replicate k []

empties : (k i : ℕ) → get_or (no_entries k) i [] ≡ []
unfolding no_entries
empties zero i = refl
empties (suc k) zero = refl
empties (suc k) (suc i) = empties k i

none_got : (mon : ℕ) (members : List ℕ) (ps : List (ℕ × List (ℕ × ℤ))) → frames_from mon (Rattle.std.specs.Prelude.map (λ p. n.Sent (record { 0 = p.0 }) (Rattle.tk_frames.specs.declared.frame.Frame.TheVariants.Assign 1 members p.1)) ps) ≡ []
none_got mon members [] = refl
none_got mon members (p ∷ ps) = none_got mon members ps

other_way : (ahead mon : ℕ) → (mon ≡ ahead → ⊥) → under_way ahead mon ≡ 0
other_way ahead mon apart = ap (λ b. if b then 1 else 0) (ne_eqb mon ahead apart)

apart_zero : (mon : ℕ) → 1 ≤ mon → under_way 0 mon ≡ 0
apart_zero zero one = absurd (omega (arith, one))
apart_zero (suc mon) one = other_way 0 (suc mon) (λ same. omega (arith, same))

none_there : (mon : ℕ) → 1 ≤ mon → (got : List Frame) → got ≡ [] → ◌≡◌ {A = ℕ} 0 (length got + under_way 0 mon)
none_there mon one got none = let z = apart_zero mon one in let l = ap (λ (xs : List Frame). length xs) none in omega (arith, z, l)

pub begins_walking : (s : StoryView) → IsStory s → IsWalking s (replicate s.settings.monitors 0) [] (inputs_of s.journal) 0
unfolding no_entries
begins_walking s h =
    let w = begins_within s h in
    let o = start s.settings in
    record {
      whole = h;
      journal = opened o;
      trails = replicate s.settings.monitors [];
      story = w.story;
      played = h.journal_legal.played;
      accepted = h.journal_legal.accepted;
      fronts = λ i. ((w.fronts i).rest, (w.fronts i).is);
      runs = λ more all. all;
      count = length-replicate s.settings.monitors 0;
      walked_to = λ i. zeros s.settings.monitors i ∙ sym (ap (λ (xs : List Entry). length xs) (empties s.settings.monitors i));
      heard = λ mon m. always (inputs_of s.journal) (length (sent_by (walked (replicate s.settings.monitors []) mon)) ≡ length (frames_from mon (opened o)) + under_way 0 mon)
          (ap (λ (xs : List Entry). length (sent_by xs)) (empties s.settings.monitors (mon - 1)) ∙ none_there mon m.from_one (frames_from mon (opened o)) (none_got mon o.members (Rattle.std.specs.List.enumerate_from 1 o.factors)));
    }

-- ---- frames under way

pub same_way : (mon : ℕ) → under_way mon mon ≡ 1
same_way mon = ap (λ b. if b then 1 else 0) (eq-eqb mon mon refl)

whole_rest : (xs ys rest : List Frame) → ys ≡ xs ++ rest → length ys ≡ length xs → ys ≡ xs
whole_rest xs ys [] is same = is ∙ append-nil xs
whole_rest xs ys (x ∷ rest) is same = absurd (let l = ap (λ (zs : List Frame). length zs) is in let m = length-append xs (x ∷ rest) in omega (arith, l, m, same))

-- a front as long as the whole is the whole
whole_front : (xs ys : List Frame) → Rest xs ys → length ys ≡ length xs → ys ≡ xs
whole_front xs ys r same = whole_rest xs ys r.rest r.is same

-- ---- turns

pub tuned_walking : (s : StoryView) (places : List ℕ) (events : List Event) (left : List Noted) (k : ℕ) (epsilon : ℤ) → IsWalking s places events (n.Tuned k epsilon ∷ left) 0
    → IsWalking s places (events ++ retune_at k (unsigned_abs epsilon) ∷ []) left 0
tuned_walking s places events left k epsilon w =
    let t = turn_used s w.journal (n.Tuned k epsilon) left w.played w.accepted in
    let e = w.accepted.0.0 in
    let is : epsilon ≡ pos e = w.accepted.0.1 in
    let used : UsesTurn s w.journal (n.Tuned k (pos e)) t.0 = subst (λ z. UsesTurn s w.journal (n.Tuned k z) t.0) is t.1 in
    let size : e ≡ unsigned_abs epsilon = sym (ap unsigned_abs is) in
    subst (λ q. IsWalking s places (events ++ retune_at k q ∷ []) left 0) size
    (walks_on s places events (n.Tuned k epsilon ∷ left) 0 (retune_at k e) (w.journal ++ n.Tuned k (pos e) ∷ t.0) w.trails places left 0 w
    (retune_walks s w.journal w.trails k e t.0 w.whole (within s places events (n.Tuned k epsilon ∷ left) 0 w) used) refl (λ more all. (t.0, used, all)) w.count w.walked_to
    (λ mon m. always left _ (w.heard mon m ∙ ap (λ (xs : List Frame). length xs + under_way 0 mon)
    (sym (frames_from-append mon w.journal (n.Tuned k (pos e) ∷ t.0) ∙ ap (λ xs. frames_from mon w.journal ++ xs) (no_input mon t.0 used.none) ∙ append-nil (frames_from mon w.journal))))))

one_ahead : (xs ys rest : List Frame) (own more : List Frame) (frame : Frame) → ys ≡ xs ++ rest → length ys ≡ length xs + 1 → ys ++ own ≡ xs ++ frame ∷ more → ys ≡ xs ++ frame ∷ []
one_ahead xs ys [] own more frame is one all = absurd (let l = ap (λ (zs : List Frame). length zs) (is ∙ append-nil xs) in omega (arith, l, one))
one_ahead xs ys (x ∷ []) own more frame is one all =
    let e : xs ++ x ∷ own ≡ xs ++ frame ∷ more = sym (append_assoc xs (x ∷ []) own) ∙ ap (λ zs. zs ++ own) (sym is) ∙ all in
    is ∙ ap (λ (q : Frame). xs ++ q ∷ []) (heads xs own more x frame e)
one_ahead xs ys (x ∷ y ∷ rest) own more frame is one all = absurd (let l = ap (λ (zs : List Frame). length zs) is in let m = length-append xs (x ∷ y ∷ rest) in omega (arith, l, m, one))

ahead_is : (s : StoryView) (places : List ℕ) (events : List Event) (left : List Noted) (mon : ℕ) (frame : Frame) (batch : List Noted) → (w : IsWalking s places events (n.Got (record { 0 = mon }) frame ∷ left) mon) → IsMonitor s.settings mon
    → UsesTurn s w.journal (n.Got (record { 0 = mon }) frame) batch → sent_by (walked w.trails mon) ≡ frames_from mon w.journal ++ frame ∷ []
ahead_is s places events left mon frame batch w m turn =
    let up = rest_of (frames_from mon w.journal) (sent_by (walked w.trails mon)) (w.story.links mon m).up in
    let g = got_next s w.journal mon frame batch w.whole m turn in
    let front = w.fronts (mon - 1) in
    let both : sent_by (trail_of s mon) ≡ sent_by (walked w.trails mon) ++ sent_by front.0 = ap sent_by front.1 ∙ filter_map-append sent_in (walked w.trails mon) front.0 in
    let one = w.heard mon m ∙ ap (λ k. length (frames_from mon w.journal) + k) (same_way mon) in
    one_ahead (frames_from mon w.journal) (sent_by (walked w.trails mon)) up.rest (sent_by front.0) g.0 frame up.is one (sym both ∙ g.1)

got_one : (b : Bool) (frame : Frame) (rest : List Frame) → rest ≡ [] → length (cons_option (if b then Some frame else None) rest) ≡ (if b then 1 else 0)
got_one true frame rest none = ap (λ (xs : List Frame). length (frame ∷ xs)) none
got_one false frame rest none = ap (λ (xs : List Frame). length xs) none

got_frames : (mon other : ℕ) (journal batch : List Noted) (frame : Frame) → inputs_of batch ≡ [] → length (frames_from other (journal ++ n.Got (record { 0 = mon }) frame ∷ batch)) ≡ length (frames_from other journal) + (if mon == other then 1 else 0)
got_frames mon other journal batch frame none =
    ap (λ (xs : List Frame). length xs) (frames_from-append other journal (n.Got (record { 0 = mon }) frame ∷ batch))
    ∙ length-append (frames_from other journal) (frames_from other (n.Got (record { 0 = mon }) frame ∷ batch))
    ∙ ap (λ k. length (frames_from other journal) + k) (got_one (mon == other) frame (frames_from other batch) (no_input other batch none))

turned : (mon other : ℕ) → under_way mon other ≡ (if mon == other then 1 else 0)
turned mon other = elim (cases_eq other mon) [
  | inl same ↦ ap (λ q. under_way mon q) same ∙ same_way mon ∙ sym (ap (λ b. if b then 1 else 0) (eq-eqb mon other (sym same)))
  | inr apart ↦ other_way mon other apart ∙ sym (ap (λ b. if b then 1 else 0) (ne_eqb mon other (λ same. apart (sym same))))
]

pub up_walking : (s : StoryView) (places : List ℕ) (events : List Event) (left : List Noted) (mon : ℕ) (frame : Frame) → IsWalking s places events (n.Got (record { 0 = mon }) frame ∷ left) mon → IsWalking s places (events ++ up_at mon ∷ []) left 0
up_walking s places events left mon frame w =
    let input = n.Got (record { 0 = mon }) frame in
    let m : IsMonitor s.settings mon = record { from_one = w.accepted.0.0; within = w.accepted.0.1 } in
    let t = turn_used s w.journal input left w.played w.accepted in
    let used : UsesUp s w.journal w.trails mon frame t.0 = record { monitor = m; turn = t.1; more = []; sent = ahead_is s places events left mon frame t.0 w m t.1 } in
    walks_on s places events (input ∷ left) mon (up_at mon) (w.journal ++ input ∷ t.0) w.trails places left 0 w
    (up_walks s w.journal w.trails mon frame t.0 w.whole (within s places events (input ∷ left) mon w) used) refl (λ more all. (frame, t.0, used, all)) w.count w.walked_to
    (λ other o. always left _ (
    let heard = w.heard other o in
    let got = got_frames mon other w.journal t.0 frame t.1.none in
    let way = turned mon other in
    let zero' = apart_zero other o.from_one in
    omega (arith, heard, got, way, zero')))

-- ---- an entry of a trail

own_way : (sent : Bool) (mon other : ℕ) → other ≡ mon → 1 ≤ mon → under_way (if sent then mon else 0) other ≡ (if sent then 1 else 0)
own_way true mon other same one = ap (under_way mon) same ∙ same_way mon
own_way false mon other same one = ap (under_way 0) same ∙ apart_zero mon one

far_way : (sent : Bool) (mon other : ℕ) → (other ≡ mon → ⊥) → 1 ≤ other → under_way (if sent then mon else 0) other ≡ 0
far_way true mon other apart one = other_way mon other apart
far_way false mon other apart one = apart_zero other one

heard_on : (s : StoryView) (journal : List Noted) (trails : List (List Entry)) (mon other : ℕ) (more : List Entry) (sent : Bool) → IsMonitor s.settings mon → IsMonitor s.settings other → mon - 1 < length trails → length (sent_by more) ≡ (if sent then 1 else 0)
    → length (sent_by (walked trails other)) ≡ length (frames_from other journal) + under_way 0 other
    → length (sent_by (walked (further trails mon more) other)) ≡ length (frames_from other journal) + under_way (if sent then mon else 0) other
heard_on s journal trails mon other more sent m o inside count old =
    let none = apart_zero other o.from_one in
    let back = m.from_one in
    let back' = o.from_one in
    elim (cases_eq other mon) [
      | inl same ↦
          let on : walked (further trails mon more) other ≡ walked trails mon ++ more = ap (λ q. get_or (further trails mon more) (q - 1) []) same ∙ get_or-set_same trails (mon - 1) (walked trails mon ++ more) [] inside in
          let sum : length (sent_by (walked (further trails mon more) other)) ≡ length (sent_by (walked trails mon)) + length (sent_by more) =
          ap (λ (xs : List Entry). length (sent_by xs)) on ∙ ap (λ (xs : List Frame). length xs) (filter_map-append sent_in (walked trails mon) more) ∙ length-append (sent_by (walked trails mon)) (sent_by more) in
          let was : length (sent_by (walked trails mon)) ≡ length (sent_by (walked trails other)) = ap (λ q. length (sent_by (walked trails q))) (sym same) in
          let way : under_way (if sent then mon else 0) other ≡ (if sent then 1 else 0) = own_way sent mon other same m.from_one in
          omega (arith, none, old, sum, was, way, count)
      | inr apart ↦
          let off : length (sent_by (walked (further trails mon more) other)) ≡ length (sent_by (walked trails other)) =
          ap (λ (xs : List Entry). length (sent_by xs)) (get_or-set_other trails (mon - 1) (other - 1) (walked trails mon ++ more) [] (λ same. apart (omega (arith, same, back, back')))) in
          let way : under_way (if sent then mon else 0) other ≡ 0 = far_way sent mon other apart o.from_one in
          omega (arith, none, old, off, way)
    ]

moved_on : (s : StoryView) (places : List ℕ) (events : List Event) (left : List Noted) (mon : ℕ) (e : Event) (more rest : List Entry) (sent : Bool) → (w : IsWalking s places events left 0) → IsMonitor s.settings mon
    → Stepped s w.journal w.trails left e w.journal (further w.trails mon more) → left_after left e ≡ left → ((after : List Event) → Walks s w.journal (further w.trails mon more) after → Walks s w.journal w.trails (e ∷ after))
    → length (sent_by more) ≡ (if sent then 1 else 0) → IsWalking s (set places (mon - 1) (get_or places (mon - 1) 0 + length more)) (events ++ e ∷ []) left (if sent then mon else 0)
moved_on s places events left mon e more rest sent w m step after build count =
    let i = mon - 1 in
    let place = get_or places i 0 + length more in
    let inside : i < length w.trails = (let a = m.from_one in let b = m.within in let c = w.story.count in omega (arith, a, b, c)) in
    let inside' : i < length places = (let a = m.from_one in let b = m.within in let c = w.count in omega (arith, a, b, c)) in
    let on : get_or (further w.trails mon more) i [] ≡ walked w.trails mon ++ more = get_or-set_same w.trails i (walked w.trails mon ++ more) [] inside in
    walks_on s places events left 0 e w.journal (further w.trails mon more) (set places i place) left (if sent then mon else 0) w step after build
    (length-set places i place ∙ w.count)
    (λ q. elim (cases_eq q i) [
      | inl same ↦ ap (λ z. get_or (set places i place) z 0) same ∙ get_or-set_same places i place 0 inside'
          ∙ ap (λ z. z + length more) (w.walked_to i) ∙ sym (length-append (walked w.trails mon) more) ∙ ap (λ (xs : List Entry). length xs) (sym on)
          ∙ ap (λ z. length (get_or (further w.trails mon more) z [])) (sym same)
      | inr apart ↦ get_or-set_other places i q place 0 apart ∙ w.walked_to q ∙ ap (λ (xs : List Entry). length xs) (sym (get_or-set_other w.trails i q (walked w.trails mon ++ more) [] apart))
    ])
    (λ other o. carried left _ _ (λ old. heard_on s w.journal w.trails mon other more sent m o inside count old) (w.heard other o))

direct_size : (wants : Bool) (answer : List Entry) → IsDirect wants answer → length answer + 1 ≡ (if wants then 2 else 1)
direct_size true answer one = ap (λ (xs : List Entry). length xs + 1) one.1
direct_size false answer none = ap (λ (xs : List Entry). length xs + 1) none

direct_sent : (wants : Bool) (answer : List Entry) → IsDirect wants answer → length (sent_by answer) ≡ (if wants then 1 else 0)
direct_sent true answer one = ap (λ (xs : List Entry). length (sent_by xs)) one.1
direct_sent false answer none = ap (λ (xs : List Entry). length (sent_by xs)) none

entry_walks : (s : StoryView) (places : List ℕ) (events : List Event) (left : List Noted) (mon : ℕ) (x : Entry) (rest : List Entry) → (w : IsWalking s places events left 0) → IsMonitor s.settings mon → trail_of s mon ≡ walked w.trails mon ++ x ∷ rest → Ready w.journal w.trails mon x
    → IsWalking s (set places (mon - 1) (get_or places (mon - 1) 0 + uses x)) (events ++ of_entry mon x ∷ []) left (if sends x then mon else 0)
entry_walks s places events left mon (Raised g) rest w m is ready =
    let u : UsesRaise s w.trails mon g.0 = record { monitor = m; rest = rest; is = is } in
    moved_on s places events left mon (raise_at mon g.0) (Raised g ∷ []) rest false w m (raise_walks s w.journal w.trails mon g.0 w.whole (within s places events left 0 w) u) refl (λ more all. (u, all)) refl
entry_walks s places events left mon (Sent frame) rest w m is ready =
    let u : UsesCheck s w.trails mon frame = record { monitor = m; rest = rest; is = is } in
    moved_on s places events left mon (check_at mon) (Sent frame ∷ []) rest true w m (check_walks s w.journal w.trails mon frame w.whole (within s places events left 0 w) u) refl (λ more all. (frame, u, all)) refl
entry_walks s places events left mon (Took frame) rest w m is ready =
    let setup = setup_of s mon in
    let trail = walked w.trails mon in
    let a = split_answer setup trail frame rest (answer_to setup (trail ++ Took frame ∷ []) frame) refl (answers_if setup (trail ++ Took frame ∷ []) frame) (subst (IsLegalTrail setup) is (w.whole.trails_legal mon m)) in
    let u : UsesDown s w.journal w.trails mon frame a.answer = record { monitor = m; rest = a.behind; is = is ∙ ap (λ xs. trail ++ Took frame ∷ xs) a.is; direct = a.direct; more = ready.0; sent = ready.1 } in
    let used : length (Took frame ∷ a.answer) ≡ uses (Took frame) = (let d = direct_size (wants_answer frame) a.answer a.direct in omega (arith, d)) in
    subst (λ k. IsWalking s (set places (mon - 1) (get_or places (mon - 1) 0 + k)) (events ++ down_at mon ∷ []) left (if wants_answer frame then mon else 0)) used
    (moved_on s places events left mon (down_at mon) (Took frame ∷ a.answer) a.behind (wants_answer frame) w m
    (down_walks s w.journal w.trails mon frame a.answer w.whole (within s places events left 0 w) u) refl (λ more all. (frame, a.answer, u, all)) (direct_sent (wants_answer frame) a.answer a.direct))

-- ---- which entry may be walked

ready_took : (s : StoryView) (journal : List Noted) (trails : List (List Entry)) (mon : ℕ) (x : Entry) → ((frame : Frame) → x ≡ Took frame → (more : List Frame) × (frames_to mon journal ≡ taken_by (walked trails mon) ++ frame ∷ more)) → Ready journal trails mon x
ready_took s journal trails mon (Raised g) took = tt
ready_took s journal trails mon (Sent frame) took = tt
ready_took s journal trails mon (Took frame) took = took frame refl

unheard : (s : StoryView) (places : List ℕ) (events : List Event) (left : List Noted) (mon : ℕ) (frame : Frame) → (w : IsWalking s places events (n.Got (record { 0 = mon }) frame ∷ left) 0) → IsMonitor s.settings mon → sent_by (walked w.trails mon) ≡ frames_from mon w.journal
unheard s places events left mon frame w m =
    whole_front (frames_from mon w.journal) (sent_by (walked w.trails mon)) (rest_of (frames_from mon w.journal) (sent_by (walked w.trails mon)) (w.story.links mon m).up)
    (let h = w.heard mon m in let z = apart_zero mon m.from_one in omega (arith, h, z))

record ToSend (s : StoryView) (trails : List (List Entry)) (mon : ℕ) (frame : Frame) (rest : List Entry) : Type 0 where
  more : List Frame
  is : sent_by rest ≡ frame ∷ more

to_send : (s : StoryView) (places : List ℕ) (events : List Event) (left : List Noted) (mon : ℕ) (frame : Frame) (rest : List Entry) → (w : IsWalking s places events (n.Got (record { 0 = mon }) frame ∷ left) 0) → IsMonitor s.settings mon
    → trail_of s mon ≡ walked w.trails mon ++ rest → ToSend s w.trails mon frame rest
to_send s places events left mon frame rest w m is =
    let t = turn_used s w.journal (n.Got (record { 0 = mon }) frame) left w.played w.accepted in
    let g = got_next s w.journal mon frame t.0 w.whole m t.1 in
    let both : sent_by (trail_of s mon) ≡ sent_by (walked w.trails mon) ++ sent_by rest = ap sent_by is ∙ filter_map-append sent_in (walked w.trails mon) rest in
    record {
      more = g.0;
      is = frames_behind (frames_from mon w.journal) (sent_by rest) (frame ∷ g.0) (ap (λ xs. xs ++ sent_by rest) (sym (unheard s places events left mon frame w m)) ∙ sym both ∙ g.1);
    }

at_got : (s : StoryView) (places : List ℕ) (events : List Event) (left : List Noted) (mon : ℕ) (frame : Frame) (x : Entry) (rest : List Entry) (v : List Frame) → (w : IsWalking s places events (n.Got (record { 0 = mon }) frame ∷ left) 0) → IsMonitor s.settings mon
    → trail_of s mon ≡ walked w.trails mon ++ x ∷ rest → frames_to mon w.journal ≡ taken_by (walked w.trails mon) ++ v → Ready w.journal w.trails mon x
at_got s places events left mon frame x rest (y ∷ v) w m is under = ready_by s w.journal w.trails mon x rest y v w.whole (within s places events (n.Got (record { 0 = mon }) frame ∷ left) 0 w) m is under
at_got s places events left mon frame x rest [] w m is under =
    let send = to_send s places events left mon frame (x ∷ rest) w m is in
    ready_took s w.journal w.trails mon x (λ q took. absurd (never_stuck s w.journal w.trails mon frame q rest (record {
      story = w.whole;
      within = within s places events (n.Got (record { 0 = mon }) frame ∷ left) 0 w;
      monitor = m;
      none = w.accepted.0.2;
      is = is ∙ ap (λ (e : Entry). walked w.trails mon ++ e ∷ rest) took;
      more = send.more;
      sent = sym (ap (λ (e : Entry). sent_by (e ∷ rest)) took) ∙ send.is;
      down = under ∙ append-nil (taken_by (walked w.trails mon));
      up = unheard s places events left mon frame w m;
    })))

at_end : (s : StoryView) (places : List ℕ) (events : List Event) (mon : ℕ) (x : Entry) (rest : List Entry) → (w : IsWalking s places events [] 0) → IsMonitor s.settings mon → trail_of s mon ≡ walked w.trails mon ++ x ∷ rest → Ready w.journal w.trails mon x
at_end s places events mon x rest w m is = ready_took s w.journal w.trails mon x (λ q took.
    let t = taken_next s w.journal w.trails mon q rest w.whole m (is ∙ ap (λ (e : Entry). walked w.trails mon ++ e ∷ rest) took) in
    (t.0, ap (frames_to mon) (sym w.played) ∙ t.1))

ready_got : (s : StoryView) (places : List ℕ) (events : List Event) (left : List Noted) (from mon : ℕ) (frame : Frame) (x : Entry) (rest : List Entry) → from ≡ mon → (w : IsWalking s places events (n.Got (record { 0 = from }) frame ∷ left) 0) → IsMonitor s.settings mon
    → trail_of s mon ≡ walked w.trails mon ++ x ∷ rest → Ready w.journal w.trails mon x
ready_got s places events left from mon frame x rest same w m is =
    subst (λ q. Ready w.journal w.trails q x) same (at_got s places events left from frame x rest (rest_of (taken_by (walked w.trails from)) (frames_to from w.journal) (w.story.links from (subst (IsMonitor s.settings) (sym same) m)).down).rest w (subst (IsMonitor s.settings) (sym same) m)
    (subst (λ q. trail_of s q ≡ walked w.trails q ++ x ∷ rest) (sym same) is) (rest_of (taken_by (walked w.trails from)) (frames_to from w.journal) (w.story.links from (subst (IsMonitor s.settings) (sym same) m)).down).is)

ready_at : (s : StoryView) (places : List ℕ) (events : List Event) (left : List Noted) (mon : ℕ) (x : Entry) (rest : List Entry) → (w : IsWalking s places events left 0) → IsTurnOf mon left → IsMonitor s.settings mon → trail_of s mon ≡ walked w.trails mon ++ x ∷ rest → Ready w.journal w.trails mon x
ready_at s places events [] mon x rest w turn m is = at_end s places events mon x rest w m is
ready_at s places events (n.Got from frame ∷ left) mon x rest w turn m is =
    ready_got s places events left from.0 mon frame x rest turn w m is
ready_at s places events (n.Sent to frame ∷ left) mon x rest w turn m is = absurd turn
ready_at s places events (n.Published publication ∷ left) mon x rest w turn m is = absurd turn
ready_at s places events (n.Tuned k epsilon ∷ left) mon x rest w turn m is = absurd turn

-- the entry at the place of a trail
behind_place : (xs ys rest : List Entry) (x : Entry) → ys ≡ xs ++ rest → slice_get ys (length xs) ≡ Some x → (after : List Entry) × (ys ≡ xs ++ x ∷ after)
behind_place xs ys [] x is found = absurd (let e : slice_get (xs ++ []) (length xs) ≡ Some x = ap (λ zs. slice_get zs (length xs)) (sym is) ∙ found in let z = at_end_of xs [] in cc)
behind_place xs ys (y ∷ rest) x is found =
    let z = at_end_of xs (y ∷ rest) in
    let e : Some y ≡ Some x = sym (ap (λ zs. slice_get zs (length xs)) is ∙ z) ∙ found in
    let same : y ≡ x = cc in
    (rest, is ∙ ap (λ (q : Entry). xs ++ q ∷ rest) same)

pub step_walks : (s : StoryView) (places : List ℕ) (events : List Event) (left : List Noted) (mon : ℕ) (x : Entry) → IsWalking s places events left 0 → IsTurnOf mon left → IsMonitor s.settings mon → slice_get (trail_of s mon) (get_or places (mon - 1) 0) ≡ Some x
    → IsWalking s (set places (mon - 1) (get_or places (mon - 1) 0 + uses x)) (events ++ of_entry mon x ∷ []) left (if sends x then mon else 0)
step_walks s places events left mon x w turn m found =
    let front = w.fronts (mon - 1) in
    let b = behind_place (walked w.trails mon) (trail_of s mon) front.0 x front.1 (ap (slice_get (trail_of s mon)) (sym (w.walked_to (mon - 1))) ∙ found) in
    entry_walks s places events left mon x b.0 w m b.1 (ready_at s places events left mon x b.0 w turn m b.1)

-- a place is within its trail
pub place_most : (s : StoryView) (places : List ℕ) (events : List Event) (left : List Noted) (ahead i : ℕ) → IsWalking s places events left ahead → get_or places i 0 ≤ length (get_or s.trails i [])
place_most s places events left ahead i w =
    let f = w.fronts i in
    let l = ap (λ (xs : List Entry). length xs) f.1 in
    let m = length-append (get_or w.trails i []) f.0 in
    let t = w.walked_to i in
    omega (arith, l, m, t)

more_left : (s : StoryView) (trails : List (List Entry)) (mon : ℕ) (frame : Frame) (rest : List Entry) (place : ℕ) → trail_of s mon ≡ walked trails mon ++ rest → place ≡ length (walked trails mon) → ToSend s trails mon frame rest → place < length (trail_of s mon)
more_left s trails mon frame [] place is at send = absurd (let e = send.is in cc)
more_left s trails mon frame (x ∷ rest) place is at send = let l = ap (λ (xs : List Entry). length xs) is in let k = length-append (walked trails mon) (x ∷ rest) in omega (arith, l, k, at)

-- where a frame of the monitor is the next input, its trail goes on
pub goes_on : (s : StoryView) (places : List ℕ) (events : List Event) (left : List Noted) (mon : ℕ) (frame : Frame) → IsWalking s places events (n.Got (record { 0 = mon }) frame ∷ left) 0 → get_or places (mon - 1) 0 < length (trail_of s mon)
goes_on s places events left mon frame w =
    let m : IsMonitor s.settings mon = record { from_one = w.accepted.0.0; within = w.accepted.0.1 } in
    let f = w.fronts (mon - 1) in
    more_left s w.trails mon frame f.0 (get_or places (mon - 1) 0) f.1 (w.walked_to (mon - 1)) (to_send s places events left mon frame f.0 w m f.1)

-- ---- at the end

-- once no input is left, no monitor is ahead
pub none_ahead : (s : StoryView) (places : List ℕ) (events : List Event) (ahead : ℕ) → IsWalking s places events [] ahead → IsWalking s places events [] 0
none_ahead s places events ahead w = record {
  whole = w.whole;
  journal = w.journal;
  trails = w.trails;
  story = w.story;
  played = w.played;
  accepted = w.accepted;
  fronts = w.fronts;
  runs = w.runs;
  count = w.count;
  walked_to = w.walked_to;
  heard = w.heard;
}

-- one more trail is walked to its end
pub ends_more : (s : StoryView) (places places' : List ℕ) (j : ℕ) → ((i : ℕ) → i < j → get_or places i 0 ≡ length (get_or s.trails i [])) → get_or places' (j + 1 - 1) 0 ≡ length (trail_of s (j + 1))
    → ((i : ℕ) → (i ≡ j + 1 - 1 → ⊥) → get_or places' i 0 ≡ get_or places i 0) → (i : ℕ) → i < j + 1 → get_or places' i 0 ≡ length (get_or s.trails i [])
ends_more s places places' j ends end others i below =
    elim (cases_lt i j) [
      | inl less ↦ others i (λ same. omega (arith, same, less)) ∙ ends i less
      | inr least ↦ subst (λ q. get_or places' q 0 ≡ length (get_or s.trails q [])) (let same : j + 1 - 1 ≡ i = omega (arith, below, least) in same) end
    ]

full : (trail whole rest : List Entry) → whole ≡ trail ++ rest → length trail ≡ length whole → trail ≡ whole
full trail whole [] is same = sym (is ∙ append-nil trail)
full trail whole (x ∷ rest) is same = absurd (let l = ap (λ (xs : List Entry). length xs) is in let m = length-append trail (x ∷ rest) in omega (arith, l, m, same))

all_full : (trails all : List (List Entry)) → length trails ≡ length all → ((i : ℕ) → i < length all → get_or trails i [] ≡ get_or all i []) → trails ≡ all
all_full [] [] same each = refl
all_full [] (whole ∷ all) same each = absurd (omega (arith, same))
all_full (trail ∷ trails) [] same each = absurd (omega (arith, same))
all_full (trail ∷ trails) (whole ∷ all) same each =
    ap (λ xs. xs ∷ trails) (each zero (omega arith)) ∙ ap (λ xss. whole ∷ xss) (all_full trails all (omega (arith, same)) (λ i below. each (suc i) (omega (arith, below))))

pub walked_all : (s : StoryView) (places : List ℕ) (events : List Event) → IsWalking s places events [] 0 → ((i : ℕ) → i < s.settings.monitors → get_or places i 0 ≡ length (get_or s.trails i [])) → RunsBy s events
walked_all s places events w ends =
    let trails : w.trails ≡ s.trails = all_full w.trails s.trails (w.story.count ∙ sym w.whole.count) (λ i below.
    let f = w.fronts i in
    full (get_or w.trails i []) (get_or s.trails i []) f.0 f.1 (sym (w.walked_to i) ∙ ends i (let c = w.whole.count in omega (arith, below, c)))) in
    subst (RunsBy s) (append-nil events) (w.runs [] (sym w.played, trails))

-- ---- one step of the code

pub on_ok : {P Q : Type 0} (r : Result (Unit {0}) NoMemory) → (P → Q) → OnOk r P → OnOk r Q
on_ok (Ok x) step holds = step holds
on_ok (Err e) step holds = tt

pub step_by : (s : StoryView) (places : List ℕ) (events events' : List Event) (left : List Noted) (mon : ℕ) (x : Entry) (step : Event × ℕ × Bool) (place : ℕ) → step ≡ (of_entry mon x, uses x, sends x)
    → events' ≡ events ++ step.0 ∷ [] → place ≡ get_or places (mon - 1) 0 → slice_get (trail_of s mon) place ≡ Some x → IsMonitor s.settings mon → IsWalking s places events left 0 → IsTurnOf mon left
    → IsWalking s (set places (mon - 1) (place + step.1)) events' left (if step.2 then mon else 0)
step_by s places events events' left mon x step place is all at found m w turn =
    let there = step_walks s places events left mon x w turn m (ap (slice_get (trail_of s mon)) (sym at) ∙ found) in
    let one : IsWalking s (set places (mon - 1) (place + uses x)) (events ++ of_entry mon x ∷ []) left (if sends x then mon else 0) =
    subst (λ p. IsWalking s (set places (mon - 1) (p + uses x)) (events ++ of_entry mon x ∷ []) left (if sends x then mon else 0)) (sym at) there in
    let two : IsWalking s (set places (mon - 1) (place + step.1)) (events ++ step.0 ∷ []) left (if step.2 then mon else 0) =
    subst (λ (q : Event × ℕ × Bool). IsWalking s (set places (mon - 1) (place + q.1)) (events ++ q.0 ∷ []) left (if q.2 then mon else 0)) (sym is) one in
    subst (λ es. IsWalking s (set places (mon - 1) (place + step.1)) es left (if step.2 then mon else 0)) (sym all) two

next_of_rest : (xs : List Noted) (i : ℕ) (x : Noted) → i < length xs → x ≡ get_or xs i x → drop i xs ≡ x ∷ drop (suc i) xs
next_of_rest [] i x inside is = absurd (omega (arith, inside))
next_of_rest (y ∷ xs) zero x inside is = ap (λ q. q ∷ xs) (sym is)
next_of_rest (y ∷ xs) (suc i) x inside is = next_of_rest xs i x (omega (arith, inside)) is

-- the inputs that are left at an entry of the journal
pub left_at : (xs : List Noted) (i : ℕ) (x : Noted) → i < length xs → x ≡ get_or xs i x → drop i xs ≡ x ∷ drop (i + 1) xs
left_at xs i x inside is = next_of_rest xs i x inside is ∙ (let up : suc i ≡ i + 1 = omega arith in ap (λ k. x ∷ drop k xs) up)
