-- Each story is reached by happenings.
use Rattle.tk_frames.specs.declared.frame.Frame.TheVariants as f
use Rattle.tk_journal.specs.declared.noted.Noted.TheVariants as n
use Rattle.std.proofs.Common.{◌≡◌, ℕ, suc, zero, ◌+◌, ◌-◌, ◌≤◌, ◌<◌, pos, Bool, true, false, not, List, [], ◌∷◌, ◌++◌, length, take, set, get_or, Option, Some, None, refl, sym, ap, ◌∙◌, subst, arith, append_assoc, append-nil, inl, inr, ◌⊎◌}
use Rattle.std.specs.Prelude.{ℤ, unsigned_abs, slice_get, nat_lt, is_some, filter_map, if◌then◌else◌}
use Rattle.std.specs.List.{cons_option}
use Rattle.std.specs.Option.{option_map}
use Rattle.std.proofs.lemmas.Bool.{eq-eqb, false≢true, ltb-false, not-false}
use Rattle.std.proofs.lemmas.List.{length-append}
use Rattle.std.proofs.lemmas.List.Elements.{filter_map-append}
use Rattle.tk_base.specs.Settings.{Setup}
use Rattle.tk_base.proofs.OptionLemmas.{if_none, number_is}
use Rattle.tk_frames.specs.Assigns.{assign_in}
use Rattle.tk_frames.specs.declared.frame.Frame.{Frame}
use Rattle.tk_journal.specs.Laws.{IsMonitor}
use Rattle.tk_journal.specs.Legal.{AreAccepted, opened, played_from, start, turn_of}
use Rattle.tk_journal.specs.Links.{frames_from, frames_to}
use Rattle.tk_journal.specs.Readings.{assigns_sent, asked_of, is_stopped as is_stopped_journal, last_round, waits_for}
use Rattle.tk_journal.specs.Refusal.{is_awaited, known_by, refusal_of, refusal_of_kind, shown_by, waits_at}
use Rattle.tk_journal.specs.declared.noted.Noted.{Noted}
use Rattle.tk_journal.specs.declared.refusal.CoordRefusal.TheVariants.{AfterStop}
use Rattle.tk_journal.proofs.Appends.{frames_from-append, frames_to-append}
use Rattle.tk_frames.specs.Carried.{tally, is_collect, is_values, seq_in}
use Rattle.tk_journal.proofs.AskedLemmas.{each_collect_is_answered}
use Rattle.tk_story.proofs.JoinLemmas.{Rest, rest_of}
use Rattle.tk_journal.proofs.SentLemmas.{flag}
use Rattle.tk_trail.proofs.PairLemmas.{values_answer_collects}
use Rattle.tk_trail.specs.Setup.{MonitorSetup}
use Rattle.tk_trail.specs.Frames.{answer_at, answer_to, values_at}
use Rattle.tk_trail.specs.Legal.{IsLegal as IsLegalTrail}
use Rattle.tk_trail.specs.Readings.{sent_by, sent_in, seq_of, taken_by, taken_in}
use Rattle.tk_trail.specs.declared.entry.Entry.{Entry}
use Rattle.tk_trail.specs.declared.entry.Entry.TheVariants.{Raised, Took, Sent}
use Rattle.tk_trail.proofs.LawLemmas.{allowed_at, answered_at_once, frames_carry, nothing_after}
use Rattle.tk_trail.proofs.LegalLemmas.{not_refused}
use Rattle.tk_trail.proofs.ReadingsLemmas.{seq_of-assign}
use Rattle.tk_input.specs.declared.event.Event.{Event}
use Rattle.tk_world.specs.Events.{after, begin, next_up, raise_at, check_at, up_at, down_at, retune_at}
use Rattle.tk_story.specs.Story.{IsStory, StoryView, setup_of, trail_of}
use Rattle.tk_story.proofs.QuietLemmas.{start_is_set_up}
use Rattle.tk_journal.proofs.WholeLemmas.{turn_is, begins_beyond, one_if}
use Rattle.tk_world.specs.Order.{entries, events_from, events_of, first_by, first_left, go_by, go_from, left_after, of_entry, toward, trail_next}
use Rattle.tk_world.specs.Runs.{IsDirect, RunsBy, UsesCheck, UsesDown, UsesRaise, UsesTurn, UsesUp, Walks, further, walked, walked_story, wants_answer}
use Rattle.tk_world.proofs.WalkLemmas.{Within, answers_if, Stepped, begins_inputs, begins_within, check_walks, down_walks, raise_walks, retune_walks, runs_there, up_walks}
use Rattle.tk_world.proofs.StepLemmas.{at_end}
use Rattle.tk_world.proofs.ReadLemmas.{direct_of, direct_none_of}

-- ---- what an accepted frame says

accepted_kind : (s : Setup) (j : List Noted) (mon : ℕ) (frame : Frame) → refusal_of s j mon frame ≡ None → refusal_of_kind (shown_by mon j) (known_by s mon j) frame ≡ None
unfolding refusal_of
accepted_kind s j mon frame none = (if_none (is_stopped_journal j) AfterStop (refusal_of_kind (shown_by mon j) (known_by s mon j) frame) none).1

record Carried (mon : ℕ) (j : List Noted) (frame : Frame) : Type 0 where
  seq : ℕ
  is : seq_in frame ≡ Some seq
  most : seq ≤ assigns_sent mon j

kind_carries : (s : Setup) (j : List Noted) (mon : ℕ) (frame : Frame) → refusal_of_kind (shown_by mon j) (known_by s mon j) frame ≡ None → Carried mon j frame
kind_carries s j mon (f.Report seq border failed values) none = record { seq = seq; is = refl; most = ltb-false (assigns_sent mon j) seq (if_none (nat_lt (assigns_sent mon j) seq) _ _ none).0 }
kind_carries s j mon (f.Settled seq last places) none = record { seq = seq; is = refl; most = ltb-false (assigns_sent mon j) seq (if_none (nat_lt (assigns_sent mon j) seq) _ _ none).0 }
kind_carries s j mon (f.Values round seq border values) none = record { seq = seq; is = refl; most = ltb-false (assigns_sent mon j) seq (if_none (nat_lt (assigns_sent mon j) seq) _ _ none).0 }
kind_carries s j mon (f.Hello run version m) none = absurd (cc)
kind_carries s j mon (f.Collect round asked) none = absurd (cc)
kind_carries s j mon (f.Assign seq members changes) none = absurd (cc)
kind_carries s j mon f.Stop none = absurd (cc)

awaits : (b : Bool) (o : Option (ℕ × List ℕ)) (round : ℕ) → is_awaited (if b then o else None) round ≡ true → b ≡ true
awaits true o round is = refl
awaits false o round is = absurd (false≢true is)

values_wait : (s : Setup) (j : List Noted) (mon round seq : ℕ) (border : ℤ) (values : List (ℕ × ℤ)) → refusal_of s j mon (f.Values round seq border values) ≡ None → waits_for (last_round j) mon j ≡ true
values_wait s j mon round seq border values none =
    let kind = accepted_kind s j mon (f.Values round seq border values) none in
    let behind = (if_none (nat_lt (assigns_sent mon j) seq) _ _ kind).1 in
    let waited = not-false (is_awaited (waits_at mon j) round) (if_none (not (is_awaited (waits_at mon j) round)) _ _ behind).0 in
    awaits (waits_for (last_round j) mon j) (option_map (λ asked. (last_round j, asked)) (asked_of (last_round j) mon j)) round waited

-- ---- the walk never meets a frame to take that the walked journal has not sent

record Answer (rest : List Entry) (a frame : Frame) : Type 0 where
  same : frame ≡ a
  tail : List Entry
  is : rest ≡ Sent frame ∷ tail

first_answer : (rest : List Entry) (a frame : Frame) (more : List Frame) → take 1 rest ≡ Sent a ∷ [] → sent_by rest ≡ frame ∷ more → Answer rest a frame
first_answer [] a frame more first sent = absurd (cc)
first_answer (Raised g ∷ rest) a frame more first sent = absurd (cc)
first_answer (Took x ∷ rest) a frame more first sent = absurd (cc)
first_answer (Sent x ∷ rest) a frame more first sent =
    let one : x ≡ a = cc in
    let two : x ≡ frame = cc in
    record { same = sym two ∙ one; tail = rest; is = ap (λ q. Sent q ∷ rest) two }

pub record Stuck (s : StoryView) (journal : List Noted) (trails : List (List Entry)) (mon : ℕ) (frame x : Frame) (rest : List Entry) : Type 0 where
  pub story : IsStory s
  pub within : Within s journal trails
  pub monitor : IsMonitor s.settings mon
  pub none : refusal_of s.settings journal mon frame ≡ None
  pub is : trail_of s mon ≡ walked trails mon ++ Took x ∷ rest
  pub more : List Frame
  pub sent : sent_by rest ≡ frame ∷ more
  pub down : frames_to mon journal ≡ taken_by (walked trails mon)
  pub up : sent_by (walked trails mon) ≡ frames_from mon journal

legal_there : (s : StoryView) (journal : List Noted) (trails : List (List Entry)) (mon : ℕ) (frame x : Frame) (rest : List Entry) → Stuck s journal trails mon frame x rest → IsLegalTrail (setup_of s mon) (walked trails mon ++ Took x ∷ rest)
legal_there s journal trails mon frame x rest h = subst (IsLegalTrail (setup_of s mon)) h.is (h.story.trails_legal mon h.monitor)

sequence_ahead : (s : StoryView) (journal : List Noted) (trails : List (List Entry)) (mon : ℕ) (frame : Frame) (seq : ℕ) (members : List ℕ) (changes : List (ℕ × ℤ)) (rest : List Entry) → Stuck s journal trails mon frame (f.Assign seq members changes) rest → ⊥
unfolding assigns_sent
sequence_ahead s journal trails mon frame seq members changes rest h =
    let x = f.Assign seq members changes in
    let setup = setup_of s mon in
    let trail = walked trails mon in
    let legal = legal_there s journal trails mon frame x rest h in
    let a = first_answer rest (answer_at setup (trail ++ Took x ∷ [])) frame h.more (answered_at_once setup trail rest x (answer_at setup (trail ++ Took x ∷ [])) legal refl) h.sent in
    let legal' : IsLegalTrail setup ((trail ++ Took x ∷ []) ++ Sent frame ∷ a.tail) = subst (IsLegalTrail setup) (ap (λ xs. trail ++ Took x ∷ xs) a.is ∙ sym (append_assoc trail (Took x ∷ []) (Sent frame ∷ a.tail))) legal in
    let c = kind_carries s.settings journal mon frame (accepted_kind s.settings journal mon frame h.none) in
    let number = number_is c.seq (seq_of (trail ++ Took x ∷ [])) (seq_in frame) c.is (frames_carry setup (trail ++ Took x ∷ []) a.tail frame legal') in
    let one = seq_of-assign trail seq members changes in
    let count = ap (λ (xs : List Frame). length (filter_map assign_in xs)) h.down in
    let most = c.most in
    omega (arith, number, one, count, most)

not_asked : (s : StoryView) (journal : List Noted) (trails : List (List Entry)) (mon : ℕ) (frame : Frame) (round : ℕ) (asked : List ℕ) (rest : List Entry) → Stuck s journal trails mon frame (f.Collect round asked) rest → ⊥
unfolding values_at
not_asked s journal trails mon frame round asked rest h =
    let x = f.Collect round asked in
    let setup = setup_of s mon in
    let trail = walked trails mon in
    let taken = trail ++ Took x ∷ [] in
    let legal = legal_there s journal trails mon frame x rest h in
    let a = first_answer rest (values_at setup taken round asked) frame h.more (answered_at_once setup trail rest x (values_at setup taken round asked) legal refl) h.sent in
    let waits = values_wait s.settings journal mon round _ _ _ (ap (refusal_of s.settings journal mon) (sym a.same) ∙ h.none) in
    let one = one_if (waits_for (last_round journal) mon journal) waits in
    let count : tally is_collect (frames_to mon journal) ≡ tally is_values (frames_from mon journal) + flag (waits_for (last_round journal) mon journal) =
    each_collect_is_answered (start s.settings) journal mon (start_is_set_up s h.story) h.within.story.journal_legal h.monitor in
    let pairs = values_answer_collects setup trail (h.within.story.trails_legal mon h.monitor) in
    let d = ap (tally is_collect) h.down in
    let u = ap (tally is_values) h.up in
    omega (arith, one, count, pairs, d, u)

pub never_stuck : (s : StoryView) (journal : List Noted) (trails : List (List Entry)) (mon : ℕ) (frame x : Frame) (rest : List Entry) → Stuck s journal trails mon frame x rest → ⊥
never_stuck s journal trails mon frame (f.Assign seq members changes) rest h = sequence_ahead s journal trails mon frame seq members changes rest h
never_stuck s journal trails mon frame (f.Collect round asked) rest h = not_asked s journal trails mon frame round asked rest h
never_stuck s journal trails mon frame f.Stop rest h =
    let none = nothing_after (setup_of s mon) (walked trails mon) rest (legal_there s journal trails mon frame f.Stop rest h) in
    let e : [] ≡ frame ∷ h.more = sym (ap sent_by none) ∙ h.sent in
    cc
never_stuck s journal trails mon frame (f.Hello run version m) rest h =
    let e = (not_refused (setup_of s mon) (walked trails mon) (f.Hello run version m) (allowed_at (setup_of s mon) (walked trails mon) rest (Took (f.Hello run version m)) (legal_there s journal trails mon frame (f.Hello run version m) rest h)).1).1 in cc
never_stuck s journal trails mon frame (f.Report seq border failed values) rest h =
    let e = (not_refused (setup_of s mon) (walked trails mon) (f.Report seq border failed values) (allowed_at (setup_of s mon) (walked trails mon) rest (Took (f.Report seq border failed values)) (legal_there s journal trails mon frame (f.Report seq border failed values) rest h)).1).1 in cc
never_stuck s journal trails mon frame (f.Values round seq border values) rest h =
    let e = (not_refused (setup_of s mon) (walked trails mon) (f.Values round seq border values) (allowed_at (setup_of s mon) (walked trails mon) rest (Took (f.Values round seq border values)) (legal_there s journal trails mon frame (f.Values round seq border values) rest h)).1).1 in cc
never_stuck s journal trails mon frame (f.Settled seq last places) rest h =
    let e = (not_refused (setup_of s mon) (walked trails mon) (f.Settled seq last places) (allowed_at (setup_of s mon) (walked trails mon) rest (Took (f.Settled seq last places)) (legal_there s journal trails mon frame (f.Settled seq last places) rest h)).1).1 in cc

-- ---- sizes

entries_go : (trails : List (List Entry)) (i : ℕ) (more : List Entry) → i < length trails → entries (set trails i (get_or trails i [] ++ more)) ≡ entries trails + length more
entries_go [] i more inside = absurd (omega arith)
entries_go (trail ∷ trails) zero more inside = let l = length-append trail more in omega (arith, l)
entries_go (trail ∷ trails) (suc i) more inside = let h = entries_go trails i more (omega (arith, inside)) in omega (arith, h)

entries_most : (trails all : List (List Entry)) → length trails ≡ length all → ((i : ℕ) → Rest (get_or trails i []) (get_or all i [])) → entries trails ≤ entries all
entries_most [] all same fronts = omega arith
entries_most (trail ∷ trails) [] same fronts = absurd (cc)
entries_most (trail ∷ trails) (whole ∷ all) same fronts =
    let r = fronts zero in
    let e = ap (λ (xs : List Entry). length xs) r.is in
    let l = length-append trail r.rest in
    let h = entries_most trails all (omega (arith, same)) (λ i. fronts (suc i)) in
    omega (arith, e, l, h)

-- ---- one more

record Onward (s : StoryView) (journal : List Noted) (trails : List (List Entry)) (ins : List Noted) : Type 0 where
  e : Event
  journal' : List Noted
  trails' : List (List Entry)
  step : Stepped s journal trails ins e journal' trails'
  build : (events : List Event) → Walks s journal' trails' events → Walks s journal trails (e ∷ events)
  chosen : toward s (walked_story s journal trails) ins ≡ Some e
  grows : length journal + entries trails < length journal' + entries trails'

abbrev pub Ready : List Noted → List (List Entry) → ℕ → Entry → Type 0
Ready journal trails mon (Raised g) = Unit {0}
Ready journal trails mon (Took frame) = (more : List Frame) × (frames_to mon journal ≡ taken_by (walked trails mon) ++ frame ∷ more)
Ready journal trails mon (Sent frame) = Unit {0}

pub record Split (frame : Frame) (rest : List Entry) : Type 0 where
  pub answer : List Entry
  pub behind : List Entry
  pub is : rest ≡ answer ++ behind
  pub direct : IsDirect (wants_answer frame) answer

split_one : (rest : List Entry) (a : Frame) → take 1 rest ≡ Sent a ∷ [] → Rest (Sent a ∷ []) rest
split_one [] a is = absurd (cc)
split_one (x ∷ rest) a is = let same : x ≡ Sent a = cc in record { rest = rest; is = ap (λ q. q ∷ rest) same }

pub split_answer : (setup : MonitorSetup) (trail : List Entry) (frame : Frame) (rest : List Entry) (own : Option Frame) → answer_to setup (trail ++ Took frame ∷ []) frame ≡ own → is_some own ≡ wants_answer frame → IsLegalTrail setup (trail ++ Took frame ∷ rest) → Split frame rest
split_answer setup trail frame rest None is some legal = record { answer = []; behind = rest; is = refl; direct = direct_none_of (wants_answer frame) some }
split_answer setup trail frame rest (Some a) is some legal =
    let r = split_one rest a (answered_at_once setup trail rest frame a legal is) in
    record { answer = Sent a ∷ []; behind = r.rest; is = r.is; direct = direct_of (wants_answer frame) a some }

inside : (s : StoryView) (journal : List Noted) (trails : List (List Entry)) (mon : ℕ) → Within s journal trails → IsMonitor s.settings mon → mon - 1 < length trails
inside s journal trails mon w m = let a = m.from_one in let b = m.within in let c = w.story.count in omega (arith, a, b, c)

trail_on : (s : StoryView) (journal : List Noted) (trails : List (List Entry)) (mon : ℕ) (x : Entry) (rest : List Entry) → IsStory s → (w : Within s journal trails) → IsMonitor s.settings mon → trail_of s mon ≡ walked trails mon ++ x ∷ rest → toward s (walked_story s journal trails) w.inputs ≡ Some (of_entry mon x) → Ready journal trails mon x → Onward s journal trails w.inputs
trail_on s journal trails mon (Raised g) rest h w m is chosen ready =
    let u : UsesRaise s trails mon g.0 = record { monitor = m; rest = rest; is = is } in
    record {
      e = raise_at mon g.0;
      journal' = journal;
      trails' = further trails mon (Raised g ∷ []);
      step = raise_walks s journal trails mon g.0 h w u;
      chosen = chosen;
      build = λ events all. (u, all);
      grows = let q = entries_go trails (mon - 1) (Raised g ∷ []) (inside s journal trails mon w m) in omega (arith, q);
    }
trail_on s journal trails mon (Sent frame) rest h w m is chosen ready =
    let u : UsesCheck s trails mon frame = record { monitor = m; rest = rest; is = is } in
    record {
      e = check_at mon;
      journal' = journal;
      trails' = further trails mon (Sent frame ∷ []);
      step = check_walks s journal trails mon frame h w u;
      chosen = chosen;
      build = λ events all. (frame, u, all);
      grows = let q = entries_go trails (mon - 1) (Sent frame ∷ []) (inside s journal trails mon w m) in omega (arith, q);
    }
trail_on s journal trails mon (Took frame) rest h w m is chosen ready =
    let setup = setup_of s mon in
    let trail = walked trails mon in
    let a = split_answer setup trail frame rest (answer_to setup (trail ++ Took frame ∷ []) frame) refl (answers_if setup (trail ++ Took frame ∷ []) frame) (subst (IsLegalTrail setup) is (h.trails_legal mon m)) in
    let u : UsesDown s journal trails mon frame a.answer = record { monitor = m; rest = a.behind; is = is ∙ ap (λ xs. trail ++ Took frame ∷ xs) a.is; direct = a.direct; more = ready.0; sent = ready.1 } in
    record {
      e = down_at mon;
      journal' = journal;
      trails' = further trails mon (Took frame ∷ a.answer);
      step = down_walks s journal trails mon frame a.answer h w u;
      chosen = chosen;
      build = λ events all. (frame, a.answer, u, all);
      grows = let q = entries_go trails (mon - 1) (Took frame ∷ a.answer) (inside s journal trails mon w m) in omega (arith, q);
    }

-- what is under way is the next to take
pub heads : (xs ls bs : List Frame) (x y : Frame) → xs ++ x ∷ ls ≡ xs ++ y ∷ bs → x ≡ y
heads [] ls bs x y is = cc
heads (z ∷ xs) ls bs x y is = let e : xs ++ x ∷ ls ≡ xs ++ y ∷ bs = cc in heads xs ls bs x y e

pub taken_next : (s : StoryView) (journal : List Noted) (trails : List (List Entry)) (mon : ℕ) (x : Frame) (rest : List Entry) → IsStory s → IsMonitor s.settings mon → trail_of s mon ≡ walked trails mon ++ Took x ∷ rest
    → (more : List Frame) × (frames_to mon s.journal ≡ taken_by (walked trails mon) ++ x ∷ more)
taken_next s journal trails mon x rest h m is =
    let r = rest_of (taken_by (trail_of s mon)) (frames_to mon s.journal) (h.links mon m).down in (
      taken_by rest ++ r.rest,
      r.is ∙ ap (λ t. taken_by t ++ r.rest) is ∙ ap (λ xs. xs ++ r.rest) (filter_map-append taken_in (walked trails mon) (Took x ∷ rest)) ∙ append_assoc (taken_by (walked trails mon)) (x ∷ taken_by rest) r.rest,
    )

pub ready_by : (s : StoryView) (journal : List Noted) (trails : List (List Entry)) (mon : ℕ) (x : Entry) (rest : List Entry) (y : Frame) (v : List Frame) → IsStory s → Within s journal trails → IsMonitor s.settings mon → trail_of s mon ≡ walked trails mon ++ x ∷ rest
    → frames_to mon journal ≡ taken_by (walked trails mon) ++ y ∷ v → Ready journal trails mon x
ready_by s journal trails mon (Raised g) rest y v h w m is under = tt
ready_by s journal trails mon (Sent frame) rest y v h w m is under = tt
ready_by s journal trails mon (Took frame) rest y v h w m is under =
    let b = begins_beyond s.settings journal w.inputs w.accepted in
    let t = taken_next s journal trails mon frame rest h m is in
    let trail = walked trails mon in
    let all : taken_by trail ++ y ∷ (v ++ frames_to mon b.0) ≡ taken_by trail ++ frame ∷ t.0 =
    sym (append_assoc (taken_by trail) (y ∷ v) (frames_to mon b.0)) ∙ ap (λ xs. xs ++ frames_to mon b.0) (sym under) ∙ sym (frames_to-append mon journal b.0) ∙ ap (frames_to mon) (sym (w.played ∙ b.1)) ∙ t.1 in
    (v, under ∙ ap (λ (q : Frame). taken_by trail ++ q ∷ v) (heads (taken_by trail) (v ++ frames_to mon b.0) t.0 y frame all))

ready_free : (s : StoryView) (journal : List Noted) (trails : List (List Entry)) (mon : ℕ) (x : Entry) → ((q : Frame) → x ≡ Took q → ⊥) → Ready journal trails mon x
ready_free s journal trails mon (Raised g) free = tt
ready_free s journal trails mon (Sent frame) free = tt
ready_free s journal trails mon (Took frame) free = absurd (free frame refl)

trail_move : (s : StoryView) (journal : List Noted) (trails : List (List Entry)) (mon : ℕ) (x : Entry) (rest : List Entry) (v : List Frame) → IsStory s → (w : Within s journal trails) → IsMonitor s.settings mon → trail_of s mon ≡ walked trails mon ++ x ∷ rest → toward s (walked_story s journal trails) w.inputs ≡ Some (of_entry mon x)
    → frames_to mon journal ≡ taken_by (walked trails mon) ++ v → (frames_to mon journal ≡ taken_by (walked trails mon) → (q : Frame) → x ≡ Took q → ⊥) → Onward s journal trails w.inputs
trail_move s journal trails mon x rest [] h w m is chosen under free = trail_on s journal trails mon x rest h w m is chosen (ready_free s journal trails mon x (free (under ∙ append-nil (taken_by (walked trails mon)))))
trail_move s journal trails mon x rest (y ∷ v) h w m is chosen under free = trail_on s journal trails mon x rest h w m is chosen (ready_by s journal trails mon x rest y v h w m is under)

-- ---- at the end of the journal

record Left (trails all : List (List Entry)) : Type 0 where
  i : ℕ
  within : i < length trails
  x : Entry
  rest : List Entry
  is : get_or all i [] ≡ get_or trails i [] ++ x ∷ rest
  first : (mon : ℕ) → first_left mon trails all ≡ Some (of_entry (mon + i) x)

pub at_end_of : (xs rest : List Entry) → slice_get (xs ++ rest) (length xs) ≡ slice_get rest 0
at_end_of [] rest = refl
at_end_of (x ∷ xs) rest = at_end_of xs rest

entry_at : (xs ys rest : List Entry) → ys ≡ xs ++ rest → slice_get ys (length xs) ≡ slice_get rest 0
entry_at xs ys rest is = ap (λ zs. slice_get zs (length xs)) is ∙ at_end_of xs rest

abbrev Ended : List (List Entry) → List (List Entry) → Type 0
Ended trails all = (trails ≡ all) × ((mon : ℕ) → first_left mon trails all ≡ None)

left_first : (trail whole : List Entry) (trails all : List (List Entry)) (rest : List Entry) → whole ≡ trail ++ rest → (Ended trails all ⊎ Left trails all) → Ended (trail ∷ trails) (whole ∷ all) ⊎ Left (trail ∷ trails) (whole ∷ all)
left_first trail whole trails all (x ∷ rest) is more = inr (record {
  i = zero;
  within = omega arith;
  x = x;
  rest = rest;
  is = is;
  first = λ mon. ap (λ o. first_by mon o (first_left (mon + 1) trails all)) (entry_at trail whole (x ∷ rest) is) ∙ ap (λ q. Some (of_entry q x)) (omega arith);
})
left_first trail whole trails all [] is more = elim more [
  | inl same ↦ inl (
    ap (λ q. q ∷ trails) (sym (is ∙ append-nil trail)) ∙ ap (λ qs. whole ∷ qs) same.0,
    λ mon. ap (λ o. first_by mon o (first_left (mon + 1) trails all)) (entry_at trail whole [] is) ∙ same.1 (mon + 1),
  )
  | inr l ↦ inr (record {
    i = suc l.i;
    within = (let b = l.within in omega (arith, b));
    x = l.x;
    rest = l.rest;
    is = l.is;
    first = λ mon. ap (λ o. first_by mon o (first_left (mon + 1) trails all)) (entry_at trail whole [] is) ∙ l.first (mon + 1) ∙ ap (λ q. Some (of_entry q l.x)) (omega arith);
  })
]

left_or_done : (trails all : List (List Entry)) → length trails ≡ length all → ((i : ℕ) → Rest (get_or trails i []) (get_or all i [])) → Ended trails all ⊎ Left trails all
left_or_done [] [] same fronts = inl (refl, λ mon. refl)
left_or_done [] (whole ∷ all) same fronts = absurd (cc)
left_or_done (trail ∷ trails) [] same fronts = absurd (cc)
left_or_done (trail ∷ trails) (whole ∷ all) same fronts = let r = fronts zero in left_first trail whole trails all r.rest r.is (left_or_done trails all (omega (arith, same)) (λ i. fronts (suc i)))

too_long : (xs more : List Frame) (x : Frame) → xs ≡ xs ++ x ∷ more → ⊥
too_long xs more x is = let l = ap (λ (ys : List Frame). length ys) is in let m = length-append xs (x ∷ more) in omega (arith, l, m)

finish : (s : StoryView) (journal : List Noted) (trails : List (List Entry)) → IsStory s → (w : Within s journal trails) → w.inputs ≡ [] → journal ≡ s.journal → Left trails s.trails → Onward s journal trails w.inputs
finish s journal trails h w none same l =
    let mon = l.i + 1 in
    let back : mon - 1 ≡ l.i = omega arith in
    let m : IsMonitor s.settings mon = record { from_one = omega arith; within = (let a = l.within in let c = w.story.count in omega (arith, a, c)) } in
    let is : trail_of s mon ≡ walked trails mon ++ l.x ∷ l.rest = ap (λ q. get_or s.trails q []) back ∙ l.is ∙ ap (λ q. get_or trails q [] ++ l.x ∷ l.rest) (sym back) in
    let under = rest_of (taken_by (walked trails mon)) (frames_to mon journal) (w.story.links mon m).down in
    trail_move s journal trails mon l.x l.rest under.rest h w m is (ap (toward s (walked_story s journal trails)) none ∙ l.first 1 ∙ ap (λ q. Some (of_entry q l.x)) (omega arith)) under.is
    (λ all q took.
    let t = taken_next s journal trails mon q l.rest h m (is ∙ ap (λ (e : Entry). walked trails mon ++ e ∷ l.rest) took) in
    too_long (taken_by (walked trails mon)) t.0 q (sym all ∙ ap (frames_to mon) same ∙ t.1))

-- ---- at an input

pub turn_used : (s : StoryView) (journal : List Noted) (input : Noted) (inputs : List Noted) → s.journal ≡ played_from s.settings journal (input ∷ inputs) → AreAccepted s.settings journal (input ∷ inputs) → (batch : List Noted) × UsesTurn s journal input batch
turn_used s journal input inputs played accepted =
    let t = turn_is s.settings journal input accepted.0 in
    let b = begins_beyond s.settings (journal ++ turn_of s.settings journal input) inputs accepted.1 in (
      t.rest,
      record {
        behind = b.0;
        is = played ∙ b.1 ∙ append_assoc journal (turn_of s.settings journal input) b.0 ∙ ap (λ xs. journal ++ (xs ++ b.0)) t.is;
        none = t.none;
        whole = b.2;
      },
    )

journal_grows : (journal batch : List Noted) (input : Noted) → length journal < length (journal ++ input ∷ batch)
journal_grows journal batch input = let l = length-append journal (input ∷ batch) in omega (arith, l)

pub got_next : (s : StoryView) (journal : List Noted) (mon : ℕ) (frame : Frame) (batch : List Noted) → IsStory s → IsMonitor s.settings mon → UsesTurn s journal (n.Got (record { 0 = mon }) frame) batch → (more : List Frame) × (sent_by (trail_of s mon) ≡ frames_from mon journal ++ frame ∷ more)
got_next s journal mon frame batch h m u =
    let r = rest_of (frames_from mon s.journal) (sent_by (trail_of s mon)) (h.links mon m).up in
    let tail = frames_from mon (batch ++ u.behind) in
    let got : frames_from mon s.journal ≡ frames_from mon journal ++ frame ∷ tail =
    ap (frames_from mon) u.is ∙ frames_from-append mon journal (n.Got (record { 0 = mon }) frame ∷ (batch ++ u.behind)) ∙ ap (λ b. frames_from mon journal ++ cons_option (if b then Some frame else None) tail) (eq-eqb mon mon refl) in
    (tail ++ r.rest, r.is ∙ ap (λ xs. xs ++ r.rest) got ∙ append_assoc (frames_from mon journal) (frame ∷ tail) r.rest)

pub frames_behind : (xs ls bs : List Frame) → xs ++ ls ≡ xs ++ bs → ls ≡ bs
frames_behind [] ls bs is = is
frames_behind (x ∷ xs) ls bs is = let e : xs ++ ls ≡ xs ++ bs = cc in frames_behind xs ls bs e

record AtGot (s : StoryView) (journal : List Noted) (trails : List (List Entry)) (mon : ℕ) (frame : Frame) : Type 0 where
  story : IsStory s
  within : Within s journal trails
  monitor : IsMonitor s.settings mon
  none : refusal_of s.settings journal mon frame ≡ None
  ins : List Noted
  inputs : within.inputs ≡ n.Got (record { 0 = mon }) frame ∷ ins
  batch : List Noted
  turn : UsesTurn s journal (n.Got (record { 0 = mon }) frame) batch

next_none : (xs ys : List Frame) → ys ≡ xs → slice_get ys (length xs) ≡ None
next_none xs ys is = ap (λ zs. slice_get zs (length xs)) (is ∙ sym (append-nil xs)) ∙ at_end xs []

next_some : (xs ys rest : List Frame) (x : Frame) → ys ≡ xs ++ x ∷ rest → slice_get ys (length xs) ≡ Some x
next_some xs ys rest x is = ap (λ zs. slice_get zs (length xs)) is ∙ at_end xs (x ∷ rest)

at_trail : (s : StoryView) (journal : List Noted) (trails : List (List Entry)) (mon : ℕ) (frame : Frame) (more : List Frame) (rest : List Entry) → (h : AtGot s journal trails mon frame) → sent_by (walked trails mon) ≡ frames_from mon journal → trail_of s mon ≡ walked trails mon ++ rest
    → sent_by rest ≡ frame ∷ more → Onward s journal trails h.within.inputs
at_trail s journal trails mon frame more [] h up is sent = absurd (cc)
at_trail s journal trails mon frame more (x ∷ rest) h up is sent =
    let under = rest_of (taken_by (walked trails mon)) (frames_to mon journal) (h.within.story.links mon h.monitor).down in
    let next : next_up (walked_story s journal trails) mon ≡ None = next_none (frames_from mon journal) (sent_by (walked trails mon)) up in
    let chosen : toward s (walked_story s journal trails) h.within.inputs ≡ Some (of_entry mon x) =
    ap (toward s (walked_story s journal trails)) h.inputs
    ∙ ap (λ (o : Option Frame). if is_some o then Some (up_at mon) else trail_next s (walked_story s journal trails) mon) next
    ∙ ap (option_map (of_entry mon)) (entry_at (walked trails mon) (trail_of s mon) (x ∷ rest) is) in
    trail_move s journal trails mon x rest under.rest h.story h.within h.monitor is chosen under.is
    (λ all q took. never_stuck s journal trails mon frame q rest (record {
      story = h.story;
      within = h.within;
      monitor = h.monitor;
      none = h.none;
      is = is ∙ ap (λ (e : Entry). walked trails mon ++ e ∷ rest) took;
      more = more;
      sent = sym (ap (λ (e : Entry). sent_by (e ∷ rest)) took) ∙ sent;
      down = all;
      up = up;
    }))

at_got_by : (s : StoryView) (journal : List Noted) (trails : List (List Entry)) (mon : ℕ) (frame : Frame) (more u : List Frame) (rest : List Entry) → (h : AtGot s journal trails mon frame) → sent_by (walked trails mon) ≡ frames_from mon journal ++ u → trail_of s mon ≡ walked trails mon ++ rest
    → u ++ sent_by rest ≡ frame ∷ more → Onward s journal trails h.within.inputs
at_got_by s journal trails mon frame more [] rest h up is parts = at_trail s journal trails mon frame more rest h (up ∙ append-nil (frames_from mon journal)) is parts
at_got_by s journal trails mon frame more (y ∷ u) rest h up is parts =
    let same : y ≡ frame = cc in
    let used : UsesUp s journal trails mon frame h.batch = record { monitor = h.monitor; turn = h.turn; more = u; sent = up ∙ ap (λ (q : Frame). frames_from mon journal ++ q ∷ u) same } in
    record {
      e = up_at mon;
      journal' = journal ++ n.Got (record { 0 = mon }) frame ∷ h.batch;
      trails' = trails;
      step = up_walks s journal trails mon frame h.batch h.story h.within used;
      chosen = ap (toward s (walked_story s journal trails)) h.inputs
          ∙ ap (λ (o : Option Frame). if is_some o then Some (up_at mon) else trail_next s (walked_story s journal trails) mon) (next_some (frames_from mon journal) (sent_by (walked trails mon)) u y up);
      build = λ events all. (frame, h.batch, used, all);
      grows = let q = journal_grows journal h.batch (n.Got (record { 0 = mon }) frame) in omega (arith, q);
    }

at_got : (s : StoryView) (journal : List Noted) (trails : List (List Entry)) (mon : ℕ) (frame : Frame) (u : List Frame) → (h : AtGot s journal trails mon frame) → sent_by (walked trails mon) ≡ frames_from mon journal ++ u → Onward s journal trails h.within.inputs
at_got s journal trails mon frame u h up =
    let r = h.within.fronts (mon - 1) in
    let g = got_next s journal mon frame h.batch h.story h.monitor h.turn in
    let trail = walked trails mon in
    let both : sent_by (trail_of s mon) ≡ sent_by trail ++ sent_by r.rest = ap sent_by r.is ∙ filter_map-append sent_in trail r.rest in
    let parts : u ++ sent_by r.rest ≡ frame ∷ g.0 = frames_behind (frames_from mon journal) (u ++ sent_by r.rest) (frame ∷ g.0) (sym (append_assoc (frames_from mon journal) u (sent_by r.rest)) ∙ ap (λ xs. xs ++ sent_by r.rest) (sym up) ∙ sym both ∙ g.1) in
    at_got_by s journal trails mon frame g.0 u r.rest h up r.is parts

tuned : (s : StoryView) (journal : List Noted) (trails : List (List Entry)) (k : ℕ) (epsilon : ℤ) (e : ℕ) (batch ins : List Noted) → IsStory s → (w : Within s journal trails) → w.inputs ≡ n.Tuned k epsilon ∷ ins → epsilon ≡ pos e → UsesTurn s journal (n.Tuned k epsilon) batch → Onward s journal trails w.inputs
tuned s journal trails k epsilon e batch ins h w inputs is u =
    let used : UsesTurn s journal (n.Tuned k (pos e)) batch = subst (λ z. UsesTurn s journal (n.Tuned k z) batch) is u in
    record {
      e = retune_at k e;
      journal' = journal ++ n.Tuned k (pos e) ∷ batch;
      trails' = trails;
      step = retune_walks s journal trails k e batch h w used;
      chosen = ap (toward s (walked_story s journal trails)) inputs ∙ ap (λ (z : ℤ). Some (retune_at k (unsigned_abs z))) is;
      build = λ events all. (batch, used, all);
      grows = let q = journal_grows journal batch (n.Tuned k (pos e)) in omega (arith, q);
    }

abbrev Goes : (s : StoryView) (journal : List Noted) (trails : List (List Entry)) → List Noted → Type 0
Goes s journal trails ins = ((journal ≡ s.journal) × (trails ≡ s.trails) × (toward s (walked_story s journal trails) ins ≡ None)) ⊎ Onward s journal trails ins

at_input : (s : StoryView) (journal : List Noted) (trails : List (List Entry)) (inputs : List Noted) → IsStory s → (w : Within s journal trails) → w.inputs ≡ inputs → s.journal ≡ played_from s.settings journal inputs → AreAccepted s.settings journal inputs → Goes s journal trails w.inputs
at_input s journal trails [] h w is played accepted =
    elim (left_or_done trails s.trails (w.story.count ∙ sym h.count) w.fronts) [
      | inl ended ↦ inl (sym played, ended.0, ap (toward s (walked_story s journal trails)) is ∙ ended.1 1)
      | inr l ↦ inr (finish s journal trails h w is (sym played) l)
    ]
at_input s journal trails (n.Got from frame ∷ inputs) h w is played accepted =
    let t = turn_used s journal (n.Got from frame) inputs played accepted in
    let m : IsMonitor s.settings from.0 = record { from_one = accepted.0.0; within = accepted.0.1 } in
    let up = rest_of (frames_from from.0 journal) (sent_by (walked trails from.0)) (w.story.links from.0 m).up in
    inr (at_got s journal trails from.0 frame up.rest (record { story = h; within = w; monitor = m; none = accepted.0.2; ins = inputs; inputs = is; batch = t.0; turn = t.1 }) up.is)
at_input s journal trails (n.Tuned k epsilon ∷ inputs) h w is played accepted =
    let t = turn_used s journal (n.Tuned k epsilon) inputs played accepted in
    inr (tuned s journal trails k epsilon accepted.0.0 t.0 inputs h w is accepted.0.1 t.1)
at_input s journal trails (n.Sent to frame ∷ inputs) h w is played accepted = absurd accepted.0
at_input s journal trails (n.Published publication ∷ inputs) h w is played accepted = absurd accepted.0

size_most : (s : StoryView) (journal : List Noted) (trails : List (List Entry)) → IsStory s → Within s journal trails → length journal + entries trails ≤ length s.journal + entries s.trails
size_most s journal trails h w =
    let b = begins_beyond s.settings journal w.inputs w.accepted in
    let e = ap (λ (xs : List Noted). length xs) (w.played ∙ b.1) in
    let l = length-append journal b.0 in
    let m = entries_most trails s.trails (w.story.count ∙ sym h.count) w.fronts in
    omega (arith, e, l, m)

walk_on : (s : StoryView) → IsStory s → (k : ℕ) (journal : List Noted) (trails : List (List Entry)) → (w : Within s journal trails) → length s.journal + entries s.trails < k + (length journal + entries trails)
    → Walks s journal trails (events_from s k (walked_story s journal trails) w.inputs)
walk_on s h zero journal trails w enough = absurd (let b = size_most s journal trails h w in omega (arith, b, enough))
walk_on s h (suc k) journal trails w enough = elim (at_input s journal trails w.inputs h w refl w.played w.accepted) [
  | inl done ↦ subst (λ o. Walks s journal trails (go_by o (walked_story s journal trails) w.inputs (events_from s k))) (sym done.2) (done.0, done.1)
  | inr o ↦
      let rest = walk_on s h k o.journal' o.trails' o.step.within (let a = o.grows in omega (arith, a, enough)) in
      let there = o.build (events_from s k (walked_story s o.journal' o.trails') o.step.within.inputs) rest in
      let same : go_by (toward s (walked_story s journal trails) w.inputs) (walked_story s journal trails) w.inputs (events_from s k) ≡ o.e ∷ events_from s k (walked_story s o.journal' o.trails') o.step.within.inputs =
      ap (λ c. go_by c (walked_story s journal trails) w.inputs (events_from s k)) o.chosen
      ∙ ap (λ c. o.e ∷ go_from c (left_after w.inputs o.e) (events_from s k)) o.step.next
      ∙ ap (λ ins. o.e ∷ events_from s k (walked_story s o.journal' o.trails') ins) (sym o.step.left) in
      subst (λ events. Walks s journal trails events) (sym same) there
]

pub serialized : (s : StoryView) → IsStory s → RunsBy s (events_of s)
unfolding events_of
serialized s h =
    let first = opened (start s.settings) in
    let empty = Rattle.std.proofs.Common.replicate s.settings.monitors [] in
    let size = length s.journal + entries s.trails + 1 in
    subst (λ ins. Walks s first empty (events_from s size (walked_story s first empty) ins)) (begins_inputs s h) (walk_on s h size first empty (begins_within s h) (omega arith))

pub reached : (s : StoryView) → IsStory s → after (Some (begin s.settings s.logs s.from)) (events_of s) ≡ Some s
reached s h = runs_there s (events_of s) h (serialized s h)
