-- Walking a story by the reader's form is what `next_of` does.
use Rattle.tk_frames.specs.declared.frame.Frame.TheVariants as f
use Rattle.tk_journal.specs.declared.noted.Noted.TheVariants as n
use Rattle.std.proofs.Common.{◌≡◌, ℕ, suc, zero, ◌-◌, ◌<◌, ◌&&◌, pos, Bool, true, false, List, [], ◌∷◌, ◌++◌, length, take, get_or, replicate, Option, Some, None, refl, sym, ap, ◌∙◌, subst, arith, append_assoc, inl, inr}
use Rattle.std.specs.Prelude.{drop, nat_lt, nat_le, is_some, slice_get, if◌then◌else◌}
use Rattle.std.specs.Option.{option_map}
use Rattle.std.proofs.lemmas.Bool.{and_from, cases_eq, false≢true, le-leb, lt-ltb, true≢false}
use Rattle.std.proofs.lemmas.List.{get_or-set_same, get_or-set_other, length-append}
use Rattle.tk_base.specs.Settings.{Setup}
use Rattle.tk_base.specs.declared.ids.Feeder.{Feeder}
use Rattle.tk_frames.specs.declared.frame.Frame.{Frame}
use Rattle.tk_input.specs.Logs.{LogSet}
use Rattle.tk_journal.specs.Laws.{IsMonitor}
use Rattle.tk_journal.specs.Legal.{AreAccepted, IsAccepted, inputs_of, is_input, opened, played_from, start, turn_of}
use Rattle.tk_journal.specs.Links.{frames_from}
use Rattle.tk_journal.specs.Refusal.{retune_refusal_of}
use Rattle.tk_journal.specs.declared.noted.Noted.{Noted}
use Rattle.tk_story.proofs.JoinLemmas.{Rest}
use Rattle.tk_trail.specs.Setup.{MonitorSetup}
use Rattle.tk_trail.specs.Frames.{answer_to, due_at, owed_at}
use Rattle.tk_trail.specs.Legal.{HasNext, IsLegal as IsLegalTrail, after_take, part_length, place_of, to_send, with_answer}
use Rattle.tk_trail.specs.Readings.{taken_by}
use Rattle.tk_trail.specs.declared.entry.Entry.{Entry}
use Rattle.tk_trail.specs.declared.entry.Entry.TheVariants.{Raised, Took, Sent}
use Rattle.tk_trail.proofs.LawLemmas.{allowed_at, answered_at_once}
use Rattle.tk_input.specs.declared.event.Event.{Event}
use Rattle.tk_world.specs.Events.{after, begin, has_next, is_monitor, is_of, moved, next_down, next_of, next_up, with_trail, with_turn, raise_at, check_at, up_at, down_at, retune_at}
use Rattle.tk_input.specs.declared.event.Event.TheVariants.{Raise, Check, Up, Down, Retune}
use Rattle.tk_journal.specs.Whole.{BeginsWithInput}
use Rattle.tk_story.specs.Story.{IsStory, StoryView, setup_of, trail_of}
use Rattle.tk_world.proofs.StepLemmas.{at_end, begin_is_story, next_is_story}
use Rattle.tk_journal.proofs.WholeLemmas.{turn_is, begins_beyond, behind_front}
use Rattle.tk_world.specs.Order.{left_after}
use Rattle.tk_world.specs.Runs.{IsDirect, RunsBy, UsesCheck, UsesDown, UsesRaise, UsesTurn, UsesUp, Walks, further, walked, walked_story, wants_answer}

-- ---- what is walked stands within the story

pub record Within (s : StoryView) (journal : List Noted) (trails : List (List Entry)) : Type 0 where
  pub story : IsStory (walked_story s journal trails)
  pub inputs : List Noted
  pub played : s.journal ≡ played_from s.settings journal inputs
  pub accepted : AreAccepted s.settings journal inputs
  pub fronts : (i : ℕ) → Rest (get_or trails i []) (get_or s.trails i [])

pub record Stepped (s : StoryView) (journal : List Noted) (trails : List (List Entry)) (ins : List Noted) (e : Event) (journal' : List Noted) (trails' : List (List Entry)) : Type 0 where
  pub next : next_of (walked_story s journal trails) e ≡ Some (walked_story s journal' trails')
  pub within : Within s journal' trails'
  pub left : within.inputs ≡ left_after ins e

opens : (t : StoryView) (e : Event) → is_of t e ≡ true → next_of t e ≡ moved t e
unfolding next_of
opens t e is = ap (λ b. if b then moved t e else None) is

of_monitor : (t : StoryView) (mon : ℕ) → IsMonitor t.settings mon → is_monitor t mon ≡ true
of_monitor t mon m = and_from (nat_le 1 mon) (nat_le mon t.settings.monitors) (le-leb 1 mon m.from_one) (le-leb mon t.settings.monitors m.within)

-- a trail is walked further
fronts_go : (s : StoryView) (trails : List (List Entry)) (mon : ℕ) (more rest : List Entry) → mon - 1 < length trails → trail_of s mon ≡ walked trails mon ++ (more ++ rest) → ((i : ℕ) → Rest (get_or trails i []) (get_or s.trails i []))
    → (i : ℕ) → Rest (get_or (further trails mon more) i []) (get_or s.trails i [])
fronts_go s trails mon more rest inside is fronts i = elim (cases_eq i (mon - 1)) [
  | inl same ↦ record {
    rest = rest;
    is = ap (λ q. get_or s.trails q []) same ∙ is ∙ sym (append_assoc (walked trails mon) more rest)
        ∙ ap (λ xs. xs ++ rest) (sym (ap (λ q. get_or (further trails mon more) q []) same ∙ get_or-set_same trails (mon - 1) (walked trails mon ++ more) [] inside));
  }
  | inr apart ↦ subst (λ xs. Rest xs (get_or s.trails i [])) (sym (get_or-set_other trails (mon - 1) i (walked trails mon ++ more) [] apart)) (fronts i)
]

trail_goes : (s : StoryView) (journal : List Noted) (trails : List (List Entry)) (e : Event) (mon : ℕ) (more rest : List Entry) → (w : Within s journal trails) → left_after w.inputs e ≡ w.inputs → IsMonitor s.settings mon → trail_of s mon ≡ walked trails mon ++ (more ++ rest)
    → next_of (walked_story s journal trails) e ≡ Some (walked_story s journal (further trails mon more)) → Stepped s journal trails w.inputs e journal (further trails mon more)
trail_goes s journal trails e mon more rest w keeps m is next = record {
  next = next;
  left = sym keeps;
  within = record {
    story = next_is_story (walked_story s journal trails) (walked_story s journal (further trails mon more)) e w.story next;
    inputs = w.inputs;
    played = w.played;
    accepted = w.accepted;
    fronts = fronts_go s trails mon more rest (let a = m.from_one in let b = m.within in let c = w.story.count in omega (arith, a, b, c)) is w.fronts;
  };
}

-- ---- a raise

has_one : (s : StoryView) (journal : List Noted) (trails : List (List Entry)) (mon g : ℕ) → HasNext (setup_of s mon) (walked trails mon) g → has_next (walked_story s journal trails) mon g ≡ true
has_one s journal trails mon g h =
    let setup = setup_of s mon in
    let trail = walked trails mon in
    and_from (nat_le 1 g && nat_le g (length setup.parts)) (nat_lt (place_of setup trail g) (part_length setup g))
    (and_from (nat_le 1 g) (nat_le g (length setup.parts)) (le-leb 1 g h.from_one) (le-leb g (length setup.parts) h.one_of))
    (lt-ltb (place_of setup trail g) (part_length setup g) h.not_ended)

pub raise_walks : (s : StoryView) (journal : List Noted) (trails : List (List Entry)) (mon g : ℕ) → IsStory s → (w : Within s journal trails) → UsesRaise s trails mon g → Stepped s journal trails w.inputs (raise_at mon g) journal (further trails mon (Raised (record { 0 = g }) ∷ []))
raise_walks s journal trails mon g h w u =
    let t = walked_story s journal trails in
    let feeder : Feeder = record { 0 = g } in
    let legal : IsLegalTrail (setup_of s mon) (walked trails mon ++ Raised feeder ∷ u.rest) = subst (IsLegalTrail (setup_of s mon)) u.is (h.trails_legal mon u.monitor) in
    let has = has_one s journal trails mon g (allowed_at (setup_of s mon) (walked trails mon) u.rest (Raised feeder) legal).2 in
    trail_goes s journal trails (raise_at mon g) mon (Raised feeder ∷ []) u.rest w refl u.monitor u.is
    (opens t (raise_at mon g) (of_monitor t mon u.monitor) ∙ ap (λ b. if b then Some (walked_story s journal (further trails mon (Raised feeder ∷ []))) else None) has)

-- ---- a check

pub check_walks : (s : StoryView) (journal : List Noted) (trails : List (List Entry)) (mon : ℕ) (frame : Frame) → IsStory s → (w : Within s journal trails) → UsesCheck s trails mon frame → Stepped s journal trails w.inputs (check_at mon) journal (further trails mon (Sent frame ∷ []))
check_walks s journal trails mon frame h w u =
    let t = walked_story s journal trails in
    let setup = setup_of s mon in
    let trail = walked trails mon in
    let legal : IsLegalTrail setup (trail ++ Sent frame ∷ u.rest) = subst (IsLegalTrail setup) u.is (h.trails_legal mon u.monitor) in
    let owed : owed_at setup trail ≡ None = (w.story.trails_legal mon u.monitor).answered in
    let due : due_at setup trail ≡ Some frame = ap (to_send setup trail) (sym owed) ∙ (allowed_at setup trail u.rest (Sent frame) legal).1 in
    trail_goes s journal trails (check_at mon) mon (Sent frame ∷ []) u.rest w refl u.monitor u.is
    (opens t (check_at mon) (of_monitor t mon u.monitor) ∙ ap (option_map (λ (x : Frame). walked_story s journal (further trails mon (Sent x ∷ [])))) due)

-- ---- a frame taken, with its answer

pub answers_if : (setup : MonitorSetup) (trail : List Entry) (frame : Frame) → is_some (answer_to setup trail frame) ≡ wants_answer frame
answers_if setup trail (f.Hello run version mon) = refl
answers_if setup trail (f.Report seq border failed values) = refl
answers_if setup trail (f.Collect round asked) = refl
answers_if setup trail (f.Values round seq border values) = refl
answers_if setup trail (f.Assign seq members changes) = refl
answers_if setup trail (f.Settled seq last places) = refl
answers_if setup trail f.Stop = refl

one_front : (a : Entry) (answer rest : List Entry) (g : Frame) → answer ≡ Sent g ∷ [] → take 1 (answer ++ rest) ≡ a ∷ [] → a ≡ Sent g
one_front a answer rest g is first = let e : Sent g ∷ [] ≡ a ∷ [] = sym (ap (λ xs. take 1 (xs ++ rest)) is) ∙ first in cc

direct_is : (setup : MonitorSetup) (trail : List Entry) (frame : Frame) (answer rest : List Entry) (own : Option Frame) (wants : Bool) → answer_to setup (trail ++ Took frame ∷ []) frame ≡ own → is_some own ≡ wants → IsDirect wants answer
    → IsLegalTrail setup (trail ++ Took frame ∷ (answer ++ rest)) → with_answer (trail ++ Took frame ∷ []) own ≡ trail ++ Took frame ∷ answer
direct_is setup trail frame answer rest None false is some none legal = ap (λ xs. trail ++ Took frame ∷ xs) (sym none)
direct_is setup trail frame answer rest None true is some none legal = absurd (false≢true some)
direct_is setup trail frame answer rest (Some a) false is some one legal = absurd (true≢false some)
direct_is setup trail frame answer rest (Some a) true is some one legal =
    let first = answered_at_once setup trail (answer ++ rest) frame a legal is in
    let same : Sent a ≡ Sent one.0 = one_front (Sent a) answer rest one.0 one.1 first in
    append_assoc trail (Took frame ∷ []) (Sent a ∷ []) ∙ ap (λ (x : Entry). trail ++ Took frame ∷ x ∷ []) same ∙ ap (λ xs. trail ++ Took frame ∷ xs) (sym one.1)

pub down_walks : (s : StoryView) (journal : List Noted) (trails : List (List Entry)) (mon : ℕ) (frame : Frame) (answer : List Entry) → IsStory s → (w : Within s journal trails) → UsesDown s journal trails mon frame answer
    → Stepped s journal trails w.inputs (down_at mon) journal (further trails mon (Took frame ∷ answer))
down_walks s journal trails mon frame answer h w u =
    let t = walked_story s journal trails in
    let setup = setup_of s mon in
    let trail = walked trails mon in
    let legal : IsLegalTrail setup (trail ++ Took frame ∷ (answer ++ u.rest)) = subst (IsLegalTrail setup) u.is (h.trails_legal mon u.monitor) in
    let taken = trail ++ Took frame ∷ [] in
    let whole : after_take setup trail frame ≡ trail ++ Took frame ∷ answer = direct_is setup trail frame answer u.rest (answer_to setup taken frame) (wants_answer frame) refl (answers_if setup taken frame) u.direct legal in
    let next : next_down t mon ≡ Some frame = ap (λ zs. slice_get zs (length (taken_by trail))) u.sent ∙ at_end (taken_by trail) (frame ∷ u.more) in
    trail_goes s journal trails (down_at mon) mon (Took frame ∷ answer) u.rest w refl u.monitor u.is
    (opens t (down_at mon) (of_monitor t mon u.monitor) ∙ ap (option_map (λ (x : Frame). with_trail t mon (after_take setup trail x))) next ∙ ap (λ xs. Some (with_trail t mon xs)) whole)

-- ---- a turn

first_kind : (x : Noted) (xs : List Noted) → inputs_of (x ∷ xs) ≡ [] → (is_input x ≡ false) × (inputs_of xs ≡ [])
first_kind (n.Got from frame) xs none = absurd (cc)
first_kind (n.Sent to frame) xs none = (refl, none)
first_kind (n.Published publication) xs none = (refl, none)
first_kind (n.Tuned k epsilon) xs none = absurd (cc)

no_front : (x : Noted) (xs b : List Noted) → is_input x ≡ false → BeginsWithInput b → b ≡ x ∷ xs → ⊥
no_front x xs [] none whole is = absurd (cc)
no_front x xs (y ∷ b) none whole is = let same : y ≡ x = cc in true≢false (sym whole ∙ ap is_input same ∙ none)

same_batch : (xs ys a b : List Noted) → inputs_of xs ≡ [] → inputs_of ys ≡ [] → BeginsWithInput a → BeginsWithInput b → xs ++ a ≡ ys ++ b → xs ≡ ys
same_batch [] [] a b x y begins_a begins_b is = refl
same_batch [] (y ∷ ys) a b x none begins_a begins_b is =
    absurd (no_front y (ys ++ b) a (first_kind y ys none).0 begins_a is)
same_batch (x ∷ xs) [] a b none y begins_a begins_b is =
    absurd (no_front x (xs ++ a) b (first_kind x xs none).0 begins_b (sym is))
same_batch (x ∷ xs) (y ∷ ys) a b none_x none_y begins_a begins_b is =
    let head : x ≡ y = cc in
    let tail : xs ++ a ≡ ys ++ b = cc in
    ap (λ q. q ∷ xs) head ∙ ap (λ qs. y ∷ qs) (same_batch xs ys a b (first_kind x xs none_x).1 (first_kind y ys none_y).1 begins_a begins_b tail)

pub record TurnIs (s : StoryView) (journal : List Noted) (ins : List Noted) (input : Noted) (batch : List Noted) : Type 0 where
  pub inputs : List Noted
  pub left : inputs ≡ drop 1 ins
  pub accepted : IsAccepted s.settings journal input
  pub turn : turn_of s.settings journal input ≡ input ∷ batch
  pub played : s.journal ≡ played_from s.settings (journal ++ input ∷ batch) inputs
  pub rest : AreAccepted s.settings (journal ++ input ∷ batch) inputs

turn_from : (s : StoryView) (journal : List Noted) (input : Noted) (batch : List Noted) (inputs : List Noted) → s.journal ≡ played_from s.settings journal inputs → AreAccepted s.settings journal inputs → UsesTurn s journal input batch → TurnIs s journal inputs input batch
turn_from s journal input batch [] played accepted u = absurd (let l = ap (λ (xs : List Noted). length xs) (sym played ∙ u.is) in let m = length-append journal (input ∷ (batch ++ u.behind)) in omega (arith, l, m))
turn_from s journal input batch (i ∷ ins) played accepted u =
    let t = turn_is s.settings journal i accepted.0 in
    let b = begins_beyond s.settings (journal ++ turn_of s.settings journal i) ins accepted.1 in
    let all : journal ++ i ∷ (t.rest ++ b.0) ≡ journal ++ input ∷ (batch ++ u.behind) =
    sym (played ∙ b.1 ∙ append_assoc journal (turn_of s.settings journal i) b.0 ∙ ap (λ xs. journal ++ (xs ++ b.0)) t.is) ∙ u.is in
    let parts : i ∷ (t.rest ++ b.0) ≡ input ∷ (batch ++ u.behind) = behind_front journal (i ∷ (t.rest ++ b.0)) (input ∷ (batch ++ u.behind)) all in
    let head : i ≡ input = cc in
    let tail : t.rest ++ b.0 ≡ batch ++ u.behind = cc in
    let same : t.rest ≡ batch = same_batch t.rest batch b.0 u.behind t.none u.none b.2 u.whole tail in
    let turn : turn_of s.settings journal i ≡ input ∷ batch = t.is ∙ ap (λ x. x ∷ t.rest) head ∙ ap (λ xs. input ∷ xs) same in
    record {
      inputs = ins;
      left = refl;
      accepted = subst (IsAccepted s.settings journal) head accepted.0;
      turn = ap (turn_of s.settings journal) (sym head) ∙ turn;
      played = played ∙ ap (λ xs. played_from s.settings (journal ++ xs) ins) turn;
      rest = subst (λ xs. AreAccepted s.settings (journal ++ xs) ins) turn accepted.1;
    }

turn_goes : (s : StoryView) (journal : List Noted) (trails : List (List Entry)) (e : Event) (input : Noted) (batch : List Noted) → (w : Within s journal trails) → left_after w.inputs e ≡ drop 1 w.inputs → TurnIs s journal w.inputs input batch
    → next_of (walked_story s journal trails) e ≡ Some (with_turn (walked_story s journal trails) input) → Stepped s journal trails w.inputs e (journal ++ input ∷ batch) trails
turn_goes s journal trails e input batch w ends t is =
    let next : next_of (walked_story s journal trails) e ≡ Some (walked_story s (journal ++ input ∷ batch) trails) = is ∙ ap (λ xs. Some (walked_story s (journal ++ xs) trails)) t.turn in
    record {
      next = next;
      left = t.left ∙ sym ends;
      within = record {
        story = next_is_story (walked_story s journal trails) (walked_story s (journal ++ input ∷ batch) trails) e w.story next;
        inputs = t.inputs;
        played = t.played;
        accepted = t.rest;
        fronts = w.fronts;
      };
    }

pub up_walks : (s : StoryView) (journal : List Noted) (trails : List (List Entry)) (mon : ℕ) (frame : Frame) (batch : List Noted) → IsStory s → (w : Within s journal trails) → UsesUp s journal trails mon frame batch
    → Stepped s journal trails w.inputs (up_at mon) (journal ++ n.Got (record { 0 = mon }) frame ∷ batch) trails
up_walks s journal trails mon frame batch h w u =
    let t = walked_story s journal trails in
    let next : next_up t mon ≡ Some frame = ap (λ zs. slice_get zs (length (frames_from mon journal))) u.sent ∙ at_end (frames_from mon journal) (frame ∷ u.more) in
    turn_goes s journal trails (up_at mon) (n.Got (record { 0 = mon }) frame) batch w refl (turn_from s journal (n.Got (record { 0 = mon }) frame) batch w.inputs w.played w.accepted u.turn)
    (opens t (up_at mon) (of_monitor t mon u.monitor) ∙ ap (option_map (λ (x : Frame). with_turn t (n.Got (record { 0 = mon }) x))) next)

tuned_none : (s : StoryView) (journal : List Noted) (k e : ℕ) → IsAccepted s.settings journal (n.Tuned k (pos e)) → retune_refusal_of s.settings journal k e ≡ None
tuned_none s journal k e (own, same, none) = let is : own ≡ e = cc in ap (retune_refusal_of s.settings journal k) (sym is) ∙ none

pub retune_walks : (s : StoryView) (journal : List Noted) (trails : List (List Entry)) (k e : ℕ) (batch : List Noted) → IsStory s → (w : Within s journal trails) → UsesTurn s journal (n.Tuned k (pos e)) batch
    → Stepped s journal trails w.inputs (retune_at k e) (journal ++ n.Tuned k (pos e) ∷ batch) trails
retune_walks s journal trails k e batch h w u =
    let t = walked_story s journal trails in
    let is = turn_from s journal (n.Tuned k (pos e)) batch w.inputs w.played w.accepted u in
    turn_goes s journal trails (retune_at k e) (n.Tuned k (pos e)) batch w refl is
    (opens t (retune_at k e) refl ∙ ap (λ (r : Option Rattle.tk_journal.specs.declared.refusal.RetuneRefusal.RetuneRefusal). if is_some r then None else Some (with_turn t (n.Tuned k (pos e)))) (tuned_none s journal k e is.accepted))

-- ---- a run

stepped_after : (s : StoryView) (journal journal' : List Noted) (trails trails' : List (List Entry)) (ins : List Noted) (e : Event) (events : List Event) → Stepped s journal trails ins e journal' trails' → after (Some (walked_story s journal' trails')) events ≡ Some s
    → after (Some (walked_story s journal trails)) (e ∷ events) ≡ Some s
stepped_after s journal journal' trails trails' ins e events step rest = ap (λ o. after o events) step.next ∙ rest

pub walk_runs : (s : StoryView) (journal : List Noted) (trails : List (List Entry)) (events : List Event) → IsStory s → Within s journal trails → Walks s journal trails events → after (Some (walked_story s journal trails)) events ≡ Some s
walk_runs s journal trails [] h w all = ap (λ j. Some (walked_story s j trails)) all.0 ∙ ap (λ ts. Some (walked_story s s.journal ts)) all.1
walk_runs s journal trails (Raise mon g ∷ events) h w all =
    let x = raise_walks s journal trails mon.0 g.0 h w all.0 in
    stepped_after s journal journal trails (further trails mon.0 (Raised (record { 0 = g.0 }) ∷ [])) w.inputs (Raise mon g) events x (walk_runs s journal (further trails mon.0 (Raised (record { 0 = g.0 }) ∷ [])) events h x.within all.1)
walk_runs s journal trails (Check mon ∷ events) h w all =
    let x = check_walks s journal trails mon.0 all.0 h w all.1 in
    stepped_after s journal journal trails (further trails mon.0 (Sent all.0 ∷ [])) w.inputs (Check mon) events x (walk_runs s journal (further trails mon.0 (Sent all.0 ∷ [])) events h x.within all.2)
walk_runs s journal trails (Down mon ∷ events) h w all =
    let x = down_walks s journal trails mon.0 all.0 all.1 h w all.2 in
    stepped_after s journal journal trails (further trails mon.0 (Took all.0 ∷ all.1)) w.inputs (Down mon) events x (walk_runs s journal (further trails mon.0 (Took all.0 ∷ all.1)) events h x.within all.3)
walk_runs s journal trails (Up mon ∷ events) h w all =
    let x = up_walks s journal trails mon.0 all.0 all.1 h w all.2 in
    stepped_after s journal (journal ++ n.Got (record { 0 = mon.0 }) all.0 ∷ all.1) trails trails w.inputs (Up mon) events x (walk_runs s (journal ++ n.Got (record { 0 = mon.0 }) all.0 ∷ all.1) trails events h x.within all.3)
walk_runs s journal trails (Retune tuning ∷ events) h w all =
    let x = retune_walks s journal trails tuning.k tuning.epsilon all.0 h w all.1 in
    stepped_after s journal (journal ++ n.Tuned tuning.k (pos tuning.epsilon) ∷ all.0) trails trails w.inputs (Retune tuning) events x (walk_runs s (journal ++ n.Tuned tuning.k (pos tuning.epsilon) ∷ all.0) trails events h x.within all.2)

-- ---- from the beginning

empty_front : (k i : ℕ) (ys : List Entry) → Rest (get_or (replicate k []) i []) ys
empty_front zero i ys = record { rest = ys; is = refl }
empty_front (suc k) zero ys = record { rest = ys; is = refl }
empty_front (suc k) (suc i) ys = empty_front k i ys

pub begins_within : (s : StoryView) → IsStory s → Within s (opened (start s.settings)) (replicate s.settings.monitors [])
begins_within s h = record {
  story = begin_is_story s.settings s.logs s.from h.limits h.logs h.objects h.monitors h.starts;
  inputs = inputs_of s.journal;
  played = h.journal_legal.played;
  accepted = h.journal_legal.accepted;
  fronts = λ i. empty_front s.settings.monitors i (get_or s.trails i []);
}

pub begins_inputs : (s : StoryView) (h : IsStory s) → (begins_within s h).inputs ≡ inputs_of s.journal
unfolding begins_within
begins_inputs s h = refl

pub runs_there : (s : StoryView) (events : List Event) → IsStory s → RunsBy s events → after (Some (begin s.settings s.logs s.from)) events ≡ Some s
runs_there s events h runs = walk_runs s (opened (start s.settings)) (replicate s.settings.monitors []) events h (begins_within s h) runs

one_reached : (b s t : StoryView) (events : List Event) → after (Some b) events ≡ Some s → after (Some b) events ≡ Some t → s ≡ t
one_reached b s t events x y = let e : Some s ≡ Some t = sym x ∙ y in cc

pub stands_alone : (s t : StoryView) (events : List Event) → IsStory s → IsStory t → s.settings ≡ t.settings → s.logs ≡ t.logs → s.from ≡ t.from → RunsBy s events → RunsBy t events → s ≡ t
stands_alone s t events h i settings logs from x y =
    let same : begin t.settings t.logs t.from ≡ begin s.settings s.logs s.from =
    ap (λ (q : Setup). begin q t.logs t.from) (sym settings) ∙ ap (λ (q : LogSet). begin s.settings q t.from) (sym logs) ∙ ap (λ (q : List (List ℕ)). begin s.settings s.logs q) (sym from) in
    one_reached (begin s.settings s.logs s.from) s t events (runs_there s events h x) (ap (λ b. after (Some b) events) (sym same) ∙ runs_there t events i y)
