-- What leads to a story by `next_of` runs it by the reader's form.
use Rattle.tk_journal.specs.declared.noted.Noted.TheVariants as n
use Rattle.std.proofs.Common.{◌≡◌, ℕ, ◌-◌, ◌<◌, pos, Bool, true, false, List, [], ◌∷◌, ◌++◌, length, get_or, Option, Some, None, refl, sym, ap, ◌∙◌, subst, arith, append_assoc, append-nil, inl, inr}
use Rattle.std.specs.Prelude.{is_some, replicate, if◌then◌else◌}
use Rattle.std.proofs.lemmas.Bool.{cases_eq, false≢true, true≢false}
use Rattle.std.proofs.lemmas.List.{get_or-set_same, get_or-set_other}
use Rattle.tk_base.specs.declared.ids.Feeder.{Feeder}
use Rattle.tk_frames.specs.declared.frame.Frame.{Frame}
use Rattle.tk_journal.specs.Laws.{IsMonitor}
use Rattle.tk_journal.specs.Legal.{opened, start}
use Rattle.tk_journal.specs.Links.{frames_from, frames_to}
use Rattle.tk_journal.specs.Refusal.{retune_refusal_of}
use Rattle.tk_journal.specs.declared.noted.Noted.{Noted}
use Rattle.tk_story.proofs.JoinLemmas.{Rest}
use Rattle.tk_trail.specs.Setup.{MonitorSetup}
use Rattle.tk_trail.specs.Frames.{answer_to, due_at}
use Rattle.tk_trail.specs.Legal.{after_take, with_answer}
use Rattle.tk_trail.specs.Readings.{sent_by, taken_by}
use Rattle.tk_trail.specs.declared.entry.Entry.{Entry}
use Rattle.tk_trail.specs.declared.entry.Entry.TheVariants.{Raised, Took, Sent}
use Rattle.tk_input.specs.declared.event.Event.{Event}
use Rattle.tk_world.specs.Events.{after, begin, has_next, is_of, moved, next_down, next_of, next_up, with_trail, with_turn}
use Rattle.tk_input.specs.declared.event.Event.TheVariants.{Raise, Check, Up, Down, Retune}
use Rattle.tk_journal.specs.Whole.{BeginsWithInput}
use Rattle.tk_story.specs.Story.{IsStory, StoryView, setup_of, trail_of}
use Rattle.tk_story.proofs.QuietLemmas.{joined, setup_is}
use Rattle.tk_world.proofs.StepLemmas.{begin_is_story, next_is, next_is_story, if_some, if_none, mapped_some, monitor_is}
use Rattle.tk_journal.proofs.WholeLemmas.{Turn, turn_is}
use Rattle.tk_story.proofs.UpLemmas.{up_is_taken}
use Rattle.tk_world.specs.Runs.{IsDirect, RunsBy, UsesTurn, Walks, further, walked, walked_story, wants_answer}
use Rattle.tk_world.proofs.WalkLemmas.{answers_if}
use Rattle.tk_input.proofs.CountLemmas.{not_some}

record Back (s : StoryView) (journal : List Noted) (trails : List (List Entry)) (events : List Event) : Type 0 where
  walks : Walks s journal trails events
  behind : List Noted
  journal_is : s.journal ≡ journal ++ behind
  whole : BeginsWithInput behind
  fronts : (i : ℕ) → Rest (get_or trails i []) (get_or s.trails i [])

-- ---- what a step was

record Made (t s : StoryView) (e : Event) (events : List Event) : Type 0 where
  u : StoryView
  next : next_of t e ≡ Some u
  of : is_of t e ≡ true
  moves : moved t e ≡ Some u
  rest : after (Some u) events ≡ Some s

made_of : (b : Bool) (o : Option StoryView) (u : StoryView) → (if b then o else None) ≡ Some u → (b ≡ true) × (o ≡ Some u)
made_of true o u is = (refl, is)
made_of false o u is = absurd (cc)

made_by : (t s : StoryView) (e : Event) (events : List Event) (o : Option StoryView) → next_of t e ≡ o → after o events ≡ Some s → Made t s e events
unfolding next_of
made_by t s e events None is rest = absurd (cc)
made_by t s e events (Some u) is rest = let g = made_of (is_of t e) (moved t e) u is in record { u = u; next = is; of = g.0; moves = g.1; rest = rest }

made : (t s : StoryView) (e : Event) (events : List Event) → after (Some t) (e ∷ events) ≡ Some s → Made t s e events
made t s e events is = made_by t s e events (next_of t e) refl is

-- ---- fronts of what was walked

inside_of : (s : StoryView) (journal : List Noted) (trails : List (List Entry)) (mon : ℕ) → IsStory (walked_story s journal trails) → IsMonitor s.settings mon → mon - 1 < length trails
inside_of s journal trails mon h m = let a = m.from_one in let b = m.within in let c = h.count in omega (arith, a, b, c)

here_of : (s : StoryView) (trails : List (List Entry)) (mon : ℕ) (more : List Entry) → mon - 1 < length trails → Rest (get_or (further trails mon more) (mon - 1) []) (get_or s.trails (mon - 1) []) → (rest : List Entry) × (trail_of s mon ≡ walked trails mon ++ (more ++ rest))
here_of s trails mon more inside r = (r.rest, r.is ∙ ap (λ xs. xs ++ r.rest) (get_or-set_same trails (mon - 1) (walked trails mon ++ more) [] inside) ∙ append_assoc (walked trails mon) more r.rest)

fronts_of : (s : StoryView) (trails : List (List Entry)) (mon : ℕ) (more : List Entry) → mon - 1 < length trails → ((i : ℕ) → Rest (get_or (further trails mon more) i []) (get_or s.trails i [])) → (i : ℕ) → Rest (get_or trails i []) (get_or s.trails i [])
fronts_of s trails mon more inside fronts i = elim (cases_eq i (mon - 1)) [
  | inl same ↦
      let x = here_of s trails mon more inside (fronts (mon - 1)) in
      subst (λ q. Rest (get_or trails q []) (get_or s.trails q [])) (sym same) (record { rest = more ++ x.0; is = x.1 })
  | inr apart ↦ subst (λ xs. Rest xs (get_or s.trails i [])) (get_or-set_other trails (mon - 1) i (walked trails mon ++ more) [] apart) (fronts i)
]

trail_back : (s : StoryView) (journal : List Noted) (trails : List (List Entry)) (mon : ℕ) (more : List Entry) (e : Event) (events : List Event) → mon - 1 < length trails → Back s journal (further trails mon more) events
    → ((rest : List Entry) → trail_of s mon ≡ walked trails mon ++ (more ++ rest) → Walks s journal (further trails mon more) events → Walks s journal trails (e ∷ events)) → Back s journal trails (e ∷ events)
trail_back s journal trails mon more e events inside b build =
    let x = here_of s trails mon more inside (b.fronts (mon - 1)) in
    record {
      walks = build x.0 x.1 b.walks;
      behind = b.behind;
      journal_is = b.journal_is;
      whole = b.whole;
      fronts = fronts_of s trails mon more inside b.fronts;
    }

turn_back : (s : StoryView) (journal : List Noted) (trails : List (List Entry)) (input : Noted) (e : Event) (events : List Event) → (t : Turn s.settings journal input) → Back s (journal ++ input ∷ t.rest) trails events
    → (UsesTurn s journal input t.rest → Walks s (journal ++ input ∷ t.rest) trails events → Walks s journal trails (e ∷ events)) → BeginsWithInput (input ∷ t.rest ++ []) → Back s journal trails (e ∷ events)
turn_back s journal trails input e events t b build kind =
    let is = b.journal_is ∙ append_assoc journal (input ∷ t.rest) b.behind in
    record {
      walks = build (record { behind = b.behind; is = is; none = t.none; whole = b.whole }) b.walks;
      behind = input ∷ (t.rest ++ b.behind);
      journal_is = is;
      whole = t.kind;
      fronts = b.fronts;
    }

-- ---- a frame taken

record Taken (setup : MonitorSetup) (trail : List Entry) (frame : Frame) : Type 0 where
  answer : List Entry
  direct : IsDirect (wants_answer frame) answer
  is : after_take setup trail frame ≡ trail ++ Took frame ∷ answer

pub direct_of : (wants : Bool) (a : Frame) → true ≡ wants → IsDirect wants (Sent a ∷ [])
direct_of true a is = (a, refl)
direct_of false a is = absurd (true≢false is)

pub direct_none_of : (wants : Bool) → false ≡ wants → IsDirect wants []
direct_none_of true is = absurd (false≢true is)
direct_none_of false is = refl

taken_by_own : (setup : MonitorSetup) (trail : List Entry) (frame : Frame) (own : Option Frame) → answer_to setup (trail ++ Took frame ∷ []) frame ≡ own → is_some own ≡ wants_answer frame → Taken setup trail frame
taken_by_own setup trail frame None is some = record { answer = []; direct = direct_none_of (wants_answer frame) some; is = ap (with_answer (trail ++ Took frame ∷ [])) is }
taken_by_own setup trail frame (Some a) is some = record {
  answer = Sent a ∷ [];
  direct = direct_of (wants_answer frame) a some;
  is = ap (with_answer (trail ++ Took frame ∷ [])) is ∙ append_assoc trail (Took frame ∷ []) (Sent a ∷ []);
}

-- ---- a run

reads_back : (s : StoryView) (journal : List Noted) (trails : List (List Entry)) (events : List Event) → IsStory (walked_story s journal trails) → after (Some (walked_story s journal trails)) events ≡ Some s → Back s journal trails events
reads_back s journal trails [] h is =
    let same : walked_story s journal trails ≡ s = cc in
    let js : journal ≡ s.journal = ap (λ (q : StoryView). q.journal) same in
    let ts : trails ≡ s.trails = ap (λ (q : StoryView). q.trails) same in
    record { walks = (js, ts); behind = []; journal_is = sym js ∙ sym (append-nil journal); whole = tt; fronts = λ i. record { rest = []; is = ap (λ xs. get_or xs i []) (sym ts) ∙ sym (append-nil (get_or trails i [])) } }
reads_back s journal trails (Raise mon g ∷ events) h is =
    let t = walked_story s journal trails in
    let m = made t s (Raise mon g) events is in
    let feeder : Feeder = record { 0 = g.0 } in
    let r = monitor_is t mon.0 m.of in
    let to = further trails mon.0 (Raised feeder ∷ []) in
    let x = if_some (has_next t mon.0 g.0) (walked_story s journal to) m.u m.moves in
    let b = reads_back s journal to events (subst IsStory (sym x.1) (next_is_story t m.u (Raise mon g) h m.next)) (ap (λ q. after (Some q) events) x.1 ∙ m.rest) in
    trail_back s journal trails mon.0 (Raised feeder ∷ []) (Raise mon g) events (inside_of s journal trails mon.0 h r) b (λ rest at all. (record { monitor = r; rest = rest; is = at }, all))
reads_back s journal trails (Check mon ∷ events) h is =
    let t = walked_story s journal trails in
    let m = made t s (Check mon) events is in
    let r = monitor_is t mon.0 m.of in
    let x = mapped_some (λ (frame : Frame). walked_story s journal (further trails mon.0 (Sent frame ∷ []))) (due_at (setup_of s mon.0) (walked trails mon.0)) m.u m.moves in
    let to = further trails mon.0 (Sent x.0 ∷ []) in
    let b = reads_back s journal to events (subst IsStory (sym x.2) (next_is_story t m.u (Check mon) h m.next)) (ap (λ q. after (Some q) events) x.2 ∙ m.rest) in
    trail_back s journal trails mon.0 (Sent x.0 ∷ []) (Check mon) events (inside_of s journal trails mon.0 h r) b (λ rest at all. (x.0, record { monitor = r; rest = rest; is = at }, all))
reads_back s journal trails (Down mon ∷ events) h is =
    let t = walked_story s journal trails in
    let setup = setup_of s mon.0 in
    let trail = walked trails mon.0 in
    let m = made t s (Down mon) events is in
    let r = monitor_is t mon.0 m.of in
    let x = mapped_some (λ (frame : Frame). with_trail t mon.0 (after_take setup trail frame)) (next_down t mon.0) m.u m.moves in
    let a = taken_by_own setup trail x.0 (answer_to setup (trail ++ Took x.0 ∷ []) x.0) refl (answers_if setup (trail ++ Took x.0 ∷ []) x.0) in
    let to = further trails mon.0 (Took x.0 ∷ a.answer) in
    let e : walked_story s journal to ≡ m.u = ap (with_trail t mon.0) (sym a.is) ∙ x.2 in
    let g = next_is (taken_by trail) (frames_to mon.0 journal) x.0 (h.links mon.0 r).down x.1 in
    let b = reads_back s journal to events (subst IsStory (sym e) (next_is_story t m.u (Down mon) h m.next)) (ap (λ q. after (Some q) events) e ∙ m.rest) in
    trail_back s journal trails mon.0 (Took x.0 ∷ a.answer) (Down mon) events (inside_of s journal trails mon.0 h r) b (λ rest at all. (x.0, a.answer, record { monitor = r; rest = rest; is = at; direct = a.direct; more = g.rest; sent = g.is }, all))
reads_back s journal trails (Up mon ∷ events) h is =
    let t = walked_story s journal trails in
    let m = made t s (Up mon) events is in
    let r = monitor_is t mon.0 m.of in
    let x = mapped_some (λ (frame : Frame). with_turn t (n.Got (record { 0 = mon.0 }) frame)) (next_up t mon.0) m.u m.moves in
    let input = n.Got (record { 0 = mon.0 }) x.0 in
    let g = next_is (frames_from mon.0 journal) (sent_by (walked trails mon.0)) x.0 (h.links mon.0 r).up x.1 in
    let none = up_is_taken (start s.settings) journal mon.0 (setup_of s mon.0) (walked trails mon.0) x.0 g.rest (joined t h mon.0 r) (setup_is t h mon.0 r) refl g.is in
    let turn = turn_is s.settings journal input (r.from_one, r.within, none) in
    let e : walked_story s (journal ++ input ∷ turn.rest) trails ≡ m.u = ap (λ xs. walked_story s (journal ++ xs) trails) (sym turn.is) ∙ x.2 in
    let b = reads_back s (journal ++ input ∷ turn.rest) trails events (subst IsStory (sym e) (next_is_story t m.u (Up mon) h m.next)) (ap (λ q. after (Some q) events) e ∙ m.rest) in
    turn_back s journal trails input (Up mon) events turn b (λ use' all. (x.0, turn.rest, record { monitor = r; turn = use'; more = g.rest; sent = g.is }, all)) turn.kind
reads_back s journal trails (Retune tuning ∷ events) h is =
    let t = walked_story s journal trails in
    let m = made t s (Retune tuning) events is in
    let input = n.Tuned tuning.k (pos tuning.epsilon) in
    let x = if_none (is_some (retune_refusal_of s.settings journal tuning.k tuning.epsilon)) (with_turn t input) m.u m.moves in
    let turn = turn_is s.settings journal input (tuning.epsilon, refl, not_some (retune_refusal_of s.settings journal tuning.k tuning.epsilon) x.0) in
    let e : walked_story s (journal ++ input ∷ turn.rest) trails ≡ m.u = ap (λ xs. walked_story s (journal ++ xs) trails) (sym turn.is) ∙ x.1 in
    let b = reads_back s (journal ++ input ∷ turn.rest) trails events (subst IsStory (sym e) (next_is_story t m.u (Retune tuning) h m.next)) (ap (λ q. after (Some q) events) e ∙ m.rest) in
    turn_back s journal trails input (Retune tuning) events turn b (λ use' all. (turn.rest, use', all)) turn.kind

pub reads : (s : StoryView) (events : List Event) → IsStory s → after (Some (begin s.settings s.logs s.from)) events ≡ Some s → RunsBy s events
reads s events h is = (reads_back s (opened (start s.settings)) (replicate s.settings.monitors []) events (begin_is_story s.settings s.logs s.from h.limits h.logs h.objects h.monitors h.starts) is).walks
