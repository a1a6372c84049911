-- Passes of raises over the parts that go on are passes over all parts.
use Rattle.std.proofs.Common.{◌≡◌, ℕ, ◌+◌, ◌<◌, ◌≤◌, List, [], ◌∷◌, ◌++◌, drop, get_or, length, take, Option, Some, None, refl, sym, ap, ◌∙◌, subst, arith}
use Rattle.tk_base.specs.declared.ids.Feeder.{Feeder}
use Rattle.tk_base.specs.declared.ids.Mon.{Mon}
use Rattle.tk_input.specs.declared.event.Event.{Event}
use Rattle.tk_trail.specs.Legal.{part_length}
use Rattle.tk_trail.specs.declared.entry.Entry.TheVariants.{Raised}
use Rattle.tk_world.specs.Events.{CanOnlyChange, after, has_next, is_monitor, moved, next_of, raise_at, with_trail}
use Rattle.tk_story.specs.Kept.{KeptStory}
use Rattle.tk_story.specs.Story.{IsStory, StoryView, setup_of, trail_of}
use Rattle.tk_world.specs.declared.moved.Moved.{Moved}
use Rattle.tk_world.specs.declared.moved.Moved.TheVariants.{Yes, Idle}
use Rattle.tk_drain.specs.Drive.{Finishes, IsFinishing, IsReached, Settles, all_raises, keep, keep_all, longest_of, pass_of}
use Rattle.tk_world.specs.World.{Moves}
use Rattle.tk_input.specs.Logs.{LogSet}
use Rattle.std.specs.Prelude.{flat_map}
use Rattle.std.specs.List.{range_with_len}
use Rattle.tk_drain.proofs.LegLemmas.{moves_keep}
use Rattle.tk_drain.specs.Drive.Finishes.{Done as DoneF, Passes as PassesF, Raises as RaisesF}
use Rattle.tk_drain.specs.Passing.{Covers, MayRaise, Passes, RaisesOne, raises}
use Rattle.tk_drain.proofs.PartLemmas.{pass_again, raises_push}
use Rattle.tk_drain.specs.Passing.Covers.{Nothing as NothingC, GoesOn as GoesOnC, Ended as EndedC}
use Rattle.tk_drain.proofs.KeepLemmas.{leads_join, leads_reached, leads_story, reached_leads, took_of}
use Rattle.tk_drain.proofs.RestLemmas.{settles_rests}
use Rattle.tk_drain.proofs.RaiseLemmas.{alike_length, goes_on, idle_ended, place, raised_in, run_alike, run_moves}
use Rattle.tk_drain.proofs.EndingLemmas.{Finished, finishes_leads, part_back, raised_over}
use Rattle.std.proofs.lemmas.List.{drop_more, take_more}
use Rattle.std.proofs.lemmas.List.Sums.{fold-append}
use Rattle.tk_story.specs.Moments.{IsOver}
use Rattle.tk_world.proofs.StepLemmas.{guarded, monitor_is}

-- ---- a part that is at its end stays there

no_room : (a b c d n : ℕ) → a < b → b ≡ c → c ≤ d → a ≡ d + n → ⊥
no_room a b c d n x y z w = omega (arith, x, y, z, w)

stays_by : (s t : StoryView) (took : List Event) (mon g : ℕ) (o : Option StoryView) → IsStory s → after (Some s) took ≡ Some t → next_of s (raise_at mon g) ≡ None → next_of t (raise_at mon g) ≡ o → next_of t (raise_at mon g) ≡ None
unfolding next_of
stays_by s t took mon g None h runs none is = is
stays_by s t took mon g (Some u) h runs none is =
    let a = guarded (is_monitor t mon) (moved t (raise_at mon g)) u is in
    let b = guarded (has_next t mon g) (Some (with_trail t mon (trail_of t mon ++ Raised (record { 0 = g }) ∷ []))) u a.1 in
    let goes = goes_on t mon g b.0 in
    let alike = run_alike s t took runs in
    let there = part_back s t mon g alike (record { monitor = monitor_is t mon a.0; from_one = goes.from_one; one_of = goes.one_of }) in
    absurd (no_room (place t mon g) (part_length (setup_of t mon) g) (part_length (setup_of s mon) g) (place s mon g) (raised_in mon g took) goes.less (alike_length s t mon g alike)
    (idle_ended s mon g there none) (run_moves s t took mon g h runs there.monitor there.from_one).place)

pub raise_stays : (s t : StoryView) (took : List Event) (mon g : ℕ) → IsStory s → after (Some s) took ≡ Some t → next_of s (raise_at mon g) ≡ None → next_of t (raise_at mon g) ≡ None
raise_stays s t took mon g h runs none = stays_by s t took mon g (next_of t (raise_at mon g)) h runs none refl

pub covers_stays : (s t : StoryView) (took left all : List Event) → IsStory s → after (Some s) took ≡ Some t → Covers s left all → Covers t left all
covers_stays s t took left all h runs NothingC = NothingC
covers_stays s t took left all h runs (GoesOnC e xs ys c) = GoesOnC e xs ys (covers_stays s t took xs ys h runs c)
covers_stays s t took left all h runs (EndedC e xs ys mon g is none c) =
    EndedC e xs ys mon g is
    (subst (λ (z : Event). next_of t z ≡ None) (sym is) (raise_stays s t took mon g h runs (subst (λ (z : Event). next_of s z ≡ None) is none)))
    (covers_stays s t took xs ys h runs c)

-- ---- one more raise

pub finishes_join : (xs ys : List Event) (a b c : KeptStory) → Finishes xs a b → Finishes ys b c → Finishes (xs ++ ys) a c
finishes_join [] ys a b c (DoneF kept) on = on
finishes_join (e ∷ xs) ys a b c (PassesF event rest kept end none one) on = PassesF e (xs ++ ys) a c none (finishes_join xs ys a b c one on)
finishes_join (e ∷ xs) ys a b c (RaisesF event rest kept settled end story count some settles one) on =
    RaisesF e (xs ++ ys) a settled c story count some settles (finishes_join xs ys settled b c one on)

pub raised_once : (e : Event) (a c : KeptStory) → RaisesOne e a c → Finishes (e ∷ []) a c
raised_once e a c r = RaisesF e [] a c c r.story r.count r.some r.settles (DoneF c)

pub passed_once : (e : Event) (a c : KeptStory) → next_of a.story e ≡ None → c ≡ a → Finishes (e ∷ []) a c
passed_once e a c none same = subst (λ (z : KeptStory). Finishes (e ∷ []) a z) (sym same) (PassesF e [] a a none (DoneF a))

pub covers_self : (s : StoryView) (all : List Event) → Covers s all all
covers_self s [] = NothingC
covers_self s (e ∷ all) = GoesOnC e all all (covers_self s all)

push_left : (s : StoryView) (e : Event) (left all : List Event) → Covers s left all → Covers s (left ++ e ∷ []) (all ++ e ∷ [])
push_left s e left all NothingC = GoesOnC e [] [] NothingC
push_left s e left all (GoesOnC x xs ys c) = GoesOnC x (xs ++ e ∷ []) (ys ++ e ∷ []) (push_left s e xs ys c)
push_left s e left all (EndedC x xs ys mon g is none c) = EndedC x (xs ++ e ∷ []) (ys ++ e ∷ []) mon g is none (push_left s e xs ys c)

push_ended : (s : StoryView) (mon g : ℕ) (left all : List Event) → next_of s (raise_at mon g) ≡ None → Covers s left all → Covers s left (all ++ raise_at mon g ∷ [])
push_ended s mon g left all none NothingC = EndedC (raise_at mon g) [] [] mon g refl none NothingC
push_ended s mon g left all none (GoesOnC x xs ys c) = GoesOnC x xs (ys ++ raise_at mon g ∷ []) (push_ended s mon g xs ys none c)
push_ended s mon g left all none (EndedC x xs ys q h is ended c) = EndedC x xs (ys ++ raise_at mon g ∷ []) q h is ended (push_ended s mon g xs ys none c)

-- the events of one raise
pub one_leads : (e : Event) (a c : KeptStory) (r : RaisesOne e a c) → Finished a c
one_leads e a c r = finishes_leads (e ∷ []) a c (raised_once e a c r)

pub passes_none : (a : KeptStory) → Passes [] [] a a
passes_none a = record { finishes = DoneF a; covers = NothingC }

pub passes_yes : (mon g : ℕ) (all left : List Event) (a b c : KeptStory) → IsStory b.story → Passes all left a b → MayRaise (raise_at mon g) Yes b c → Passes (all ++ raise_at mon g ∷ []) (left ++ raise_at mon g ∷ []) a c
passes_yes mon g all left a b c h x r =
    let f = one_leads (raise_at mon g) b c r in
    record {
      finishes = finishes_join all (raise_at mon g ∷ []) a b c x.finishes (raised_once (raise_at mon g) b c r);
      covers = push_left c.story (raise_at mon g) left all (covers_stays b.story c.story f.took left all h f.leads.runs x.covers);
    }

pub passes_idle : (mon g : ℕ) (all left : List Event) (a b c : KeptStory) → Passes all left a b → MayRaise (raise_at mon g) Idle b c → Passes (all ++ raise_at mon g ∷ []) left a c
passes_idle mon g all left a b c x r = subst (λ (z : KeptStory). Passes (all ++ raise_at mon g ∷ []) left a z) (sym r.1) (record {
  finishes = finishes_join all (raise_at mon g ∷ []) a b b x.finishes (passed_once (raise_at mon g) b b r.0 refl);
  covers = push_ended b.story mon g left all r.0 x.covers;
})

-- ---- a pass over all parts

covers_trans : (s : StoryView) (xs ys zs : List Event) → Covers s xs ys → Covers s ys zs → Covers s xs zs
covers_trans s xs ys zs c NothingC = c
covers_trans s xs ys zs (GoesOnC e xs' ys' c) (GoesOnC e' ys'' zs' d) = GoesOnC e' xs' zs' (covers_trans s xs' ys'' zs' c d)
covers_trans s xs ys zs (EndedC e xs' ys' mon g is none c) (GoesOnC e' ys'' zs' d) = EndedC e' xs zs' mon g is none (covers_trans s xs ys'' zs' c d)
covers_trans s xs ys zs c (EndedC e ys' zs' mon g is none d) = EndedC e xs zs' mon g is none (covers_trans s xs ys zs' c d)

-- finishing over the parts that go on is finishing over all of them
covered : (ys xs : List Event) (a c : KeptStory) → IsStory a.story → Covers a.story xs ys → Finishes xs a c → Finishes ys a c
covered [] xs a c h NothingC f = f
covered (y ∷ ys) xs a c h (GoesOnC e xs' ys' k) (PassesF e' rest kept end none on) = PassesF y ys a c none (covered ys xs' a c h k on)
covered (y ∷ ys) xs a c h (GoesOnC e xs' ys' k) (RaisesF e' rest kept settled end story count some settles on) =
    let f = one_leads y a settled (record { story = story; some = some; count = count; settles = settles }) in
    RaisesF y ys a settled c story count some settles
    (covered ys xs' settled c (leads_story a settled f.took h f.leads) (covers_stays a.story settled.story f.took xs' ys h f.leads.runs k) on)
covered (y ∷ ys) xs a c h (EndedC e xs' ys' mon g is none k) f = PassesF y ys a c none (covered ys xs a c h k f)

-- a further pass
pub pass_more : (done pass parts left : List Event) (a b c : KeptStory) → IsStory b.story → Finishes done a b → Covers b.story parts pass → Passes parts left b c → Finishes (done ++ pass) a c × Covers c.story left pass
pass_more done pass parts left a b c h f covers x =
    let whole = covered pass parts b c h covers x.finishes in
    let l = finishes_leads pass b c whole in (
      finishes_join done pass a b c f whole,
      covers_trans c.story left parts pass x.covers (covers_stays b.story c.story l.took parts pass h l.leads.runs covers),
    )

-- ---- the calls

pub raised_settled : (e : Event) (a b c : KeptStory) (count : ℕ) → Moves a e Yes b → Settles b c count → RaisesOne e a c
raised_settled e a b c count moves settles = record {
  story = b.story;
  some = moves.0;
  count = count;
  settles = subst (λ (z : KeptStory). Settles z c count) (moves_keep a b e Yes moves) settles;
}

pub reached_join : (a b c : KeptStory) → IsReached a b → IsReached b c → IsReached a c
reached_join a b c one two = leads_reached a c (one.events ++ two.events) (leads_join a b c one.events two.events (reached_leads a b one) (reached_leads b c two))

pub finishes_reached : (events : List Event) (a c : KeptStory) → Finishes events a c → IsReached a c
finishes_reached events a c f = let x = finishes_leads events a c f in leads_reached a c x.took x.leads

pub settles_reached : (a c : KeptStory) (n : ℕ) → Settles a c n → IsReached a c
settles_reached a c n s = let r = settles_rests a c n s in leads_reached a c r.calms.took r.calms.leads

pub kept_reached : (a : KeptStory) (events : List Event) → IsReached a (keep_all a events)
kept_reached a events = let t = took_of a events in leads_reached a (keep_all a events) t.took t.leads

-- finishing is done after as many passes as the longest part has changes
pub finished_of : (a b c : KeptStory) (count : ℕ) → Settles a b count → Finishes (flat_map (λ (_ : ℕ). pass_of b.story.logs) (range_with_len 0 (longest_of b.story.logs))) b c → IsFinishing a c
unfolding all_raises
finished_of a b c count settles finishes =
    let r = settles_rests a b count settles in
    let alike = run_alike a.story b.story r.calms.took r.calms.leads.runs in
    record { settled = b; count = count; settles = settles; finishes = subst (λ (l : LogSet). Finishes (all_raises l) b c) alike.logs finishes }

-- the next of some parts, of which those behind are as they were
pub next_taken : (front items : List (Mon × Feeder)) (i : ℕ) (part : Mon × Feeder) → i < length items → length items ≡ length front → drop i items ≡ drop i front → part ≡ get_or items i part → take (i + 1) front ≡ take i front ++ part ∷ []
next_taken front items i part within size ahead is =
    let also : i < length front = omega (arith, within, size) in
    let there = drop_more items i part within in
    let here = drop_more front i part also in
    let same : get_or front i part ≡ part = cc in
    take_more front i part also ∙ ap (λ (p : Mon × Feeder). take i front ++ p ∷ []) same

pub each_yes : (parts left more : List (Mon × Feeder)) (i : ℕ) (part : Mon × Feeder) (a b c : KeptStory) → IsStory b.story → take (i + 1) parts ≡ take i parts ++ part ∷ [] → more ≡ left ++ part ∷ []
    → Passes (raises (take i parts)) (raises left) a b → MayRaise (raise_at part.0.0 part.1.0) Yes b c → Passes (raises (take (i + 1) parts)) (raises more) a c
each_yes parts left more i part a b c h taken pushed x r =
    subst (λ (ps : List (Mon × Feeder)). Passes (raises ps) (raises more) a c) (sym taken)
    (subst (λ (ps : List (Mon × Feeder)). Passes (raises (take i parts ++ part ∷ [])) (raises ps) a c) (sym pushed)
    (subst (λ (es : List Event). Passes es (raises (left ++ part ∷ [])) a c) (sym (raises_push (take i parts) part.0 part.1))
    (subst (λ (es : List Event). Passes (raises (take i parts) ++ raise_at part.0.0 part.1.0 ∷ []) es a c) (sym (raises_push left part.0 part.1))
    (passes_yes part.0.0 part.1.0 (raises (take i parts)) (raises left) a b c h x r))))

pub each_idle : (parts left : List (Mon × Feeder)) (i : ℕ) (part : Mon × Feeder) (a b c : KeptStory) → take (i + 1) parts ≡ take i parts ++ part ∷ []
    → Passes (raises (take i parts)) (raises left) a b → MayRaise (raise_at part.0.0 part.1.0) Idle b c → Passes (raises (take (i + 1) parts)) (raises left) a c
each_idle parts left i part a b c taken x r =
    subst (λ (ps : List (Mon × Feeder)). Passes (raises ps) (raises left) a c) (sym taken)
    (subst (λ (es : List Event). Passes es (raises left) a c) (sym (raises_push (take i parts) part.0 part.1))
    (passes_idle part.0.0 part.1.0 (raises (take i parts)) (raises left) a b c x r))

-- the passes so far
pub record Passed (settled now : KeptStory) (parts : List (Mon × Feeder)) (n : ℕ) : Type 0 where
  pub story : IsStory now.story
  pub finishes : Finishes (flat_map (λ (_ : ℕ). pass_of settled.story.logs) (range_with_len 0 n)) settled now
  pub covers : Covers now.story (raises parts) (pass_of settled.story.logs)

pub passed_none : (settled : KeptStory) (parts : List (Mon × Feeder)) → IsStory settled.story → raises parts ≡ pass_of settled.story.logs → Passed settled settled parts 0
passed_none settled parts h is = record {
  story = h;
  finishes = DoneF settled;
  covers = subst (λ (es : List Event). Covers settled.story es (pass_of settled.story.logs)) (sym is) (covers_self settled.story (pass_of settled.story.logs));
}

pub passed_more : (settled now new : KeptStory) (parts left : List (Mon × Feeder)) (n : ℕ) → Passed settled now parts n → IsStory new.story → Passes (raises parts) (raises left) now new → Passed settled new left (n + 1)
passed_more settled now new parts left n x h passes =
    let pass = pass_of settled.story.logs in
    let y = pass_more (flat_map (λ (_ : ℕ). pass) (range_with_len 0 n)) pass (raises parts) (raises left) settled now new x.story x.finishes x.covers passes in
    record {
      story = h;
      finishes = subst (λ (es : List Event). Finishes es settled new) (sym (pass_again settled.story.logs n)) y.0;
      covers = y.1;
    }

pub passed_all : (old settled now : KeptStory) (parts : List (Mon × Feeder)) (count n longest : ℕ) → Settles old settled count → Passed settled now parts n → n ≡ longest → longest ≡ longest_of settled.story.logs → IsFinishing old now
passed_all old settled now parts count n longest settles x all is =
    finished_of old settled now count settles (subst (λ (q : ℕ). Finishes (flat_map (λ (_ : ℕ). pass_of settled.story.logs) (range_with_len 0 q)) settled now) (all ∙ is) x.finishes)

pub passed_over : (settled now : KeptStory) (parts : List (Mon × Feeder)) (n longest : ℕ) → IsStory settled.story → CanOnlyChange settled.story → Passed settled now parts n → n ≡ longest → longest ≡ longest_of settled.story.logs → IsOver now.story
unfolding all_raises
passed_over settled now parts n longest h idle x all is =
    raised_over settled now settled.story.logs h idle refl (subst (λ (q : ℕ). Finishes (flat_map (λ (_ : ℕ). pass_of settled.story.logs) (range_with_len 0 q)) settled now) (all ∙ is) x.finishes)

-- one more event of an order
pub order_more : (order : List Event) (i : ℕ) (e : Event) (moved : Moved) (old now new : KeptStory) → take (i + 1) order ≡ take i order ++ e ∷ [] → now ≡ keep_all old (take i order) → Moves now e moved new → new ≡ keep_all old (take (i + 1) order)
order_more order i e moved old now new taken is moves =
    moves_keep now new e moved moves ∙ ap (λ (k : KeptStory). keep k e) is ∙ sym (fold-append keep old (take i order) (e ∷ [])) ∙ sym (ap (keep_all old) taken)
