-- What may happen in a story leaves a story.
use Rattle.tk_frames.specs.declared.frame.Frame.TheVariants as f
use Rattle.tk_journal.specs.declared.noted.Noted.TheVariants as n
use Rattle.std.proofs.Common.{◌≡◌, ℕ, suc, zero, ◌-◌, ◌&&◌, pos, Bool, true, false, List, [], ◌∷◌, ◌++◌, length, take, get_or, replicate, Option, Some, None, refl, sym, ap, ◌∙◌, subst, arith, append_assoc, append-nil, inl, inr}
use Rattle.std.specs.Prelude.{ℤ, nat_lt, nat_le, is_some, slice_get, if◌then◌else◌}
use Rattle.std.specs.List.{cons_option, enumerate_from}
use Rattle.std.specs.Option.{option_map}
use Rattle.std.proofs.lemmas.Bool.{and_parts, cases_eq, eq-eqb, leb-true, ltb-true, ne_eqb}
use Rattle.std.proofs.lemmas.List.{get_or-set_same, get_or-set_other, length-set}
use Rattle.std.proofs.Math.Seq.{take-append_seam}
use Rattle.tk_base.specs.Settings.{Setup, IsWithinLimits}
use Rattle.tk_base.specs.declared.ids.Feeder.{Feeder}
use Rattle.tk_frames.specs.declared.frame.Frame.{Frame}
use Rattle.tk_input.specs.Logs.{AreLogs, IsCut, LogSet}
use Rattle.tk_journal.specs.Laws.{IsMonitor}
use Rattle.tk_journal.specs.Legal.{IsAccepted, start, turn_of}
use Rattle.tk_journal.specs.Links.{frames_from, frames_to, got_from}
use Rattle.tk_journal.specs.Refusal.{retune_refusal_of}
use Rattle.tk_journal.specs.declared.noted.Noted.{Noted}
use Rattle.tk_journal.proofs.Appends.{frames_from-append, frames_to-append}
use Rattle.tk_journal.proofs.Pieces.{batch_from}
use Rattle.tk_base.specs.History.{IsFront}
use Rattle.tk_story.proofs.JoinLemmas.{rest_of}
use Rattle.tk_trail.specs.Frames.{answer_to, due_at}
use Rattle.tk_trail.specs.Legal.{HasNext, IsLegal as IsLegalTrail, after_take, part_length, place_of, with_answer}
use Rattle.tk_trail.specs.Readings.{sent_by, taken_by}
use Rattle.tk_trail.specs.declared.entry.Entry.{Entry}
use Rattle.tk_trail.specs.declared.entry.Entry.TheVariants.{Raised, Took, Sent}
use Rattle.tk_trail.proofs.LegalLemmas.{legal_raised, legal_sent, legal_taken}
use Rattle.tk_trail.proofs.ReadingsLemmas.{sent_by-raised, sent_by-sent, sent_by-took, taken_by-raised, taken_by-sent, taken_by-took, answer_taken}
use Rattle.tk_input.specs.declared.event.Event.{Event}
use Rattle.tk_world.specs.Events.{after, begin, has_next, is_monitor, is_of, moved, next_down, next_of, next_up, with_trail, with_turn}
use Rattle.tk_input.specs.declared.event.Event.TheVariants.{Raise, Check, Up, Down, Retune}
use Rattle.tk_story.specs.Story.{IsStory, StoryView, setup_of, trail_of}
use Rattle.tk_story.specs.Links.{IsOrderedLink}
use Rattle.tk_story.proofs.DownLemmas.{down_is_taken}
use Rattle.tk_story.proofs.QuietLemmas.{joined, setup_is, starts_at}
use Rattle.tk_journal.proofs.WholeLemmas.{goes_on, opened_legal, turn_is}
use Rattle.tk_story.proofs.UpLemmas.{up_is_taken}
use Rattle.tk_input.proofs.CountLemmas.{not_some}
use Rattle.tk_monitor.proofs.StartLemmas.{start_legal}
use Rattle.tk_journal.proofs.HeardLemmas.{no_input}

-- ---- fronts

pub front_by : {A : Type 0} (xs ys rest : List A) → ys ≡ xs ++ rest → IsFront xs ys
front_by xs ys rest is = record { is = sym (ap (take (length xs)) is ∙ take-append_seam xs rest) }

pub front_more : {A : Type 0} (xs ys more : List A) → IsFront xs ys → IsFront xs (ys ++ more)
front_more xs ys more h = let r = rest_of xs ys h in front_by xs (ys ++ more) (r.rest ++ more) (ap (λ zs. zs ++ more) r.is ∙ append_assoc xs r.rest more)

pub record NextIs (xs ys : List Frame) (g : Frame) : Type 0 where
  pub rest : List Frame
  pub is : ys ≡ xs ++ g ∷ rest

pub at_end : (xs rest : List Frame) → slice_get (xs ++ rest) (length xs) ≡ slice_get rest 0
at_end [] rest = refl
at_end (x ∷ xs) rest = at_end xs rest

first_is : (xs ys rest : List Frame) (g : Frame) → ys ≡ xs ++ rest → slice_get rest 0 ≡ Some g → NextIs xs ys g
first_is xs ys [] g is first = absurd (cc)
first_is xs ys (x ∷ rest) g is first = let same : x ≡ g = cc in record { rest = rest; is = is ∙ ap (λ z. xs ++ z ∷ rest) same }

pub next_is : (xs ys : List Frame) (g : Frame) → IsFront xs ys → slice_get ys (length xs) ≡ Some g → NextIs xs ys g
next_is xs ys g h got = let r = rest_of xs ys h in first_is xs ys r.rest g r.is (sym (ap (λ zs. slice_get zs (length xs)) r.is ∙ at_end xs r.rest) ∙ got)

-- ---- options

pub if_some : {X : Type 0} (b : Bool) (x t : X) → (if b then Some x else None) ≡ Some t → (b ≡ true) × (x ≡ t)
if_some true x t e = (refl, (cc))
if_some false x t e = absurd (cc)

pub if_none : {X : Type 0} (b : Bool) (x t : X) → (if b then None else Some x) ≡ Some t → (b ≡ false) × (x ≡ t)
if_none true x t e = absurd (cc)
if_none false x t e = (refl, (cc))

pub mapped_some : {X Y : Type 0} (g : X → Y) (o : Option X) (t : Y) → option_map g o ≡ Some t → (x : X) × (o ≡ Some x) × (g x ≡ t)
mapped_some g None t e = absurd (cc)
mapped_some g (Some x) t e = (x, refl, (cc))

pub guarded : {X : Type 0} (b : Bool) (o : Option X) (t : X) → (if b then o else None) ≡ Some t → (b ≡ true) × (o ≡ Some t)
guarded true o t e = (refl, e)
guarded false o t e = absurd (cc)

pub monitor_is : (s : StoryView) (mon : ℕ) → is_monitor s mon ≡ true → IsMonitor s.settings mon
monitor_is s mon is = let both = and_parts (nat_le 1 mon) (nat_le mon s.settings.monitors) is in record { from_one = leb-true 1 mon both.0; within = leb-true mon s.settings.monitors both.1 }

-- ---- one trail goes on

pub trail_there : (s : StoryView) → IsStory s → (mon : ℕ) → IsMonitor s.settings mon → (trail : List Entry) → trail_of (with_trail s mon trail) mon ≡ trail
trail_there s h mon m trail =
    get_or-set_same s.trails (mon - 1) trail [] (let a = m.from_one in let b = m.within in let c = h.count in omega (arith, a, b, c))

pub trail_elsewhere : (s : StoryView) (mon : ℕ) → IsMonitor s.settings mon → (trail : List Entry) (q : ℕ) → IsMonitor s.settings q → (q ≡ mon → ⊥)
    → trail_of (with_trail s mon trail) q ≡ trail_of s q
trail_elsewhere s mon m trail q r apart =
    get_or-set_other s.trails (mon - 1) (q - 1) trail [] (λ same. apart (let a = m.from_one in let b = r.from_one in omega (arith, a, b, same)))

trail_step : (s : StoryView) → IsStory s → (mon : ℕ) → IsMonitor s.settings mon → (trail : List Entry) → IsLegalTrail (setup_of s mon) trail → IsOrderedLink s.journal mon trail → IsStory (with_trail s mon trail)
trail_step s h mon m trail legal link =
    let own = trail_there s h mon m trail in
    let other = trail_elsewhere s mon m trail in
    record {
      limits = h.limits;
      logs = h.logs;
      objects = h.objects;
      monitors = h.monitors;
      starts = h.starts;
      count = length-set s.trails (mon - 1) trail ∙ h.count;
      journal_legal = h.journal_legal;
      trails_legal = λ q r. elim (cases_eq q mon) [
        | inl same ↦ subst (λ (z : ℕ). IsLegalTrail (setup_of s z) (trail_of (with_trail s mon trail) z)) (sym same) (subst (IsLegalTrail (setup_of s mon)) (sym own) legal)
        | inr apart ↦ subst (IsLegalTrail (setup_of s q)) (sym (other q r apart)) (h.trails_legal q r)
      ];
      links = λ q r. elim (cases_eq q mon) [
        | inl same ↦ subst (λ (z : ℕ). IsOrderedLink s.journal z (trail_of (with_trail s mon trail) z)) (sym same) (subst (IsOrderedLink s.journal mon) (sym own) link)
        | inr apart ↦ subst (IsOrderedLink s.journal q) (sym (other q r apart)) (h.links q r)
      ];
    }

-- a raise
raise_step : (s : StoryView) → IsStory s → (mon g : ℕ) → IsMonitor s.settings mon → has_next s mon g ≡ true → IsStory (with_trail s mon (trail_of s mon ++ Raised (record { 0 = g }) ∷ []))
raise_step s h mon g m next =
    let setup = setup_of s mon in
    let trail = trail_of s mon in
    let feeder : Feeder = record { 0 = g } in
    let outer = and_parts (nat_le 1 g && nat_le g (length setup.parts)) (nat_lt (place_of setup trail g) (part_length setup g)) next in
    let inner = and_parts (nat_le 1 g) (nat_le g (length setup.parts)) outer.0 in
    let has : HasNext setup trail g = record { from_one = leb-true 1 g inner.0; one_of = leb-true g (length setup.parts) inner.1; not_ended = ltb-true (place_of setup trail g) (part_length setup g) outer.1 } in
    trail_step s h mon m (trail ++ Raised feeder ∷ []) (legal_raised setup (starts_at s h mon).shape trail feeder (h.trails_legal mon m) has)
    (record {
      down = subst (λ xs. IsFront xs (frames_to mon s.journal)) (sym (taken_by-raised trail feeder)) (h.links mon m).down;
      up = subst (λ xs. IsFront (frames_from mon s.journal) xs) (sym (sent_by-raised trail feeder)) (h.links mon m).up;
    })

-- a check that sends
check_step : (s : StoryView) → IsStory s → (mon : ℕ) → IsMonitor s.settings mon → (frame : Frame) → due_at (setup_of s mon) (trail_of s mon) ≡ Some frame → IsStory (with_trail s mon (trail_of s mon ++ Sent frame ∷ []))
check_step s h mon m frame due =
    let setup = setup_of s mon in
    let trail = trail_of s mon in
    trail_step s h mon m (trail ++ Sent frame ∷ []) (legal_sent setup (starts_at s h mon).shape trail frame (h.trails_legal mon m) due)
    (record {
      down = subst (λ xs. IsFront xs (frames_to mon s.journal)) (sym (taken_by-sent trail frame)) (h.links mon m).down;
      up = subst (λ xs. IsFront (frames_from mon s.journal) xs) (sym (sent_by-sent trail frame)) (front_more (frames_from mon s.journal) (sent_by trail) (frame ∷ []) (h.links mon m).up);
    })

answer_sent : (trail : List Entry) (answer : Option Frame) (xs : List Frame) → IsFront xs (sent_by trail) → IsFront xs (sent_by (with_answer trail answer))
answer_sent trail None xs h = h
answer_sent trail (Some g) xs h = subst (λ ys. IsFront xs ys) (sym (sent_by-sent trail g)) (front_more xs (sent_by trail) (g ∷ []) h)

down_step : (s : StoryView) → IsStory s → (mon : ℕ) → IsMonitor s.settings mon → (frame : Frame) → next_down s mon ≡ Some frame → IsStory (with_trail s mon (after_take (setup_of s mon) (trail_of s mon) frame))
down_step s h mon m frame next =
    let setup = setup_of s mon in
    let trail = trail_of s mon in
    let link = h.links mon m in
    let is = next_is (taken_by trail) (frames_to mon s.journal) frame link.down next in
    let none = down_is_taken (start s.settings) s.journal mon setup trail frame is.rest (joined s h mon m) refl is.is in
    let taken = trail ++ Took frame ∷ [] in
    let answer = answer_to setup taken frame in
    trail_step s h mon m (after_take setup trail frame) (legal_taken setup trail frame (h.trails_legal mon m) none)
    (record {
      down = subst (λ xs. IsFront xs (frames_to mon s.journal)) (sym (answer_taken taken answer ∙ taken_by-took trail frame))
          (front_by (taken_by trail ++ frame ∷ []) (frames_to mon s.journal) is.rest (is.is ∙ sym (append_assoc (taken_by trail) (frame ∷ []) is.rest)));
      up = answer_sent taken answer (frames_from mon s.journal) (subst (λ ys. IsFront (frames_from mon s.journal) ys) (sym (sent_by-took trail frame)) link.up);
    })

-- ---- the journal goes on by a turn

pub turn_from : (s : StoryView) (input : Noted) (mon : ℕ) → IsAccepted s.settings s.journal input → frames_from mon (s.journal ++ turn_of s.settings s.journal input) ≡ frames_from mon s.journal ++ cons_option (got_from mon input) []
turn_from s input mon accepted =
    let t = turn_is s.settings s.journal input accepted in
    frames_from-append mon s.journal (turn_of s.settings s.journal input)
    ∙ ap (λ xs. frames_from mon s.journal ++ frames_from mon xs) t.is
    ∙ ap (λ xs. frames_from mon s.journal ++ cons_option (got_from mon input) xs) (no_input mon t.rest t.none)

turn_step : (s : StoryView) → IsStory s → (input : Noted) → IsAccepted s.settings s.journal input → ((mon : ℕ) → IsMonitor s.settings mon → IsFront (frames_from mon s.journal ++ cons_option (got_from mon input) []) (sent_by (trail_of s mon))) → IsStory (with_turn s input)
turn_step s h input accepted up = record {
  limits = h.limits;
  logs = h.logs;
  objects = h.objects;
  monitors = h.monitors;
  starts = h.starts;
  count = h.count;
  journal_legal = goes_on (start s.settings) s.journal input h.journal_legal accepted;
  trails_legal = h.trails_legal;
  links = λ mon m. record {
    down = subst (λ xs. IsFront (taken_by (trail_of s mon)) xs) (sym (frames_to-append mon s.journal (turn_of s.settings s.journal input))) (front_more (taken_by (trail_of s mon)) (frames_to mon s.journal) (frames_to mon (turn_of s.settings s.journal input)) (h.links mon m).down);
    up = subst (λ xs. IsFront xs (sent_by (trail_of s mon))) (sym (turn_from s input mon accepted)) (up mon m);
  };
}

up_step : (s : StoryView) → IsStory s → (mon : ℕ) → IsMonitor s.settings mon → (frame : Frame) → next_up s mon ≡ Some frame → IsStory (with_turn s (n.Got (record { 0 = mon }) frame))
up_step s h mon m frame next =
    let trail = trail_of s mon in
    let link = h.links mon m in
    let is = next_is (frames_from mon s.journal) (sent_by trail) frame link.up next in
    let none = up_is_taken (start s.settings) s.journal mon (setup_of s mon) trail frame is.rest (joined s h mon m) (setup_is s h mon m) refl is.is in
    turn_step s h (n.Got (record { 0 = mon }) frame) (m.from_one, m.within, none) (λ q r. elim (cases_eq mon q) [
      | inl same ↦
          subst (λ xs. IsFront (frames_from q s.journal ++ xs) (sent_by (trail_of s q))) (sym (ap (λ b. cons_option (if b then Some frame else None) []) (eq-eqb mon q same)))
          (subst (λ (z : ℕ). IsFront (frames_from z s.journal ++ frame ∷ []) (sent_by (trail_of s z))) same
          (front_by (frames_from mon s.journal ++ frame ∷ []) (sent_by trail) is.rest (is.is ∙ sym (append_assoc (frames_from mon s.journal) (frame ∷ []) is.rest))))
      | inr apart ↦
          subst (λ xs. IsFront (frames_from q s.journal ++ xs) (sent_by (trail_of s q))) (sym (ap (λ b. cons_option (if b then Some frame else None) []) (ne_eqb mon q apart)))
          (subst (λ xs. IsFront xs (sent_by (trail_of s q))) (sym (append-nil (frames_from q s.journal))) (h.links q r).up)
    ])

retune_step : (s : StoryView) → IsStory s → (k e : ℕ) → retune_refusal_of s.settings s.journal k e ≡ None → IsStory (with_turn s (n.Tuned k (pos e)))
retune_step s h k e none =
    turn_step s h (n.Tuned k (pos e)) (e, refl, none) (λ q r. subst (λ xs. IsFront xs (sent_by (trail_of s q))) (sym (append-nil (frames_from q s.journal))) (h.links q r).up)

-- ---- each happening

moved_story : (s t : StoryView) (e : Event) → IsStory s → is_of s e ≡ true → moved s e ≡ Some t → IsStory t
moved_story s t (Raise mon g) h of is = let x = if_some (has_next s mon.0 g.0) (with_trail s mon.0 (trail_of s mon.0 ++ Raised (record { 0 = g.0 }) ∷ [])) t is in subst IsStory x.1 (raise_step s h mon.0 g.0 (monitor_is s mon.0 of) x.0)
moved_story s t (Check mon) h of is = let x = mapped_some (λ frame. with_trail s mon.0 (trail_of s mon.0 ++ Sent frame ∷ [])) (due_at (setup_of s mon.0) (trail_of s mon.0)) t is in subst IsStory x.2 (check_step s h mon.0 (monitor_is s mon.0 of) x.0 x.1)
moved_story s t (Down mon) h of is = let x = mapped_some (λ frame. with_trail s mon.0 (after_take (setup_of s mon.0) (trail_of s mon.0) frame)) (next_down s mon.0) t is in subst IsStory x.2 (down_step s h mon.0 (monitor_is s mon.0 of) x.0 x.1)
moved_story s t (Up mon) h of is = let x = mapped_some (λ frame. with_turn s (n.Got (record { 0 = mon.0 }) frame)) (next_up s mon.0) t is in subst IsStory x.2 (up_step s h mon.0 (monitor_is s mon.0 of) x.0 x.1)
moved_story s t (Retune tuning) h of is = let x = if_none (is_some (retune_refusal_of s.settings s.journal tuning.k tuning.epsilon)) (with_turn s (n.Tuned tuning.k (pos tuning.epsilon))) t is in subst IsStory x.1 (retune_step s h tuning.k tuning.epsilon (not_some (retune_refusal_of s.settings s.journal tuning.k tuning.epsilon) x.0))

pub next_is_story : (s t : StoryView) (e : Event) → IsStory s → next_of s e ≡ Some t → IsStory t
unfolding next_of
next_is_story s t e h is = let g = guarded (is_of s e) (moved s e) t is in moved_story s t e h g.0 g.1

after_from : (s t : StoryView) (e : Event) (events : List Event) (o : Option StoryView) → next_of s e ≡ o → after o events ≡ Some t → IsStory s → ((u : StoryView) → IsStory u → after (Some u) events ≡ Some t → IsStory t) → IsStory t
after_from s t e events None none is h rest = absurd (cc)
after_from s t e events (Some u) some is h rest = rest u (next_is_story s u e h some) is

pub after_is_story : (s t : StoryView) (events : List Event) → IsStory s → after (Some s) events ≡ Some t → IsStory t
after_is_story s t [] h is = let same : s ≡ t = cc in subst IsStory same h
after_is_story s t (e ∷ events) h is = after_from s t e events (next_of s e) refl is h (λ u hu is'. after_is_story u t events hu is')

-- ---- a beginning

pub nothing_done : ℕ → List (List Entry)
nothing_done k = replicate k []

pub none_yet : (k i : ℕ) → get_or (nothing_done k) i [] ≡ []
unfolding nothing_done
none_yet zero i = refl
none_yet (suc k) zero = refl
none_yet (suc k) (suc i) = none_yet k i

counted : (k : ℕ) → length (nothing_done k) ≡ k
unfolding nothing_done
counted zero = refl
counted (suc k) = ap suc (counted k)

pub begin_is_story : (settings : Setup) (logs : LogSet) (from : List (List ℕ)) → IsWithinLimits settings → AreLogs logs → logs.objects ≡ settings.objects → length logs.logs ≡ settings.monitors → IsCut logs.logs from → IsStory (begin settings logs from)
unfolding nothing_done
begin_is_story settings logs from limits are objects monitors cut =
    let s = begin settings logs from in
    record {
      limits = limits;
      logs = are;
      objects = objects;
      monitors = monitors;
      starts = cut;
      count = counted settings.monitors;
      journal_legal = opened_legal (start settings);
      trails_legal = λ mon m. subst (IsLegalTrail (setup_of s mon)) (sym (none_yet settings.monitors (mon - 1))) (start_legal (setup_of s mon));
      links = λ mon m. subst (IsOrderedLink s.journal mon) (sym (none_yet settings.monitors (mon - 1))) (record {
        down = record { is = refl };
        up = subst (λ xs. IsFront xs []) (sym (batch_from mon (λ (p : ℕ × List (ℕ × ℤ)). p.0) (λ p. f.Assign 1 (Rattle.tk_base.specs.Objects.objects settings.k) p.1) (enumerate_from 1 (start settings).factors))) (record { is = refl });
      });
    }
