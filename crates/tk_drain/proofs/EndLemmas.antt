-- Every story settles; and what holds where it has.
use Rattle.std.proofs.Common.{◌≡◌, ℕ, suc, zero, ◌+◌, ◌<◌, ◌≤◌, true, List, [], ◌∷◌, Option, Some, None, refl, sym, ap, ◌∙◌, subst, arith, inl, inr, le_refl}
use Rattle.std.specs.Prelude.{◌⊎◌}
use Rattle.std.specs.List.{list_all}
use Rattle.std.proofs.lemmas.Bool.{and_from, cases_eq}
use Rattle.tk_journal.specs.Laws.{IsMonitor}
use Rattle.tk_journal.specs.Legal.{start}
use Rattle.tk_journal.specs.Readings.{is_calm, is_stopped}
use Rattle.tk_base.specs.History.{last_of}
use Rattle.tk_frames.specs.declared.frame.Frame.{Frame}
use Rattle.tk_trail.specs.Readings.{taken_by, is_stopped as has_stopped}
use Rattle.tk_drain.specs.Moves.{energy_of_all}
use Rattle.tk_input.specs.declared.event.Event.{Event}
use Rattle.tk_world.specs.Events.{CanOnlyChange, after, next_of, check_at, up_at, down_at}
use Rattle.tk_story.specs.Story.{IsStory, StoryView, trail_of}
use Rattle.tk_story.proofs.DownLemmas.{stop_last}
use Rattle.tk_world.proofs.IdleLemmas.{idle_is_still}
use Rattle.tk_story.proofs.OverLemmas.{halted, some_halt}
use Rattle.tk_story.proofs.QuietLemmas.{start_is_set_up}
use Rattle.tk_world.proofs.StepLemmas.{next_is_story}
use Rattle.tk_story.proofs.StillLemmas.{still_calm}
use Rattle.tk_drain.specs.Reads.{readings}
use Rattle.tk_drain.specs.Settling.{SettlesTo, is_settling}
use Rattle.tk_drain.proofs.SettleLemmas.{event_settles}

-- ---- whether something can happen

record Found (s : StoryView) : Type 0 where
  event : Event
  then : StoryView
  settling : is_settling event ≡ true
  is : next_of s event ≡ Some then

found_or : (s : StoryView) (e : Event) (o : Option StoryView) → is_settling e ≡ true → next_of s e ≡ o → Found s ⊎ (next_of s e ≡ None)
found_or s e None settling is = inr is
found_or s e (Some u) settling is = inl (record { event = e; then = u; settling = settling; is = is })

pub none_more : (P : ℕ → Type 0) (a k : ℕ) → P a → ((q : ℕ) → a + 1 ≤ q → q < a + 1 + k → P q) → (q : ℕ) → a ≤ q → q < a + suc k → P q
none_more P a k here rest q low high = elim (cases_eq a q) [
  | inl same ↦ subst P same here
  | inr apart ↦ rest q (omega (arith, low, apart)) (omega (arith, high))
]

search_range : (s : StoryView) (make : ℕ → Event) → ((q : ℕ) → is_settling (make q) ≡ true) → (a k : ℕ) → Found s ⊎ ((q : ℕ) → a ≤ q → q < a + k → next_of s (make q) ≡ None)
search_range s make settling a zero = inr (λ q low high. absurd (omega (arith, low, high)))
search_range s make settling a (suc k) = elim (found_or s (make a) (next_of s (make a)) (settling a) refl) [
  | inl found ↦ inl found
  | inr none ↦ elim (search_range s make settling (a + 1) k) [
    | inl found ↦ inl found
    | inr rest ↦ inr (none_more (λ q. next_of s (make q) ≡ None) a k none rest)
  ]
]

search_all : (s : StoryView) → Found s ⊎ CanOnlyChange s
search_all s =
    let m = s.settings.monitors in
    elim (search_range s check_at (λ _. refl) 1 m) [
      | inl found ↦ inl found
      | inr no_check ↦ elim (search_range s down_at (λ _. refl) 1 m) [
        | inl found ↦ inl found
        | inr no_down ↦ elim (search_range s up_at (λ _. refl) 1 m) [
          | inl found ↦ inl found
          | inr no_up ↦ inr (record {
            check = λ mon r. no_check mon r.from_one (let w = r.within in omega (arith, w));
            down = λ mon r. no_down mon r.from_one (let w = r.within in omega (arith, w));
            up = λ mon r. no_up mon r.from_one (let w = r.within in omega (arith, w));
          })
        ]
      ]
    ]

-- ---- every story settles

done : (s : StoryView) → CanOnlyChange s → SettlesTo s
done s idle = record { events = []; end = s; settling = refl; runs = refl; idle = idle }

runs_on : (s t : StoryView) (e : Event) (events : List Event) (o : Option StoryView) → next_of s e ≡ o → after o events ≡ Some t → after (Some s) (e ∷ events) ≡ Some t
runs_on s t e events o is rest = ap (λ x. after x events) is ∙ rest

first_of : (s : StoryView) (f : Found s) → SettlesTo f.then → SettlesTo s
first_of s f rest = record {
  events = f.event ∷ rest.events;
  end = rest.end;
  settling = and_from (is_settling f.event) (list_all is_settling rest.events) f.settling rest.settling;
  runs = runs_on s rest.end f.event rest.events (Some f.then) f.is rest.runs;
  idle = rest.idle;
}

less_than : (n a b : ℕ) → a < b → b ≤ suc n → a ≤ n
less_than n a b x y = omega (arith, x, y)

never : (a b : ℕ) → a < b → b ≤ 0 → ⊥
never a b x y = omega (arith, x, y)

settles_by : (n : ℕ) (s : StoryView) → IsStory s → energy_of_all s.settings.monitors (readings s) ≤ n → SettlesTo s
settles_by zero s h low = elim (search_all s) [
  | inr idle ↦ done s idle
  | inl f ↦
      let x = event_settles s f.then f.event h f.settling f.is in
      absurd (never (energy_of_all s.settings.monitors (readings f.then)) (energy_of_all s.settings.monitors (readings s)) x.lessens.energy low)
]
settles_by (suc n) s h low = elim (search_all s) [
  | inr idle ↦ done s idle
  | inl f ↦
      let x = event_settles s f.then f.event h f.settling f.is in
      let less = less_than n (energy_of_all s.settings.monitors (readings f.then)) (energy_of_all s.settings.monitors (readings s)) x.lessens.energy low in
      first_of s f (settles_by n f.then (next_is_story s f.then f.event h f.is) (subst (λ (q : ℕ). energy_of_all q (readings f.then) ≤ n) (sym (ap (λ z. z.monitors) x.settings)) less))
]

pub every_story_settles : (s : StoryView) → IsStory s → SettlesTo s
every_story_settles s h = settles_by (energy_of_all s.settings.monitors (readings s)) s h (le_refl (energy_of_all s.settings.monitors (readings s)))

-- ---- where nothing moves

pub idle_is_calm : (s : StoryView) → IsStory s → CanOnlyChange s → is_calm s.settings s.journal ≡ true
idle_is_calm s h c = still_calm s h (idle_is_still s h c)

pub idle_took_stop : (s : StoryView) → IsStory s → CanOnlyChange s → is_stopped s.journal ≡ true → (mon : ℕ) → IsMonitor s.settings mon → has_stopped (trail_of s mon) ≡ true
idle_took_stop s h c stopped mon m =
    let still = idle_is_still s h c in
    halted (trail_of s mon) (some_halt (taken_by (trail_of s mon)) (ap (λ (xs : List Frame). last_of xs) (still.down mon m) ∙ stop_last (start s.settings) s.journal mon (start_is_set_up s h) h.journal_legal m stopped))
