-- A leg of a sweep, as far as it went.
use Rattle.tk_drain.specs.declared.leg.Leg.TheVariants as p
use Rattle.std.proofs.Common.{◌≡◌, ℕ, suc, zero, ◌+◌, ◌-◌, ◌<◌, ◌≤◌, true, false, List, [], ◌∷◌, ◌++◌, length, map, take, Option, Some, None, refl, sym, ap, ◌∙◌, subst, arith, inl, inr}
use Rattle.std.specs.Prelude.{Result, Ok, Err, OnErr, is_some, ◌⊎◌}
use Rattle.std.specs.List.{list_all, range_with_len}
use Rattle.std.proofs.lemmas.List.{length-append}
use Rattle.std.proofs.lemmas.List.FromFn.{length-map-range_with_len, map-range_with_len_more, take-map-range_with_len}
use Rattle.std.proofs.lemmas.List.Sums.{fold-append}
use Rattle.tk_base.specs.Settings.{Setup}
use Rattle.tk_base.specs.History.{IsFront}
use Rattle.tk_base.specs.declared.ids.Mon.{Mon}
use Rattle.tk_journal.specs.Laws.{IsMonitor}
use Rattle.tk_journal.specs.Readings.{monitors}
use Rattle.tk_input.specs.declared.event.Event.{Event}
use Rattle.tk_story.specs.Kept.{KeptStory}
use Rattle.tk_story.specs.Story.{IsStory, StoryView}
use Rattle.tk_world.specs.Events.{CanOnlyChange, after, check_at, down_at, next_of, up_at}
use Rattle.tk_world.specs.World.{AreAtRest, IsAtRest, Moves}
use Rattle.tk_world.specs.declared.moved.Moved.{Moved}
use Rattle.tk_world.specs.declared.moved.Moved.TheVariants.{Yes, Idle}
use Rattle.tk_drain.specs.declared.leg.Leg.{Leg}
use Rattle.tk_drain.specs.Drive.{KeepsFront, keep, keep_all, sweep_events, swept}
use Rattle.tk_drain.specs.Legs.{Grows, leg_at, leg_events}
use Rattle.tk_drain.proofs.KeepLemmas.{idle_kept, is_idle, keep_none, keep_some, none_idle, took_of}
use Rattle.tk_drain.proofs.RaiseLemmas.{run_alike}
use Rattle.tk_drain.proofs.SweepLemmas.{each_true, idle_can_only_change, three_true}

-- the first monitors of a leg are passed
pub record LegUpTo (leg : Leg) (old now : KeptStory) (moved : Moved) (next : ℕ) : Type 0 where
  pub story : IsStory now.story
  pub settings : now.story.settings ≡ old.story.settings
  pub from_one : 1 ≤ next
  pub most : next ≤ old.story.settings.monitors + 1
  pub is : now ≡ keep_all old (map (leg_at leg) (range_with_len 1 (next - 1)))
  pub grows : Grows moved old now

-- ---- one step

pub moves_keep : (old new : KeptStory) (e : Event) (moved : Moved) → Moves old e moved new → new ≡ keep old e
moves_keep old new e Yes x = ap (λ (es : List Event). record { story = new.story; events = es }) x.1 ∙ sym (keep_some old e new.story x.0)
moves_keep old new e Idle x = x.1 ∙ sym (keep_none old e x.0)

longer : (xs ys zs : List Event) (e : Event) → length xs ≤ length ys → zs ≡ ys ++ e ∷ [] → length xs < length zs
longer xs ys zs e most is = let a = ap (λ (l : List Event). length l) is in let b = length-append ys (e ∷ []) in omega (arith, most, a, b)

grown_most : (moved : Moved) (old now : KeptStory) → Grows moved old now → length old.events ≤ length now.events
grown_most Yes old now g = omega (arith, g)
grown_most Idle old now g = let a = ap (λ (k : KeptStory). length k.events) g in omega (arith, a)

pub step_grows : (old now new : KeptStory) (e : Event) (before : Moved) → Grows before old now → Moves now e Yes new → Grows Yes old new
step_grows old now new e before g x = longer old.events now.events new.events e (grown_most before old now g) x.1

pub moves_settings : (old new : KeptStory) (e : Event) (moved : Moved) → IsStory old.story → Moves old e moved new → new.story.settings ≡ old.story.settings
moves_settings old new e Yes h x = (run_alike old.story new.story (e ∷ []) (ap (λ (o : Option StoryView). after o []) x.0)).settings
moves_settings old new e Idle h x = ap (λ (k : KeptStory). k.story.settings) x.1

pub step_after : (before step after : Moved) (old now new : KeptStory) (e : Event) → Moves now e step new → Grows before old now → ((step ≡ Yes) × (after ≡ Yes)) ⊎ ((step ≡ Idle) × (after ≡ before)) → Grows after old new
step_after before step after old now new e moves grows (inl x) =
    subst (λ (z : Moved). Grows z old new) (sym x.1) (step_grows old now new e before grows (subst (λ (z : Moved). Moves now e z new) x.0 moves))
step_after before step after old now new e moves grows (inr x) =
    let same : new ≡ now = (subst (λ (z : Moved). Moves now e z new) x.0 moves).1 in
    subst (λ (z : Moved). Grows z old new) (sym x.1) (subst (λ (k : KeptStory). Grows before old k) (sym same) grows)

-- ---- one more monitor

keep_more : (make : ℕ → Event) (a : KeptStory) (k : ℕ) → keep_all a (map make (range_with_len 1 (k + 1))) ≡ keep (keep_all a (map make (range_with_len 1 k))) (make (k + 1))
keep_more make a k =
    ap (keep_all a) (map-range_with_len_more make 1 k (k + 1) (omega arith)) ∙ fold-append keep a (map make (range_with_len 1 k)) (make (k + 1) ∷ [])

none_more : (k : ℕ) → k ≡ k + 0
none_more k = omega arith

one_more : (k n : ℕ) → k + n + 1 ≡ k + suc n
one_more k n = omega arith

-- monitors at which the event is idle change nothing
over_idle : (make : ℕ → Event) (old now : KeptStory) (k n : ℕ) → now ≡ keep_all old (map make (range_with_len 1 k)) → ((q : ℕ) → k < q → q ≤ k + n → next_of now.story (make q) ≡ None)
    → now ≡ keep_all old (map make (range_with_len 1 (k + n)))
over_idle make old now k zero is idle = subst (λ z. now ≡ keep_all old (map make (range_with_len 1 z))) (none_more k) is
over_idle make old now k (suc n) is idle =
    let before = over_idle make old now k n is (λ q low high. idle q low (omega (arith, high))) in
    let here : next_of now.story (make (k + n + 1)) ≡ None = idle (k + n + 1) (omega arith) (omega arith) in
    subst (λ z. now ≡ keep_all old (map make (range_with_len 1 z))) (one_more k n)
    (sym (keep_none now (make (k + n + 1)) here) ∙ ap (λ (z : KeptStory). keep z (make (k + n + 1))) before ∙ sym (keep_more make old (k + n)))

at_rest : (leg : Leg) (s : StoryView) (mon : ℕ) → IsAtRest s mon → next_of s (leg_at leg mon) ≡ None
at_rest p.Check s mon r = r.check
at_rest p.Up s mon r = r.up
at_rest p.Down s mon r = r.down

-- the monitors up to the one that was found
pub leg_found : (leg : Leg) (old now : KeptStory) (moved : Moved) (next : ℕ) (mon : Mon) → LegUpTo leg old now moved next → next ≤ mon.0 → AreAtRest now.story next (Some mon)
    → now ≡ keep_all old (map (leg_at leg) (range_with_len 1 (mon.0 - 1)))
leg_found leg old now moved next mon x low rest =
    let one = x.from_one in
    let all : next - 1 + (mon.0 - next) ≡ mon.0 - 1 = omega (arith, one, low) in
    subst (λ z. now ≡ keep_all old (map (leg_at leg) (range_with_len 1 z))) all
    (over_idle (leg_at leg) old now (next - 1) (mon.0 - next) x.is (λ q more less. at_rest leg now.story q (rest q (omega (arith, one, more)) (omega (arith, one, low, less)))))

-- and all monitors, where none was found
pub leg_ends : (leg : Leg) (old now : KeptStory) (moved : Moved) (next : ℕ) → LegUpTo leg old now moved next → AreAtRest now.story next None → now ≡ keep_all old (leg_events leg old.story.settings)
leg_ends leg old now moved next x rest =
    let one = x.from_one in
    let most = x.most in
    let m = old.story.settings.monitors in
    let all : next - 1 + (m + 1 - next) ≡ m = omega (arith, one, most) in
    subst (λ z. now ≡ keep_all old (map (leg_at leg) (range_with_len 1 z))) all
    (over_idle (leg_at leg) old now (next - 1) (m + 1 - next) x.is (λ q more less. at_rest leg now.story q (rest q (omega (arith, one, more)) tt)))

-- the monitor that was found has its event
pub leg_steps : (leg : Leg) (old now new : KeptStory) (moved step after : Moved) (next : ℕ) (mon : Mon) → LegUpTo leg old now moved next → next ≤ mon.0 → IsMonitor now.story.settings mon.0 → AreAtRest now.story next (Some mon)
    → Moves now (leg_at leg mon.0) step new → IsStory new.story → Grows after old new → LegUpTo leg old new after (mon.0 + 1)
leg_steps leg old now new moved step after next mon x low m rest moves h grows =
    let kept = moves_keep now new (leg_at leg mon.0) step moves in
    let one = m.from_one in
    let within = m.within in
    let settings : new.story.settings ≡ now.story.settings = moves_settings now new (leg_at leg mon.0) step x.story moves in
    let same = ap (λ (z : Setup). z.monitors) x.settings in
    let found = leg_found leg old now moved next mon x low rest in
    let all : mon.0 - 1 + 1 ≡ mon.0 + 1 - 1 = omega (arith, one) in
    let here : mon.0 - 1 + 1 ≡ mon.0 = omega (arith, one) in
    record {
      story = h;
      settings = settings ∙ x.settings;
      from_one = omega arith;
      most = omega (arith, within, same);
      is = kept ∙ ap (λ (z : KeptStory). keep z (leg_at leg mon.0)) found
          ∙ subst (λ z. keep (keep_all old (map (leg_at leg) (range_with_len 1 (mon.0 - 1)))) (leg_at leg mon.0) ≡ keep_all old (map (leg_at leg) (range_with_len 1 z))) all
          (subst (λ z. keep (keep_all old (map (leg_at leg) (range_with_len 1 (mon.0 - 1)))) (leg_at leg z) ≡ keep_all old (map (leg_at leg) (range_with_len 1 (mon.0 - 1 + 1)))) here
          (sym (keep_more (leg_at leg) old (mon.0 - 1))));
      grows = grows;
    }

less_left : (m n next mon : ℕ) → m ≡ n → next ≤ mon → mon ≤ n → m + 1 - (mon + 1) < n + 1 - next
less_left m n next mon same low within = omega (arith, same, low, within)

-- fewer monitors are left
pub leg_smaller : (now new : KeptStory) (e : Event) (step : Moved) (next mon : ℕ) → IsStory now.story → next ≤ mon → IsMonitor now.story.settings mon → Moves now e step new → new.story.settings.monitors + 1 - (mon + 1) < now.story.settings.monitors + 1 - next
leg_smaller now new e step next mon h low m moves =
    less_left new.story.settings.monitors now.story.settings.monitors next mon (ap (λ (z : Setup). z.monitors) (moves_settings now new e step h moves)) low m.within

-- a front of the leg, where it is cut off
pub leg_front : (leg : Leg) (old now : KeptStory) (moved : Moved) (next : ℕ) → LegUpTo leg old now moved next → KeepsFront (leg_events leg old.story.settings) old now
leg_front leg old now moved next x = record {
  front = map (leg_at leg) (range_with_len 1 (next - 1));
  is_front = (
      let m = old.story.settings.monitors in
      let few : next - 1 ≤ m = (let a = x.from_one in let b = x.most in omega (arith, a, b)) in
      record { is = sym (ap (λ (z : ℕ). take z (leg_events leg old.story.settings)) (length-map-range_with_len (leg_at leg) 1 (next - 1)) ∙ take-map-range_with_len (leg_at leg) 1 m (next - 1) few) });
  is = x.is;
}

-- ---- a sweep of three legs

sweep_parts : (a : KeptStory) → swept a ≡ keep_all (keep_all (keep_all a (leg_events p.Check a.story.settings)) (leg_events p.Up a.story.settings)) (leg_events p.Down a.story.settings)
unfolding sweep_events
sweep_parts a =
    let c = leg_events p.Check a.story.settings in
    let u = leg_events p.Up a.story.settings in
    let d = leg_events p.Down a.story.settings in
    fold-append keep a (c ++ u) d ∙ ap (λ (z : KeptStory). keep_all z d) (fold-append keep a c u)

-- a leg, done
pub record LegDone (leg : Leg) (old new : KeptStory) (moved : Moved) : Type 0 where
  pub is : new ≡ keep_all old (leg_events leg old.story.settings)
  pub grows : Grows moved old new
  pub settings : new.story.settings ≡ old.story.settings

pub leg_done : (leg : Leg) (old new : KeptStory) (moved : Moved) → IsStory old.story → new ≡ keep_all old (leg_events leg old.story.settings) → Grows moved old new → LegDone leg old new moved
leg_done leg old new moved h is grows =
    let t = took_of old (leg_events leg old.story.settings) in
    record {
      is = is;
      grows = grows;
      settings = ap (λ (k : KeptStory). k.story.settings) is ∙ (run_alike old.story (keep_all old (leg_events leg old.story.settings)).story t.took t.leads.runs).settings;
    }

next_leg : (leg : Leg) (a b c : KeptStory) (moved : Moved) → b.story.settings ≡ a.story.settings → LegDone leg b c moved → c ≡ keep_all b (leg_events leg a.story.settings)
next_leg leg a b c moved same x = x.is ∙ ap (λ (z : Setup). keep_all b (leg_events leg z)) same

pub sweep_done : (a b c d : KeptStory) (x y z : Moved) → LegDone p.Check a b x → LegDone p.Up b c y → LegDone p.Down c d z → d ≡ swept a
sweep_done a b c d x y z one two three =
    let to_c = next_leg p.Up a b c y one.settings two in
    let to_d = next_leg p.Down a c d z (two.settings ∙ one.settings) three in
    to_d ∙ ap (λ (k : KeptStory). keep_all k (leg_events p.Down a.story.settings)) to_c
    ∙ ap (λ (k : KeptStory). keep_all (keep_all k (leg_events p.Up a.story.settings)) (leg_events p.Down a.story.settings)) one.is ∙ sym (sweep_parts a)

-- ---- fronts of a sweep

taken_behind : (xs ys front : List Event) → front ≡ take (length front) ys → xs ++ front ≡ take (length (xs ++ front)) (xs ++ ys)
taken_behind [] ys front is = is
taken_behind (x ∷ xs) ys front is = ap (λ (zs : List Event). x ∷ zs) (taken_behind xs ys front is)

front_behind : (xs ys front : List Event) → IsFront front ys → IsFront (xs ++ front) (xs ++ ys)
front_behind xs ys front f = record { is = taken_behind xs ys front f.is }

take_before : (front xs ys : List Event) → front ≡ take (length front) xs → front ≡ take (length front) (xs ++ ys)
take_before [] xs ys is = refl
take_before (e ∷ front) [] ys is = absurd (cc)
take_before (e ∷ front) (x ∷ xs) ys is =
    let first : e ≡ x = cc in
    let rest : front ≡ take (length front) xs = cc in
    let more = take_before front xs ys rest in
    cc

front_before : (front xs ys : List Event) → IsFront front xs → IsFront front (xs ++ ys)
front_before front xs ys f = record { is = take_before front xs ys f.is }

keep_front : (a b c : KeptStory) (xs ys : List Event) → b ≡ keep_all a xs → KeepsFront ys b c → KeepsFront (xs ++ ys) a c
keep_front a b c xs ys is f = record {
  front = xs ++ f.front;
  is_front = front_behind xs ys f.front f.is_front;
  is = f.is ∙ ap (λ (k : KeptStory). keep_all k f.front) is ∙ sym (fold-append keep a xs f.front);
}

more_behind : (a c : KeptStory) (xs ys : List Event) → KeepsFront xs a c → KeepsFront (xs ++ ys) a c
more_behind a c xs ys f = record { front = f.front; is_front = front_before f.front xs ys f.is_front; is = f.is }

same_events : (leg : Leg) (a b c : KeptStory) → b.story.settings ≡ a.story.settings → KeepsFront (leg_events leg b.story.settings) b c → KeepsFront (leg_events leg a.story.settings) b c
same_events leg a b c same f = subst (λ (z : Setup). KeepsFront (leg_events leg z) b c) same f

pub cut_in_checks : (a b : KeptStory) → KeepsFront (leg_events p.Check a.story.settings) a b → KeepsFront (sweep_events a.story.settings) a b
unfolding sweep_events
cut_in_checks a b f =
    let c = leg_events p.Check a.story.settings in
    let u = leg_events p.Up a.story.settings in
    more_behind a b (c ++ u) (leg_events p.Down a.story.settings) (more_behind a b c u f)

pub cut_in_ups : (a b c : KeptStory) (x : Moved) → LegDone p.Check a b x → KeepsFront (leg_events p.Up b.story.settings) b c → KeepsFront (sweep_events a.story.settings) a c
unfolding sweep_events
cut_in_ups a b c x one f =
    let checks = leg_events p.Check a.story.settings in
    let ups = leg_events p.Up a.story.settings in
    more_behind a c (checks ++ ups) (leg_events p.Down a.story.settings) (keep_front a b c checks ups one.is (same_events p.Up a b c one.settings f))

pub cut_in_downs : (a b c d : KeptStory) (x y : Moved) → LegDone p.Check a b x → LegDone p.Up b c y → KeepsFront (leg_events p.Down c.story.settings) c d → KeepsFront (sweep_events a.story.settings) a d
unfolding sweep_events
cut_in_downs a b c d x y one two f =
    let checks = leg_events p.Check a.story.settings in
    let ups = leg_events p.Up a.story.settings in
    let to_c = next_leg p.Up a b c y one.settings two in
    keep_front a c d (checks ++ ups) (leg_events p.Down a.story.settings)
    (to_c ∙ ap (λ (k : KeptStory). keep_all k ups) one.is ∙ sym (fold-append keep a checks ups))
    (same_events p.Down a c d (two.settings ∙ one.settings) f)

-- ---- whether a sweep moved something

-- where nothing but a raise or a retune can happen, each event of a sweep is idle
can_only_idle : (s : StoryView) → CanOnlyChange s → list_all (is_idle s) (sweep_events s.settings) ≡ true
unfolding sweep_events
can_only_idle s c =
    let m = s.settings.monitors in
    three_true (is_idle s) (map check_at (monitors s.settings)) (map up_at (monitors s.settings)) (map down_at (monitors s.settings))
    (each_true (is_idle s) check_at 1 m (λ q low high. none_idle (next_of s (check_at q)) (c.check q (record { from_one = low; within = omega (arith, high) }))))
    (each_true (is_idle s) up_at 1 m (λ q low high. none_idle (next_of s (up_at q)) (c.up q (record { from_one = low; within = omega (arith, high) }))))
    (each_true (is_idle s) down_at 1 m (λ q low high. none_idle (next_of s (down_at q)) (c.down q (record { from_one = low; within = omega (arith, high) }))))

pub idle_swept : (a : KeptStory) → CanOnlyChange a.story → swept a ≡ a
idle_swept a c = idle_kept a (sweep_events a.story.settings) (can_only_idle a.story c)

empty_list : (xs : List Event) → length xs ≡ 0 → xs ≡ []
empty_list [] is = refl
empty_list (x ∷ xs) is = absurd (omega (arith, is))

no_events : (xs ys : List Event) → ys ≡ ys ++ xs → xs ≡ []
no_events xs ys is = (let a = ap (λ (l : List Event). length l) is in let b = length-append ys xs in empty_list xs (omega (arith, a, b)))

pub swept_idle : (a : KeptStory) → swept a ≡ a → CanOnlyChange a.story
swept_idle a is =
    let t = took_of a (sweep_events a.story.settings) in
    idle_can_only_change a.story (t.none (no_events t.took a.events (sym (ap (λ (k : KeptStory). k.events) is) ∙ t.leads.kept)))

pub grown_moves : (a b : KeptStory) → b ≡ swept a → length a.events < length b.events → CanOnlyChange a.story → ⊥
grown_moves a b is grows c = let e = ap (λ (k : KeptStory). length k.events) (is ∙ idle_swept a c) in omega (arith, e, grows)

pub sweep_tells : (a b : KeptStory) (moved : Moved) → b ≡ swept a → Grows moved a b → (moved ≡ Idle → CanOnlyChange a.story) × (CanOnlyChange a.story → moved ≡ Idle)
sweep_tells a b Idle is grows = (λ _. swept_idle a (sym is ∙ grows), λ _. refl)
sweep_tells a b Yes is grows = (λ same. absurd (cc), λ idle. absurd (grown_moves a b is grows idle))

-- ---- where nothing but a raise or a retune is enabled

-- no event of a leg is enabled there
leg_idle : (leg : Leg) (s : StoryView) → CanOnlyChange s → (mon : ℕ) → IsMonitor s.settings mon → next_of s (leg_at leg mon) ≡ None
leg_idle p.Check s c mon m = c.check mon m
leg_idle p.Up s c mon m = c.up mon m
leg_idle p.Down s c mon m = c.down mon m

-- a leg leaves it as it is, as far as it went
leg_stands : (leg : Leg) (old now : KeptStory) (moved : Moved) (next : ℕ) → LegUpTo leg old now moved next → CanOnlyChange old.story → now ≡ old
leg_stands leg old now moved next x c =
    let one = x.from_one in
    let most = x.most in
    x.is
    ∙ idle_kept old (map (leg_at leg) (range_with_len 1 (next - 1)))
    (each_true (is_idle old.story) (leg_at leg) 1 (next - 1) (λ q low high. none_idle (next_of old.story (leg_at leg q)) (leg_idle leg old.story c q (record { from_one = low; within = omega (arith, one, most, high) }))))

-- so where an event of a leg is enabled, something was enabled before the leg
pub leg_busy : (leg : Leg) (old now : KeptStory) (moved : Moved) (next mon : ℕ) (e : Event) → LegUpTo leg old now moved next → IsMonitor now.story.settings mon → e ≡ leg_at leg mon
    → is_some (next_of now.story e) ≡ true → CanOnlyChange old.story → ⊥
leg_busy leg old now moved next mon e x m is some c =
    let here : CanOnlyChange now.story = subst (λ (k : KeptStory). CanOnlyChange k.story) (sym (leg_stands leg old now moved next x c)) c in
    let none : is_some (next_of now.story e) ≡ false = ap (λ (v : Event). is_some (next_of now.story v)) is ∙ ap (λ (o : Option StoryView). is_some o) (leg_idle leg now.story here mon m) in
    cc

-- a whole leg leaves nothing enabled there
pub still_behind : (leg : Leg) (a b : KeptStory) (moved : Moved) → LegDone leg a b moved → CanOnlyChange a.story → CanOnlyChange b.story
still_behind leg a b moved x c =
    let same : b ≡ a = x.is ∙ idle_kept a (leg_events leg a.story.settings)
    (each_true (is_idle a.story) (leg_at leg) 1 a.story.settings.monitors (λ q low high. none_idle (next_of a.story (leg_at leg q)) (leg_idle leg a.story c q (record { from_one = low; within = omega (arith, high) })))) in
    subst (λ (k : KeptStory). CanOnlyChange k.story) (sym same) c

-- ---- results

pub err_by : {T E P : Type 0} (r : Result T E) → P → OnErr r P
err_by (Ok x) p = tt
err_by (Err e) p = p
