-- Sweeps: each moves something, or nothing can move.
use Rattle.std.proofs.Common.{◌≡◌, ℕ, suc, zero, ◌+◌, ◌<◌, ◌≤◌, Bool, true, List, ◌++◌, map, refl, sym, ◌∙◌, arith}
use Rattle.std.specs.List.{list_all, range_with_len}
use Rattle.std.proofs.lemmas.Bool.{and_parts, and_from}
use Rattle.std.proofs.lemmas.List.Folds.{list_all-append}
use Rattle.tk_base.specs.Settings.{Setup}
use Rattle.tk_journal.specs.Readings.{monitors}
use Rattle.tk_input.specs.declared.event.Event.{Event}
use Rattle.tk_story.specs.Story.{StoryView}
use Rattle.tk_world.specs.Events.{CanOnlyChange, check_at, down_at, next_of, up_at}
use Rattle.tk_drain.specs.Drive.{sweep_events}
use Rattle.tk_drain.specs.Settling.{is_settling}
use Rattle.tk_drain.proofs.KeepLemmas.{is_idle, idle_none}
use Rattle.tk_drain.proofs.EndLemmas.{none_more}

-- ---- tests of the events of a leg

pub each_true : (p : Event → Bool) (make : ℕ → Event) (a k : ℕ) → ((q : ℕ) → a ≤ q → q < a + k → p (make q) ≡ true) → list_all p (map make (range_with_len a k)) ≡ true
each_true p make a zero each = refl
each_true p make a (suc k) each =
    and_from (p (make a)) (list_all p (map make (range_with_len (a + 1) k))) (each a (omega arith) (omega arith))
    (each_true p make (a + 1) k (λ q low high. each q (omega (arith, low)) (omega (arith, high))))

pub true_each : (p : Event → Bool) (make : ℕ → Event) (a k : ℕ) → list_all p (map make (range_with_len a k)) ≡ true → (q : ℕ) → a ≤ q → q < a + k → p (make q) ≡ true
true_each p make a zero all = λ q low high. absurd (omega (arith, low, high))
true_each p make a (suc k) all =
    let both = and_parts (p (make a)) (list_all p (map make (range_with_len (a + 1) k))) all in
    none_more (λ q. p (make q) ≡ true) a k both.0 (true_each p make (a + 1) k both.1)

pub three_true : (p : Event → Bool) (xs ys zs : List Event) → list_all p xs ≡ true → list_all p ys ≡ true → list_all p zs ≡ true → list_all p (xs ++ ys ++ zs) ≡ true
three_true p xs ys zs x y z =
    list_all-append p (xs ++ ys) zs
    ∙ and_from (list_all p (xs ++ ys)) (list_all p zs) (list_all-append p xs ys ∙ and_from (list_all p xs) (list_all p ys) x y) z

true_three : (p : Event → Bool) (xs ys zs : List Event) → list_all p (xs ++ ys ++ zs) ≡ true → (list_all p xs ≡ true) × (list_all p ys ≡ true) × (list_all p zs ≡ true)
true_three p xs ys zs all =
    let a = and_parts (list_all p (xs ++ ys)) (list_all p zs) (sym (list_all-append p (xs ++ ys) zs) ∙ all) in
    let b = and_parts (list_all p xs) (list_all p ys) (sym (list_all-append p xs ys) ∙ a.0) in
    (b.0, b.1, a.1)

-- ---- the events of a sweep

pub sweep_is_settling : (setup : Setup) → list_all is_settling (sweep_events setup) ≡ true
unfolding sweep_events
sweep_is_settling setup =
    let m = setup.monitors in
    three_true is_settling (map check_at (monitors setup)) (map up_at (monitors setup)) (map down_at (monitors setup))
    (each_true is_settling check_at 1 m (λ q low high. refl))
    (each_true is_settling up_at 1 m (λ q low high. refl))
    (each_true is_settling down_at 1 m (λ q low high. refl))

-- where each event of a sweep is idle, nothing but a raise or a retune can happen
pub idle_can_only_change : (s : StoryView) → list_all (is_idle s) (sweep_events s.settings) ≡ true → CanOnlyChange s
unfolding sweep_events
idle_can_only_change s all =
    let m = s.settings.monitors in
    let t : (list_all (is_idle s) (map check_at (monitors s.settings)) ≡ true) × (list_all (is_idle s) (map up_at (monitors s.settings)) ≡ true) × (list_all (is_idle s) (map down_at (monitors s.settings)) ≡ true) = true_three (is_idle s) (map check_at (monitors s.settings)) (map up_at (monitors s.settings)) (map down_at (monitors s.settings)) all in
    record {
      check = λ q r. idle_none (next_of s (check_at q)) (true_each (is_idle s) check_at 1 m t.0 q r.from_one (let w = r.within in omega (arith, w)));
      up = λ q r. idle_none (next_of s (up_at q)) (true_each (is_idle s) up_at 1 m t.1 q r.from_one (let w = r.within in omega (arith, w)));
      down = λ q r. idle_none (next_of s (down_at q)) (true_each (is_idle s) down_at 1 m t.2 q r.from_one (let w = r.within in omega (arith, w)));
    }
