-- What is read of a story, monitor by monitor.
use Rattle.std.proofs.Common.{◌≡◌, ℕ, ◌-◌, ◌≤◌, Bool, true, false, List, [], length, refl, ap, ◌∙◌, arith}
use Rattle.std.specs.Prelude.{if◌then◌else◌}
use Rattle.std.proofs.lemmas.List.{get_or-set_other, length-append}
use Rattle.tk_frames.specs.declared.frame.Frame.{Frame}
use Rattle.tk_journal.specs.Laws.{IsMonitor}
use Rattle.tk_drain.specs.Energy.{Local}
use Rattle.tk_base.specs.History.{IsFront}
use Rattle.tk_story.proofs.JoinLemmas.{rest_of}
use Rattle.tk_trail.specs.declared.entry.Entry.{Entry}
use Rattle.tk_world.specs.Events.{is_monitor, with_trail}
use Rattle.tk_story.specs.Story.{IsStory, StoryView, setup_of, trail_of}
use Rattle.tk_drain.specs.Reads.{local_of, nobody, reading}
use Rattle.tk_world.proofs.IdleLemmas.{is_one}
use Rattle.tk_world.proofs.StepLemmas.{monitor_is, trail_there}

-- ---- options

-- ---- monitors

pub local_own : (s : StoryView) (mon : ℕ) → IsMonitor s.settings mon → local_of s mon ≡ reading (setup_of s mon) (trail_of s mon) mon s.journal
local_own s mon m = ap (λ b. if b then reading (setup_of s mon) (trail_of s mon) mon s.journal else nobody) (is_one s mon m)

pub either_by : (b : Bool) (x y : Local) → (b ≡ true → x ≡ y) → (if b then x else nobody) ≡ (if b then y else nobody)
either_by true x y same = same refl
either_by false x y same = refl

-- ---- one trail goes on

pub others_same : (s : StoryView) (mon : ℕ) → IsMonitor s.settings mon → (trail : List Entry) (j : ℕ) → (j ≡ mon → ⊥) → local_of (with_trail s mon trail) j ≡ local_of s j
others_same s mon m trail j apart =
    either_by (is_monitor s j) (reading (setup_of s j) (trail_of (with_trail s mon trail) j) j s.journal) (reading (setup_of s j) (trail_of s j) j s.journal) (λ is.
    let r = monitor_is s j is in
    ap (λ (t : List Entry). reading (setup_of s j) t j s.journal) (get_or-set_other s.trails (mon - 1) (j - 1) trail [] (λ same. apart (let a = m.from_one in let b = r.from_one in omega (arith, a, b, same)))))

pub own_now : (s : StoryView) → IsStory s → (mon : ℕ) → IsMonitor s.settings mon → (trail : List Entry) → local_of (with_trail s mon trail) mon ≡ reading (setup_of s mon) trail mon s.journal
own_now s h mon m trail = local_own (with_trail s mon trail) mon m ∙ ap (λ (t : List Entry). reading (setup_of s mon) t mon s.journal) (trail_there s h mon m trail)

-- ---- fronts

pub front_length : (xs ys : List Frame) → IsFront xs ys → length xs ≤ length ys
front_length xs ys h = let r = rest_of xs ys h in let a = ap (λ (zs : List Frame). length zs) r.is in let b = length-append xs r.rest in omega (arith, a, b)
