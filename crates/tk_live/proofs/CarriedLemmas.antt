-- The bytes of a story that is over: every monitor took all that it was sent.
use Rattle.std.proofs.Common.{◌≡◌, ◌≤◌, ◌<◌, ◌+◌, ◌-◌, ◌⊎◌, ℕ, zero, suc, List, [], ◌∷◌, ◌++◌, length, take, drop, get_or, sum_by, true, Some, refl, sym, ap, ◌∙◌, inl, inr, arith, add-one, append-nil}
use Rattle.std.specs.Prelude.{if◌then◌else◌}
use Rattle.std.specs.List.{range_with_len}
use Rattle.std.proofs.Math.Seq.{take-length, take-suc}
use Rattle.std.proofs.lemmas.List.{take-append-drop}
use Rattle.std.proofs.lemmas.List.Sums.{sum_by-append, sum_by-cons}
use Rattle.tk_base.specs.History.{IsFront}
use Rattle.tk_frames.specs.Spelling.{IsVersion}
use Rattle.tk_frames.specs.declared.frame.Frame.{Frame}
use Rattle.tk_journal.specs.Laws.{IsMonitor}
use Rattle.tk_journal.specs.Legal.{start}
use Rattle.tk_journal.specs.Links.{frames_from, frames_to}
use Rattle.tk_journal.specs.Readings.{monitors}
use Rattle.tk_story.proofs.DownLemmas.{down_is_taken}
use Rattle.tk_story.proofs.QuietLemmas.{joined}
use Rattle.tk_story.specs.Story.{IsStory, StoryView, setup_of, trail_of}
use Rattle.tk_trail.specs.Readings.{is_stopped, taken_by}
use Rattle.tk_trail.specs.Refusal.{refusal_of, refusal_of_kind, shown_by}
use Rattle.tk_trail.specs.Setup.{MonitorSetup}
use Rattle.tk_trail.specs.declared.entry.Entry.{Entry}
use Rattle.tk_trail.specs.declared.refusal.MonitorRefusal.TheVariants.{AfterStop}
use Rattle.tk_world.proofs.RangeLemmas.{summed_more}
use Rattle.tk_live.specs.Carried.{IsCarried, bytes_of, least_bytes}
use Rattle.tk_live.specs.Complete.{IsHeard, heard_at, took_in}

-- ---- what was taken

-- a front is the whole, or something stands behind it
front_is : {X : Type 0} (xs ys d : List X) → ys ≡ xs ++ d → (ys ≡ xs) ⊎ ((x : X) × ((rest : List X) × (ys ≡ xs ++ x ∷ rest)))
front_is xs ys [] is = inl (is ∙ append-nil xs)
front_is xs ys (x ∷ rest) is = inr (x, (rest, is))

front_or : {X : Type 0} (xs ys : List X) → IsFront xs ys → (ys ≡ xs) ⊎ ((x : X) × ((rest : List X) × (ys ≡ xs ++ x ∷ rest)))
front_or xs ys front = front_is xs ys (drop (length xs) ys) (sym (take-append-drop (length xs) ys) ∙ ap (λ zs. zs ++ drop (length xs) ys) (sym front.is))

-- who took Stop takes nothing more
refuses_all : (setup : MonitorSetup) (trail : List Entry) (frame : Frame) → is_stopped trail ≡ true → refusal_of setup trail frame ≡ Some AfterStop
unfolding refusal_of
refuses_all setup trail frame stopped = ap (λ b. if b then Some AfterStop else refusal_of_kind (shown_by setup trail) frame) stopped

-- so it took all
pub all_taken : (s : StoryView) (mon : ℕ) → IsStory s → IsMonitor s.settings mon → is_stopped (trail_of s mon) ≡ true → frames_to mon s.journal ≡ taken_by (trail_of s mon)
all_taken s mon h m stopped = elim (front_or (taken_by (trail_of s mon)) (frames_to mon s.journal) ((h.links mon m).down)) [
  | inl is ↦ is
  | inr more ↦
      let frame = more.0 in
      let none = down_is_taken (start s.settings) s.journal mon (setup_of s mon) (trail_of s mon) frame more.1.0 (joined s h mon m) refl more.1.1 in
      let some = refuses_all (setup_of s mon) (trail_of s mon) frame stopped in absurd (cc)
]

-- ---- sums

-- the sum over a list is that over its places
sum_to : {X : Type 0} (f : X → ℕ) (g : ℕ → ℕ) (xs : List X) (d : X) (n : ℕ) → n ≤ length xs → ((i : ℕ) → i < length xs → f (get_or xs i d) ≡ g (i + 1)) → sum_by f (take n xs) ≡ sum_by g (range_with_len 1 n)
sum_to f g xs d zero within each = refl
sum_to f g xs d (suc n) within each =
    let before = sum_to f g xs d n (omega (arith, within)) each in
    let here : n < length xs = omega (arith, within) in
    let more : sum_by f (take (suc n) xs) ≡ sum_by f (take n xs) + (f (get_or xs n d) + 0) = ap (sum_by f) (take-suc xs n d here) ∙ sum_by-append f (take n xs) (get_or xs n d ∷ []) ∙ ap (λ k. sum_by f (take n xs) + k) (sum_by-cons f (get_or xs n d) []) in
    let next = summed_more g n in
    let range : sum_by g (range_with_len 1 (suc n)) ≡ sum_by g (range_with_len 1 (n + 1)) = ap (λ k. sum_by g (range_with_len 1 k)) (sym (add-one n)) in
    omega (arith, before, more, next, range, each n here)

pub sum_places : {X : Type 0} (f : X → ℕ) (g : ℕ → ℕ) (xs : List X) (d : X) (n : ℕ) → length xs ≡ n → ((i : ℕ) → i < length xs → f (get_or xs i d) ≡ g (i + 1)) → sum_by f xs ≡ sum_by g (range_with_len 1 n)
sum_places f g xs d n count each =
    ap (sum_by f) (sym (take-length xs)) ∙ sum_to f g xs d (length xs) (omega arith) each ∙ ap (λ k. sum_by g (range_with_len 1 k)) count

pub sum_both : {X : Type 0} (f g : X → ℕ) (xs : List X) → sum_by (λ x. f x + g x) xs ≡ sum_by f xs + sum_by g xs
sum_both f g [] = refl
sum_both f g (x ∷ xs) =
    let rest = sum_both f g xs in
    let both = sum_by-cons (λ x. f x + g x) x xs in
    let one = sum_by-cons f x xs in
    let two = sum_by-cons g x xs in
    omega (arith, rest, both, one, two)

-- ---- what the links carried

took_all : (version : ℕ) (s : StoryView) → IsStory s → ((mon : ℕ) → IsMonitor s.settings mon → is_stopped (trail_of s mon) ≡ true)
    → sum_by (took_in version) s.trails ≡ sum_by (λ mon. bytes_of version (frames_to mon s.journal)) (monitors s.settings)
took_all version s h halted =
    sum_places (took_in version) (λ mon. bytes_of version (frames_to mon s.journal)) s.trails [] s.settings.monitors h.count (λ i within.
    let m : IsMonitor s.settings (i + 1) = record { from_one = omega arith; within = omega (arith, within, h.count) } in
    let place : (i + 1) - 1 ≡ i = omega arith in
    let here : trail_of s (i + 1) ≡ get_or s.trails i [] = ap (λ k. get_or s.trails k []) place in
    ap (λ t. bytes_of version (taken_by t)) (sym here) ∙ ap (bytes_of version) (sym (all_taken s (i + 1) h m (halted (i + 1) m))))

sum_at_most : {X : Type 0} (f g : X → ℕ) → ((x : X) → f x ≤ g x) → (xs : List X) → sum_by f xs ≤ sum_by g xs
sum_at_most f g each [] = omega arith
sum_at_most f g each (x ∷ xs) =
    let rest = sum_at_most f g each xs in
    let one = sum_by-cons f x xs in
    let two = sum_by-cons g x xs in
    omega (arith, rest, one, two, each x)

-- of two versions the one that has fewer bytes has no more than either
least_of : (version : ℕ) (frames : List Frame) → IsVersion version → least_bytes frames ≤ bytes_of version frames
least_of version frames (inl is) = let same : bytes_of version frames ≡ bytes_of 1 frames = ap (λ v. bytes_of v frames) is in omega (arith, same)
least_of version frames (inr is) = let same : bytes_of version frames ≡ bytes_of 2 frames = ap (λ v. bytes_of v frames) is in omega (arith, same)

pub carried : (version : ℕ) (s : StoryView) (old new : ℕ) → IsStory s → ((mon : ℕ) → IsMonitor s.settings mon → is_stopped (trail_of s mon) ≡ true) → IsHeard version s old new → IsCarried version s old new
carried version s old new h halted heard =
    let least : ℕ → ℕ = λ mon. 18 + least_bytes (frames_from mon s.journal) in
    let sent : ℕ → ℕ = λ mon. bytes_of version (frames_to mon s.journal) in
    let fewer = sum_at_most least (heard_at heard.said s.journal) (λ mon. let few = least_of (heard.said mon) (frames_from mon s.journal) (heard.versions mon) in omega (arith, few)) (monitors s.settings) in
    let took = took_all version s h halted in
    let both = sum_both least sent (monitors s.settings) in
    omega (arith, heard.taken, fewer, took, both)
