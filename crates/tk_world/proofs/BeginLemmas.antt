-- How a world begins.
use Rattle.tk_frames.specs.declared.frame.Frame.TheVariants as f
use Rattle.std.proofs.Common.{◌≡◌, ℕ, suc, zero, ◌+◌, ◌-◌, ◌≤◌, ◌||◌, All, true, false, List, [], ◌∷◌, length, map, get_or, replicate, None, refl, sym, ap, ap₂, ◌∙◌, subst, arith, inl, inr}
use Rattle.std.specs.Prelude.{ℤ, sum_by, slice_get}
use Rattle.std.specs.List.{enumerate_from, range_with_len}
use Rattle.std.proofs.lemmas.Bool.{true≢false, or_parts, or_cases}
use Rattle.std.proofs.lemmas.List.FromFn.{get_or-map-range_with_len}
use Rattle.std.proofs.lemmas.List.Sums.{sum_by-cons}
use Rattle.tk_base.specs.Settings.{Setup, IsWithinLimits}
use Rattle.tk_input.specs.Logs.{AreLogs, LogSet, parts_of, places_of}
use Rattle.tk_coord.specs.Coordinator.{IsJournal}
use Rattle.tk_journal.specs.Entries.{IsEntryOf}
use Rattle.tk_journal.specs.Legal.{opened, start}
use Rattle.tk_journal.specs.Links.{frames_from, frames_to}
use Rattle.tk_journal.specs.Readings.{monitors}
use Rattle.tk_journal.specs.declared.noted.Noted.{Noted}
use Rattle.tk_journal.proofs.Pieces.{batch_from}
use Rattle.tk_monitor.specs.Kept.{left_in}
use Rattle.tk_trail.specs.Frames.{due_at, end_is_due, report_is_due}
use Rattle.tk_trail.specs.Setup.{MonitorSetup}
use Rattle.tk_trail.specs.declared.entry.Entry.{Entry}
use Rattle.tk_trail.proofs.PlacesLemmas.{places_at-start}
use Rattle.tk_story.specs.Story.{IsStory, StoryView, setup_of, trail_of}
use Rattle.tk_world.specs.Events.{begin}
use Rattle.tk_world.specs.Nodes.{fresh_seat}
use Rattle.tk_world.specs.Seats.{Holds, IsResting, IsSeat, left_at, story_in, trails_of}
use Rattle.tk_world.specs.Work.{has, is_sent}
use Rattle.tk_world.specs.World.{CanRun}
use Rattle.tk_world.specs.declared.seat.Seat.{Seat}
use Rattle.tk_world.specs.declared.work.Work.{Work}
use Rattle.tk_world.proofs.RestLemmas.{none_sent, sent_is_monitor}
use Rattle.tk_world.proofs.StepLemmas.{begin_is_story}

fresh_trails : (S : Setup) (L : LogSet) (F : List (List ℕ)) (a k : ℕ) → trails_of (map (fresh_seat S L F) (range_with_len a k)) ≡ replicate k []
fresh_trails S L F a zero = refl
fresh_trails S L F a (suc k) = ap (λ (ts : List (List Entry)). [] ∷ ts) (fresh_trails S L F (a + 1) k)

fresh_left : (S : Setup) (L : LogSet) (F : List (List ℕ)) (a k : ℕ) → sum_by left_at (map (fresh_seat S L F) (range_with_len a k)) ≡ sum_by (λ mon. left_in (parts_of L.logs mon) (places_of F mon)) (range_with_len a k)
fresh_left S L F a zero = refl
fresh_left S L F a (suc k) =
    sum_by-cons left_at (fresh_seat S L F a) (map (fresh_seat S L F) (range_with_len (a + 1) k))
    ∙ ap₂ (λ (m n : ℕ). m + n) (ap (left_in (parts_of L.logs a)) (places_at-start (fresh_seat S L F a).monitor.setup)) (fresh_left S L F (a + 1) k)
    ∙ sym (sum_by-cons (λ mon. left_in (parts_of L.logs mon) (places_of F mon)) a (range_with_len (a + 1) k))

no_trail : (k i : ℕ) → get_or {A = List Entry} (replicate k []) i [] ≡ []
no_trail zero i = refl
no_trail (suc k) zero = refl
no_trail (suc k) (suc i) = no_trail k i

nothing_due : (setup : MonitorSetup) → due_at setup [] ≡ None
unfolding due_at report_is_due end_is_due
nothing_due setup = refl

pub begun : (S : Setup) (L : LogSet) (F : List (List ℕ)) (seats : List Seat) (j : List Noted) → seats ≡ map (fresh_seat S L F) (monitors S) → j ≡ opened (start S) → story_in S L F j seats ≡ begin S L F
begun S L F seats j are is =
    ap₂ (λ (xs : List Noted) (ts : List (List Entry)). record { settings = S; logs = L; from = F; journal = xs; trails = ts }) is (ap (λ (xs : List Seat). trails_of xs) are ∙ fresh_trails S L F 1 S.monitors)

limits_of : (S S' : Setup) (j : List Noted) → S' ≡ S → IsJournal S' j → IsWithinLimits S
limits_of S S' j same journal = subst IsWithinLimits (journal.settings ∙ same) journal.set_up.limits

pub begin_holds : (S : Setup) (L : LogSet) (F : List (List ℕ)) (seats : List Seat) (j : List Noted) (raises : ℕ) (none work : Work) → IsWithinLimits S → AreLogs L → CanRun S L F
    → seats ≡ map (fresh_seat S L F) (monitors S) → j ≡ opened (start S) → All (IsEntryOf S.monitors S.objects) j
    → raises ≡ sum_by (λ mon. left_in (parts_of L.logs mon) (places_of F mon)) (range_with_len 1 (length L.logs))
    → ((q : ℕ) → has none q ≡ false) → ((q : ℕ) → has work q ≡ (has none q || is_sent j q)) → Holds S L F j seats raises work
begin_holds S L F seats j raises none work limits logs run are is entries room free adds =
    let s = story_in S L F j seats in
    let same = begun S L F seats j are is in
    let trail : (q : ℕ) → trail_of s q ≡ [] = λ q. ap (λ (x : StoryView). trail_of x q) same ∙ no_trail S.monitors (q - 1) in
    let froms : (q : ℕ) → frames_from q j ≡ [] = λ q.
    ap (frames_from q) is ∙ batch_from q (λ (p : ℕ × List (ℕ × ℤ)). p.0) (λ p. f.Assign 1 (Rattle.tk_base.specs.Objects.objects S.k) p.1) (enumerate_from 1 (start S).factors) in
    record {
      story = subst IsStory (sym same) (begin_is_story S L F limits logs run.objects run.monitors run.starts);
      seats_are = λ mon d m.
          let seat : get_or seats (mon - 1) d ≡ fresh_seat S L F mon =
          ap (λ (xs : List Seat). get_or xs (mon - 1) d) are
          ∙ get_or-map-range_with_len (fresh_seat S L F) 1 S.monitors (mon - 1) mon d (let a = m.from_one in let b = m.within in omega (arith, a, b)) (let a = m.from_one in omega (arith, a)) in
          subst (IsSeat s mon) (sym seat) (record { setup = refl; taken = refl; got = ap (λ xs. length xs) (sym (froms mon)) });
      room =
          room
          ∙ ap (λ (k : ℕ). sum_by (λ mon. left_in (parts_of L.logs mon) (places_of F mon)) (range_with_len 1 k)) run.monitors
          ∙ sym (fresh_left S L F 1 S.monitors)
          ∙ ap (sum_by left_at) (sym are);
      within = λ q at_work. elim (or_cases (has none q) (is_sent j q) (sym (adds q) ∙ at_work)) [
        | inl before ↦ absurd (true≢false (sym before ∙ free q))
        | inr now ↦ let of = sent_is_monitor S.monitors S.objects j q entries now in record { from_one = of.0; within = of.1 }
      ];
      resting = λ q m idle.
          let unsent : frames_to q j ≡ [] = none_sent j q (or_parts (has none q) (is_sent j q) (sym (adds q) ∙ idle)).1 in
          subst (λ (t : List Entry). IsResting (setup_of s q) t j q) (sym (trail q))
          (record { due = nothing_due (setup_of s q); down = ap (λ xs. slice_get xs 0) unsent; up = refl });
    }

-- the same, for a coordinator that was made with these settings
pub begin_leaves : (S S' : Setup) (L : LogSet) (F : List (List ℕ)) (seats : List Seat) (j now : List Noted) (raises : ℕ) (none work : Work) → S' ≡ S → now ≡ j → IsJournal S' j → AreLogs L → CanRun S L F
    → seats ≡ map (fresh_seat S L F) (monitors S) → j ≡ opened (start S) → All (IsEntryOf S'.monitors S'.objects) j
    → raises ≡ sum_by (λ mon. left_in (parts_of L.logs mon) (places_of F mon)) (range_with_len 1 (length L.logs))
    → ((q : ℕ) → has none q ≡ false) → ((q : ℕ) → has work q ≡ (has none q || is_sent now q)) → Holds S' L F j seats raises work
begin_leaves S S' L F seats j now raises none work same a journal logs run are is entries room free adds =
    subst (λ (z : Setup). Holds z L F j seats raises work) (sym same)
    (begin_holds S L F seats j raises none work (limits_of S S' j same journal) logs run are is (subst (λ (z : Setup). All (IsEntryOf z.monitors z.objects) j) same entries) room free
    (λ q. adds q ∙ ap (λ (xs : List Noted). has none q || is_sent xs q) a))

-- the monitors of a journal are at most 64
pub begin_few : (S' : Setup) (j now : List Noted) → now ≡ j → IsJournal S' j → All (IsEntryOf S'.monitors S'.objects) j → (q : ℕ) → is_sent now q ≡ true → (1 ≤ q) × (q ≤ 64)
begin_few S' j now a journal entries = λ q is.
    let of = sent_is_monitor S'.monitors S'.objects j q entries (ap (λ (xs : List Noted). is_sent xs q) (sym a) ∙ is) in
    let most = (limits_of S' S' j refl journal).monitors in
    (of.0, omega (arith, of.1, most))
