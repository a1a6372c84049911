-- A run worked out: two monitors, a full round, the last publication, and Stop.
use Rattle.tk_frames.specs.declared.frame.Frame.TheVariants as f
use Rattle.tk_journal.specs.declared.noted.Noted.TheVariants as n
use Rattle.std.proofs.Common.{ℕ, ◌≡◌, ◌^◌, ℤ, pos, negsuc, List, [], ◌∷◌, Bool, true, false, refl, arith, Some, None, suc, zero, ◌≤◌, ◌==◌, length, get_or, unsigned_abs, cond, take, drop}
use Rattle.std.specs.List.{All}
use Rattle.std.proofs.lemmas.Int.{ints}
use Rattle.std.proofs.lemmas.List.Sums.{sum_by-cons}
use Rattle.tk_base.specs.Settings.{Setup, IsWithinLimits}
use Rattle.tk_base.specs.Objects.{objects}
use Rattle.tk_alloc.specs.Parts.{leeway}
use Rattle.tk_alloc.specs.Pick.{picked}
use Rattle.tk_alloc.specs.Resolving.{round_border}
use Rattle.tk_border.specs.Levels.{least_of, greatest_of}
use Rattle.tk_share.specs.Shares.{share, units, owned_units}
use Rattle.tk_input.specs.Logs.{AreLogs, AreParts, ArePlaces, IsObject, LogSet, weight_for, weight_of}
use Rattle.tk_trail.proofs.ValuesLemmas.{weight_for-cons}
use Rattle.tk_journal.specs.Readings.{assigns_sent, members_at, factor, own, table_at, answer_of, progress_of, last_round, asked_of, values_of, waits_for, is_open, is_calm, in_force, is_stopped}
use Rattle.tk_journal.specs.Deciding.{report_of, reports_at, short_decides, full_decides, wide_decides, passes_short_test}
use Rattle.tk_journal.specs.Turns.{streak, kind_of, rounds, is_wide, demanded}
use Rattle.tk_journal.specs.Publishing.{closing}
use Rattle.tk_journal.specs.Refusal.{refusal_of, retune_refusal_of}
use Rattle.tk_journal.specs.Legal.{turn_of}
use Rattle.tk_trail.specs.Frames.{due_at, end_is_due, owed_at, report_at, report_is_due, settled_at, values_at}
use Rattle.tk_trail.specs.Readings.{at_ends, broken_at, level_of, levels_of, places_at, value_of_object, is_broken, sent_by, taken_by}
use Rattle.tk_trail.specs.declared.entry.Entry.TheVariants.{Raised, Took, Sent}
use Rattle.tk_input.specs.declared.event.Event.{Event}
use Rattle.tk_world.specs.Events.{after, begin, next_of, raise_at, check_at, up_at, down_at}
use Rattle.tk_journal.specs.Laws.{IsMonitor}
use Rattle.tk_journal.specs.Links.{frames_from, frames_to}
use Rattle.tk_story.specs.Story.{IsStory, StoryView, setup_of, trail_of}
use Rattle.tk_base.specs.History.{IsFront}
use Rattle.tk_journal.specs.declared.publication.Publication.{Publication}
use Rattle.tk_story.specs.Links.{IsOrderedLink}
use Rattle.tk_story.specs.Moments.{AreMembersValid, IsMoment, IsPublishedValid, IsQuiet}
use Rattle.tk_story.proofs.MomentLemmas.{moment_is_story}
use Rattle.tk_story.proofs.PublishedLemmas.{published_holds}
use Rattle.tk_story.proofs.QuietLemmas.{quiet_holds}
use Rattle.tk_world.proofs.StepLemmas.{after_is_story, begin_is_story}

abbrev settings : Setup
settings = record { k = 1; epsilon = pos 0; own_weight = 1; objects = 2; monitors = 2 }

abbrev logs : LogSet
logs = record { logs = (((1, pos 5) ∷ []) ∷ []) ∷ (((2, pos 3) ∷ []) ∷ []) ∷ []; objects = 2 }

abbrev from : List (List ℕ)
from = (0 ∷ []) ∷ (0 ∷ []) ∷ []

abbrev first_four : StoryView
first_four = record {
  settings = settings;
  logs = logs;
  from = from;
  journal =
      n.Sent (record { 0 = 1 }) (f.Assign 1 (1 ∷ []) []) ∷ n.Sent (record { 0 = 2 }) (f.Assign 1 (1 ∷ []) [])
      ∷ n.Got (record { 0 = 1 }) (f.Settled 1 false (0 ∷ []))
      ∷ n.Got (record { 0 = 2 }) (f.Settled 1 false (0 ∷ []))
      ∷ n.Published (record { number = 1; last = false; k = 1; epsilon = pos 0; members = 1 ∷ []; cut = (0 ∷ []) ∷ (0 ∷ []) ∷ [] })
      ∷ [];
  trails =
      (Took (f.Assign 1 (1 ∷ []) []) ∷ Sent (f.Settled 1 false (0 ∷ [])) ∷ [])
      ∷ (Took (f.Assign 1 (1 ∷ []) []) ∷ Sent (f.Settled 1 false (0 ∷ [])) ∷ [])
      ∷ [];
}

four : after (Some (begin settings logs from)) (down_at 1 ∷ down_at 2 ∷ up_at 1 ∷ up_at 2 ∷ []) ≡ Some first_four
unfolding objects round_border leeway picked least_of greatest_of share units owned_units assigns_sent members_at factor own table_at answer_of progress_of last_round asked_of values_of waits_for is_open is_calm in_force is_stopped report_of reports_at short_decides full_decides wide_decides passes_short_test streak kind_of rounds is_wide demanded closing refusal_of retune_refusal_of turn_of next_of due_at end_is_due owed_at report_at report_is_due settled_at values_at at_ends broken_at level_of levels_of places_at value_of_object
four = refl

-- ---- the whole run

abbrev pub worked : StoryView
worked = record {
  settings = settings;
  logs = logs;
  from = from;
  journal =
      n.Sent (record { 0 = 1 }) (f.Assign 1 (1 ∷ []) []) ∷ n.Sent (record { 0 = 2 }) (f.Assign 1 (1 ∷ []) [])
      ∷ n.Got (record { 0 = 1 }) (f.Settled 1 false (0 ∷ []))
      ∷ n.Got (record { 0 = 2 }) (f.Settled 1 false (0 ∷ []))
      ∷ n.Published (record { number = 1; last = false; k = 1; epsilon = pos 0; members = 1 ∷ []; cut = (0 ∷ []) ∷ (0 ∷ []) ∷ [] })
      ∷ n.Got (record { 0 = 1 }) (f.Settled 1 true (1 ∷ []))
      ∷ n.Got (record { 0 = 2 }) (f.Report 1 (pos 0) (2 ∷ []) ((1, pos 0) ∷ (2, pos 3) ∷ []))
      ∷ n.Sent (record { 0 = 1 }) (f.Collect 1 (1 ∷ 2 ∷ []))
      ∷ n.Got (record { 0 = 1 }) (f.Values 1 1 (pos 5) ((1, pos 5) ∷ (2, pos 0) ∷ []))
      ∷ n.Sent (record { 0 = 1 }) (f.Assign 2 (1 ∷ []) ((1, pos 0) ∷ (2, pos 4) ∷ [])) ∷ n.Sent (record { 0 = 2 }) (f.Assign 2 (1 ∷ []) ((1, pos 0) ∷ (2, negsuc 3) ∷ []))
      ∷ n.Got (record { 0 = 1 }) (f.Settled 2 true (1 ∷ []))
      ∷ n.Got (record { 0 = 2 }) (f.Settled 2 true (1 ∷ []))
      ∷ n.Published (record { number = 2; last = true; k = 1; epsilon = pos 0; members = 1 ∷ []; cut = (1 ∷ []) ∷ (1 ∷ []) ∷ [] })
      ∷ n.Sent (record { 0 = 1 }) f.Stop ∷ n.Sent (record { 0 = 2 }) f.Stop ∷ [];
  trails =
      (Took (f.Assign 1 (1 ∷ []) []) ∷ Sent (f.Settled 1 false (0 ∷ [])) ∷ Raised (record { 0 = 1 }) ∷ Sent (f.Settled 1 true (1 ∷ []))
      ∷ Took (f.Collect 1 (1 ∷ 2 ∷ [])) ∷ Sent (f.Values 1 1 (pos 5) ((1, pos 5) ∷ (2, pos 0) ∷ []))
      ∷ Took (f.Assign 2 (1 ∷ []) ((1, pos 0) ∷ (2, pos 4) ∷ [])) ∷ Sent (f.Settled 2 true (1 ∷ [])) ∷ Took f.Stop ∷ [])
      ∷ (Took (f.Assign 1 (1 ∷ []) []) ∷ Sent (f.Settled 1 false (0 ∷ [])) ∷ Raised (record { 0 = 1 })
      ∷ Sent (f.Report 1 (pos 0) (2 ∷ []) ((1, pos 0) ∷ (2, pos 3) ∷ []))
      ∷ Took (f.Assign 2 (1 ∷ []) ((1, pos 0) ∷ (2, negsuc 3) ∷ [])) ∷ Sent (f.Settled 2 true (1 ∷ [])) ∷ Took f.Stop ∷ [])
      ∷ [];
}

abbrev pub events : List Event
events =
    down_at 1 ∷ down_at 2 ∷ up_at 1 ∷ up_at 2 ∷ raise_at 1 1 ∷ raise_at 2 1 ∷ check_at 1 ∷ check_at 2 ∷ up_at 1 ∷ up_at 2 ∷ down_at 1 ∷ up_at 1 ∷ down_at 1 ∷ down_at 2 ∷ up_at 1 ∷ up_at 2 ∷ down_at 1 ∷ down_at 2 ∷ []

pub run_is : after (Some (begin settings logs from)) events ≡ Some worked
unfolding objects round_border leeway picked least_of greatest_of share units owned_units assigns_sent members_at factor own table_at answer_of progress_of last_round asked_of values_of waits_for is_open is_calm in_force is_stopped report_of reports_at short_decides full_decides wide_decides passes_short_test streak kind_of rounds is_wide demanded closing refusal_of retune_refusal_of turn_of next_of due_at end_is_due owed_at report_at report_is_due settled_at values_at at_ends broken_at level_of levels_of places_at value_of_object
run_is = refl

-- nothing may happen twice: no link holds a frame, nothing is due, and the parts are at their ends
run_ends : after (Some worked) (down_at 1 ∷ []) ≡ None
unfolding objects round_border leeway picked least_of greatest_of share units owned_units assigns_sent members_at factor own table_at answer_of progress_of last_round asked_of values_of waits_for is_open is_calm in_force is_stopped report_of reports_at short_decides full_decides wide_decides passes_short_test streak kind_of rounds is_wide demanded closing refusal_of retune_refusal_of turn_of next_of due_at end_is_due owed_at report_at report_is_due settled_at values_at at_ends broken_at level_of levels_of places_at value_of_object
run_ends = refl

-- ---- it is a story, and it is quiet

two_cases : (P : ℕ → Type 0) → P 1 → P 2 → (mon : ℕ) → IsMonitor settings mon → P mon
two_cases P one two zero m = absurd (let a = m.from_one in omega (arith, a))
two_cases P one two (suc zero) m = one
two_cases P one two (suc (suc zero)) m = two
two_cases P one two (suc (suc (suc k))) m = absurd (let a = m.within in omega (arith, a))

worked_quiet : IsQuiet worked
unfolding objects round_border leeway picked least_of greatest_of share units owned_units assigns_sent members_at factor own table_at answer_of progress_of last_round asked_of values_of waits_for is_open is_calm in_force is_stopped report_of reports_at short_decides full_decides wide_decides passes_short_test streak kind_of rounds is_wide demanded closing refusal_of retune_refusal_of turn_of due_at end_is_due owed_at report_at report_is_due settled_at values_at at_ends broken_at level_of levels_of places_at value_of_object
worked_quiet = record {
  down = two_cases (λ mon. taken_by (trail_of worked mon) ≡ frames_to mon worked.journal) refl refl;
  up = two_cases (λ mon. frames_from mon worked.journal ≡ sent_by (trail_of worked mon)) refl refl;
  closed = refl;
  sound = two_cases (λ mon. is_broken (setup_of worked mon) (trail_of worked mon) ≡ false) refl refl;
}

-- ---- its settings, logs and starting places are within the limits

limits : IsWithinLimits settings
limits = record {
  some_object = omega arith;
  objects = omega arith;
  some_monitor = omega arith;
  monitors = omega arith;
  product = omega arith;
  some_member = omega arith;
  k = omega arith;
  members = omega arith;
  no_debt = omega (arith, ints);
  epsilon = omega (arith, ints);
  own_weight = omega arith;
}

cond_small : (b : Bool) (n : ℕ) → n ≤ 5 → cond b n 0 ≤ 5
cond_small true n few = few
cond_small false n few = omega arith

one_weight : (q o : ℕ) (z : ℤ) → unsigned_abs z ≤ 5 → weight_of (((q, z) ∷ []) ∷ []) o ≤ 2 ^ 100
one_weight q o z small =
    let a = weight_for-cons o (q, z) [] in
    let b = cond_small (q == o) (unsigned_abs z) small in
    let c = sum_by-cons (weight_for o) ((q, z) ∷ []) [] in
    omega (arith, a, b, c)

only_one : {A : Type 0} (P : A → Type 0) (x : A) → P x → All P (x ∷ [])
only_one P x here zero d below = here
only_one P x here (suc k) d below = absurd (omega (arith, below))

part_fine : (q : ℕ) (z : ℤ) → 1 ≤ q → q ≤ 2 → unsigned_abs z ≤ 5 → AreParts 2 (((q, z) ∷ []) ∷ [])
part_fine q z low high small = record {
  some_feeder = omega arith;
  feeders = omega arith;
  objects = only_one (λ part. All (λ c. IsObject 2 c.0) part) ((q, z) ∷ []) (only_one (λ c. IsObject 2 c.0) (q, z) (low, high));
  lengths = only_one (λ part. length part ≤ 1000000) ((q, z) ∷ []) (omega arith);
  weights = λ o. one_weight q o z small;
}

two_parts : (P : List (List (ℕ × ℤ)) → Type 0) (x y : List (List (ℕ × ℤ))) → P x → P y → All P (x ∷ y ∷ [])
two_parts P x y a b zero d below = a
two_parts P x y a b (suc zero) d below = b
two_parts P x y a b (suc (suc k)) d below = absurd (omega (arith, below))

are_logs : AreLogs logs
are_logs = record {
  some_monitor = omega arith;
  monitors = omega arith;
  each = two_parts (AreParts 2) (((1, pos 5) ∷ []) ∷ []) (((2, pos 3) ∷ []) ∷ []) (part_fine 1 (pos 5) (omega arith) (omega arith) (omega (arith, ints))) (part_fine 2 (pos 3) (omega arith) (omega arith) (omega (arith, ints)));
}

none_below : (part : List (ℕ × ℤ)) (i : ℕ) → get_or (0 ∷ []) i 0 ≤ length (get_or (part ∷ []) i [])
none_below part zero = omega arith
none_below part (suc i) = omega arith

zero_place : (part : List (ℕ × ℤ)) → ArePlaces (part ∷ []) (0 ∷ [])
zero_place part = record { shape = refl; within = none_below part }

cut_each : (i : ℕ) → ArePlaces (get_or logs.logs i []) (get_or from i [])
cut_each zero = zero_place ((1, pos 5) ∷ [])
cut_each (suc zero) = zero_place ((2, pos 3) ∷ [])
cut_each (suc (suc i)) = record { shape = refl; within = λ j. omega arith }

pub worked_is_story : IsStory worked
worked_is_story =
    after_is_story (begin settings logs from) worked events (begin_is_story settings logs from limits are_logs refl refl (record { shape = refl; each = cut_each })) run_is

-- so its members hold at the ends
pub worked_holds : AreMembersValid worked
worked_holds = quiet_holds worked worked_is_story worked_quiet

-- its two publications are valid, each at its own cut

abbrev first_set : Publication
first_set = record { number = 1; last = false; k = 1; epsilon = pos 0; members = 1 ∷ []; cut = (0 ∷ []) ∷ (0 ∷ []) ∷ [] }

abbrev last_set : Publication
last_set = record { number = 2; last = true; k = 1; epsilon = pos 0; members = 1 ∷ []; cut = (1 ∷ []) ∷ (1 ∷ []) ∷ [] }

pub first_valid : IsPublishedValid worked first_set
first_valid = published_holds worked worked_is_story first_set (record { before = take 4 worked.journal; after = drop 5 worked.journal; is = refl })

pub last_valid : IsPublishedValid worked last_set
last_valid = published_holds worked worked_is_story last_set (record { before = take 13 worked.journal; after = drop 14 worked.journal; is = refl })

-- ---- a moment behind the first publication is quiet: each monitor took its first Assign, and its answer was got

first_moment : IsMoment first_four worked
unfolding objects round_border leeway picked least_of greatest_of share units owned_units assigns_sent members_at factor own table_at answer_of progress_of last_round asked_of values_of waits_for is_open is_calm in_force is_stopped report_of reports_at short_decides full_decides wide_decides passes_short_test streak kind_of rounds is_wide demanded closing refusal_of retune_refusal_of turn_of due_at end_is_due owed_at report_at report_is_due settled_at values_at at_ends broken_at level_of levels_of places_at value_of_object
first_moment = record {
  settings = refl;
  logs = refl;
  from = refl;
  count = refl;
  behind = drop 5 worked.journal;
  journal = refl;
  whole = refl;
  trails = two_cases (λ mon. IsFront (trail_of first_four mon) (trail_of worked mon)) (record { is = refl }) (record { is = refl });
  answered = two_cases (λ mon. owed_at (setup_of worked mon) (trail_of first_four mon) ≡ None) refl refl;
  links = two_cases (λ mon. IsOrderedLink first_four.journal mon (trail_of first_four mon)) (record { down = record { is = refl }; up = record { is = refl } }) (record { down = record { is = refl }; up = record { is = refl } });
}

first_quiet : IsQuiet first_four
unfolding objects round_border leeway picked least_of greatest_of share units owned_units assigns_sent members_at factor own table_at answer_of progress_of last_round asked_of values_of waits_for is_open is_calm in_force is_stopped report_of reports_at short_decides full_decides wide_decides passes_short_test streak kind_of rounds is_wide demanded closing refusal_of retune_refusal_of turn_of due_at end_is_due owed_at report_at report_is_due settled_at values_at at_ends broken_at level_of levels_of places_at value_of_object
first_quiet = record {
  down = two_cases (λ mon. taken_by (trail_of first_four mon) ≡ frames_to mon first_four.journal) refl refl;
  up = two_cases (λ mon. frames_from mon first_four.journal ≡ sent_by (trail_of first_four mon)) refl refl;
  closed = refl;
  sound = two_cases (λ mon. is_broken (setup_of first_four mon) (trail_of first_four mon) ≡ false) refl refl;
}

-- so the members were valid there, before any change
pub first_holds : AreMembersValid first_four
first_holds = quiet_holds first_four (moment_is_story first_four worked worked_is_story first_moment) first_quiet
