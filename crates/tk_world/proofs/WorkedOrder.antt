-- A worked story: its order of happenings, and its turns.
use Rattle.tk_frames.specs.declared.frame.Frame.TheVariants as f
use Rattle.tk_journal.specs.declared.noted.Noted.TheVariants as n
use Rattle.std.proofs.Common.{ℕ, ◌≡◌, pos, negsuc, List, [], ◌∷◌, true, false, refl}
use Rattle.tk_base.specs.Settings.{Setup}
use Rattle.tk_base.specs.Objects.{objects}
use Rattle.tk_alloc.specs.Parts.{leeway}
use Rattle.tk_alloc.specs.Pick.{picked}
use Rattle.tk_alloc.specs.Resolving.{round_border}
use Rattle.tk_border.specs.Levels.{least_of, greatest_of}
use Rattle.tk_share.specs.Shares.{share, units, owned_units}
use Rattle.tk_input.specs.Logs.{LogSet}
use Rattle.tk_journal.specs.Readings.{assigns_sent, members_at, factor, own, table_at, answer_of, progress_of, last_round, asked_of, values_of, waits_for, is_open, is_calm, in_force, is_stopped}
use Rattle.tk_journal.specs.Deciding.{report_of, reports_at, short_decides, full_decides, wide_decides, passes_short_test}
use Rattle.tk_journal.specs.Turns.{streak, kind_of, rounds, is_wide, demanded}
use Rattle.tk_journal.specs.declared.turn.TurnKind.TheVariants.{Note, Full, End}
use Rattle.tk_journal.specs.Publishing.{closing}
use Rattle.tk_journal.specs.Refusal.{refusal_of, retune_refusal_of}
use Rattle.tk_journal.specs.Legal.{turn_of}
use Rattle.tk_trail.specs.Frames.{due_at, end_is_due, owed_at, report_at, report_is_due, settled_at, values_at}
use Rattle.tk_trail.specs.Readings.{at_ends, broken_at, level_of, levels_of, places_at, value_of_object}
use Rattle.tk_trail.specs.declared.entry.Entry.TheVariants.{Raised, Took, Sent}
use Rattle.tk_world.specs.Events.{next_of, raise_at, check_at, up_at, down_at}
use Rattle.tk_story.specs.Story.{StoryView}
use Rattle.tk_journal.specs.Kinds.{counts_of, turns, turns_of, opens_wide}
use Rattle.tk_world.specs.Order.{events_of}

abbrev settings : Setup
settings = record { k = 1; epsilon = pos 0; own_weight = 1; objects = 2; monitors = 2 }

abbrev logs : LogSet
logs = record { logs = (((1, pos 5) ∷ []) ∷ []) ∷ (((2, pos 3) ∷ []) ∷ []) ∷ []; objects = 2 }

abbrev from : List (List ℕ)
from = (0 ∷ []) ∷ (0 ∷ []) ∷ []

abbrev worked : StoryView
worked = record {
  settings = settings;
  logs = logs;
  from = from;
  journal =
      n.Sent (record { 0 = 1 }) (f.Assign 1 (1 ∷ []) []) ∷ n.Sent (record { 0 = 2 }) (f.Assign 1 (1 ∷ []) [])
      ∷ n.Got (record { 0 = 1 }) (f.Settled 1 false (0 ∷ []))
      ∷ n.Got (record { 0 = 2 }) (f.Settled 1 false (0 ∷ []))
      ∷ n.Published (record { number = 1; last = false; k = 1; epsilon = pos 0; members = 1 ∷ []; cut = (0 ∷ []) ∷ (0 ∷ []) ∷ [] })
      ∷ n.Got (record { 0 = 1 }) (f.Settled 1 true (1 ∷ []))
      ∷ n.Got (record { 0 = 2 }) (f.Report 1 (pos 0) (2 ∷ []) ((1, pos 0) ∷ (2, pos 3) ∷ []))
      ∷ n.Sent (record { 0 = 1 }) (f.Collect 1 (1 ∷ 2 ∷ []))
      ∷ n.Got (record { 0 = 1 }) (f.Values 1 1 (pos 5) ((1, pos 5) ∷ (2, pos 0) ∷ []))
      ∷ n.Sent (record { 0 = 1 }) (f.Assign 2 (1 ∷ []) ((1, pos 0) ∷ (2, pos 4) ∷ [])) ∷ n.Sent (record { 0 = 2 }) (f.Assign 2 (1 ∷ []) ((1, pos 0) ∷ (2, negsuc 3) ∷ []))
      ∷ n.Got (record { 0 = 1 }) (f.Settled 2 true (1 ∷ []))
      ∷ n.Got (record { 0 = 2 }) (f.Settled 2 true (1 ∷ []))
      ∷ n.Published (record { number = 2; last = true; k = 1; epsilon = pos 0; members = 1 ∷ []; cut = (1 ∷ []) ∷ (1 ∷ []) ∷ [] })
      ∷ n.Sent (record { 0 = 1 }) f.Stop ∷ n.Sent (record { 0 = 2 }) f.Stop ∷ [];
  trails =
      (Took (f.Assign 1 (1 ∷ []) []) ∷ Sent (f.Settled 1 false (0 ∷ [])) ∷ Raised (record { 0 = 1 }) ∷ Sent (f.Settled 1 true (1 ∷ []))
      ∷ Took (f.Collect 1 (1 ∷ 2 ∷ [])) ∷ Sent (f.Values 1 1 (pos 5) ((1, pos 5) ∷ (2, pos 0) ∷ []))
      ∷ Took (f.Assign 2 (1 ∷ []) ((1, pos 0) ∷ (2, pos 4) ∷ [])) ∷ Sent (f.Settled 2 true (1 ∷ [])) ∷ Took f.Stop ∷ [])
      ∷ (Took (f.Assign 1 (1 ∷ []) []) ∷ Sent (f.Settled 1 false (0 ∷ [])) ∷ Raised (record { 0 = 1 })
      ∷ Sent (f.Report 1 (pos 0) (2 ∷ []) ((1, pos 0) ∷ (2, pos 3) ∷ []))
      ∷ Took (f.Assign 2 (1 ∷ []) ((1, pos 0) ∷ (2, negsuc 3) ∷ [])) ∷ Sent (f.Settled 2 true (1 ∷ [])) ∷ Took f.Stop ∷ [])
      ∷ [];
}

in_order : events_of worked
    ≡ down_at 1 ∷ up_at 1 ∷ down_at 2 ∷ up_at 2 ∷ raise_at 1 1 ∷ check_at 1 ∷ up_at 1 ∷ raise_at 2 1 ∷ check_at 2 ∷ up_at 2 ∷ down_at 1 ∷ up_at 1 ∷ down_at 1 ∷ up_at 1 ∷ down_at 2 ∷ up_at 2 ∷ down_at 1 ∷ down_at 2 ∷ []
unfolding objects round_border leeway picked least_of greatest_of share units owned_units assigns_sent members_at factor own table_at answer_of progress_of last_round asked_of values_of waits_for is_open is_calm in_force is_stopped report_of reports_at short_decides full_decides wide_decides passes_short_test streak kind_of rounds is_wide demanded closing refusal_of retune_refusal_of turn_of next_of due_at end_is_due owed_at report_at report_is_due settled_at values_at at_ends broken_at level_of levels_of places_at value_of_object events_of
in_order = refl

its_turns : turns settings worked.journal ≡ Note ∷ Note ∷ Note ∷ Full ∷ End ∷ Note ∷ Note ∷ []
unfolding objects round_border leeway picked least_of greatest_of share units owned_units assigns_sent members_at factor own table_at answer_of progress_of last_round asked_of values_of waits_for is_open is_calm in_force is_stopped report_of reports_at short_decides full_decides wide_decides passes_short_test streak kind_of rounds is_wide demanded closing refusal_of retune_refusal_of turn_of next_of due_at end_is_due owed_at report_at report_is_due settled_at values_at at_ends broken_at level_of levels_of places_at value_of_object turns_of opens_wide
its_turns = refl

its_counts : counts_of (turns_of settings worked.journal) ≡ record { short = 0; full = 1; wide = 0; stale = 0 }
unfolding objects round_border leeway picked least_of greatest_of share units owned_units assigns_sent members_at factor own table_at answer_of progress_of last_round asked_of values_of waits_for is_open is_calm in_force is_stopped report_of reports_at short_decides full_decides wide_decides passes_short_test streak kind_of rounds is_wide demanded closing refusal_of retune_refusal_of turn_of next_of due_at end_is_due owed_at report_at report_is_due settled_at values_at at_ends broken_at level_of levels_of places_at value_of_object turns_of opens_wide
its_counts = refl
