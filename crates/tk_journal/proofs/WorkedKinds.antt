-- The turns of the worked journals: their kinds, the counts of rounds, and the streak.
use Rattle.std.proofs.Common.{◌≡◌, [], ◌∷◌, take, refl}
use Rattle.tk_base.specs.Objects.{objects}
use Rattle.tk_alloc.specs.Parts.{leeway}
use Rattle.tk_alloc.specs.Pick.{picked}
use Rattle.tk_alloc.specs.Resolving.{round_border}
use Rattle.tk_border.specs.Levels.{least_of, greatest_of}
use Rattle.tk_share.specs.Shares.{share, units, owned_units}
use Rattle.tk_journal.specs.Readings.{assigns_sent, members_at, factor, own, table_at, answer_of, progress_of, last_round, asked_of, values_of, waits_for, is_open, is_calm, in_force, is_stopped}
use Rattle.tk_journal.specs.Deciding.{report_of, reports_at, short_decides, full_decides, wide_decides, passes_short_test}
use Rattle.tk_journal.specs.Kinds.{counts_of, opens_wide, streak_of, turns, turns_of}
use Rattle.tk_journal.specs.Legal.{turn_of}
use Rattle.tk_journal.specs.Publishing.{closing}
use Rattle.tk_journal.specs.RoundEnds.{rounds_to}
use Rattle.tk_journal.specs.Turns.{streak, kind_of, rounds, is_wide, demanded}
use Rattle.tk_journal.specs.declared.turn.TurnKind.TheVariants.{Tune, Stale, Note, Short, Full, End}
use Rattle.tk_journal.proofs.Worked.{crossing_report, factor_past_its_limit, pair_of_monitors, retuned, short_round, two_monitors}

full_kinds : turns (pair_of_monitors 0) two_monitors ≡ Note ∷ Note ∷ Note ∷ Full ∷ End ∷ Note ∷ Note ∷ []
unfolding objects round_border leeway picked least_of greatest_of share units owned_units assigns_sent members_at factor own table_at answer_of progress_of last_round asked_of values_of waits_for is_open is_calm in_force is_stopped report_of reports_at short_decides full_decides wide_decides passes_short_test streak kind_of rounds is_wide demanded closing turn_of turns_of opens_wide
full_kinds = refl

-- once the Report failed the short test the streak is 1
full_streak : streak_of (turns_of (pair_of_monitors 0) (take 8 two_monitors)) ≡ 1
unfolding objects round_border leeway picked least_of greatest_of share units owned_units assigns_sent members_at factor own table_at answer_of progress_of last_round asked_of values_of waits_for is_open is_calm in_force is_stopped report_of reports_at short_decides full_decides wide_decides passes_short_test streak kind_of rounds is_wide demanded closing turn_of turns_of opens_wide
full_streak = refl

-- at the calm end it is 0
calm_streak : streak_of (turns_of (pair_of_monitors 0) two_monitors) ≡ 0
unfolding objects round_border leeway picked least_of greatest_of share units owned_units assigns_sent members_at factor own table_at answer_of progress_of last_round asked_of values_of waits_for is_open is_calm in_force is_stopped report_of reports_at short_decides full_decides wide_decides passes_short_test streak kind_of rounds is_wide demanded closing turn_of turns_of opens_wide
calm_streak = refl

short_kinds : turns (pair_of_monitors 4) short_round ≡ Note ∷ Note ∷ Note ∷ Short ∷ Note ∷ []
unfolding objects round_border leeway picked least_of greatest_of share units owned_units assigns_sent members_at factor own table_at answer_of progress_of last_round asked_of values_of waits_for is_open is_calm in_force is_stopped report_of reports_at short_decides full_decides wide_decides passes_short_test streak kind_of rounds is_wide demanded closing turn_of turns_of opens_wide
short_kinds = refl

stale_kinds : turns (pair_of_monitors 0) crossing_report ≡ Note ∷ Note ∷ Full ∷ End ∷ Stale ∷ Note ∷ Note ∷ []
unfolding objects round_border leeway picked least_of greatest_of share units owned_units assigns_sent members_at factor own table_at answer_of progress_of last_round asked_of values_of waits_for is_open is_calm in_force is_stopped report_of reports_at short_decides full_decides wide_decides passes_short_test streak kind_of rounds is_wide demanded closing turn_of turns_of opens_wide
stale_kinds = refl

tuned_kinds : turns (pair_of_monitors 0) retuned ≡ Note ∷ Note ∷ Tune ∷ Note ∷ Note ∷ End ∷ Note ∷ Note ∷ []
unfolding objects round_border leeway picked least_of greatest_of share units owned_units assigns_sent members_at factor own table_at answer_of progress_of last_round asked_of values_of waits_for is_open is_calm in_force is_stopped report_of reports_at short_decides full_decides wide_decides passes_short_test streak kind_of rounds is_wide demanded closing turn_of turns_of opens_wide
tuned_kinds = refl

-- where the factors would pass their limit, the Values that end the full round open a wide one
widened_counts : counts_of (turns_of (pair_of_monitors 0) factor_past_its_limit) ≡ record { short = 0; full = 1; wide = 1; stale = 0 }
unfolding objects round_border leeway picked least_of greatest_of share units owned_units assigns_sent members_at factor own table_at answer_of progress_of last_round asked_of values_of waits_for is_open is_calm in_force is_stopped report_of reports_at short_decides full_decides wide_decides passes_short_test streak kind_of rounds is_wide demanded closing turn_of turns_of opens_wide
widened_counts = refl

-- both rounds have a number of their own
widened_rounds : rounds_to 2 factor_past_its_limit ≡ 1 ∷ 2 ∷ []
widened_rounds = refl
