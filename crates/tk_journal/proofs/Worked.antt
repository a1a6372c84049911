-- Worked journals: what the definitions give for small runs, entry by entry.
use Rattle.std.proofs.Common.{ℕ, ◌≡◌, ◌^◌, ℤ, pos, negsuc, neg_ℤ, List, [], ◌∷◌, Bool, true, false, refl, arith}
use Rattle.tk_base.specs.Settings.{Setup}
use Rattle.tk_base.specs.Objects.{objects}
use Rattle.tk_alloc.specs.Parts.{leeway}
use Rattle.tk_alloc.specs.Pick.{picked}
use Rattle.tk_alloc.specs.Resolving.{round_border}
use Rattle.tk_border.specs.Levels.{least_of, greatest_of}
use Rattle.tk_share.specs.Shares.{share, units, owned_units}
use Rattle.tk_frames.specs.declared.frame.Frame.TheVariants as f
use Rattle.tk_journal.specs.Readings.{assigns_sent, members_at, factor, own, table_at, answer_of, progress_of, last_round, asked_of, values_of, waits_for, is_open, is_calm, in_force, is_stopped}
use Rattle.tk_journal.specs.Deciding.{report_of, reports_at, short_decides, full_decides, wide_decides, passes_short_test}
use Rattle.tk_journal.specs.Turns.{streak, kind_of, rounds, is_wide, demanded}
use Rattle.tk_journal.specs.Publishing.{closing}
use Rattle.tk_journal.specs.Refusal.{refusal_of, retune_refusal_of}
use Rattle.tk_journal.specs.Legal.{Opening, start, turn_of, IsLegal}
use Rattle.tk_journal.specs.declared.noted.Noted.{Noted}
use Rattle.tk_journal.specs.declared.noted.Noted.TheVariants as n

-- ---- how the entries are written

-- one member of two objects, two monitors, own weight 1
abbrev pub pair_of_monitors : ℕ → Setup
pair_of_monitors epsilon = record { k = 1; epsilon = pos epsilon; own_weight = 1; objects = 2; monitors = 2 }

abbrev settled : ℕ → ℕ → Bool → ℕ → Noted
settled mon seq last place = n.Got (record { 0 = mon }) (f.Settled seq last (place ∷ []))

abbrev pub report : ℕ → ℕ → ℤ → List ℕ → List (ℕ × ℤ) → Noted
report mon seq border failed values = n.Got (record { 0 = mon }) (f.Report seq border failed values)

abbrev pub values : ℕ → ℕ → ℕ → ℤ → List (ℕ × ℤ) → Noted
values mon round seq border told = n.Got (record { 0 = mon }) (f.Values round seq border told)

abbrev pub collect : ℕ → ℕ → List ℕ → Noted
collect mon round asked = n.Sent (record { 0 = mon }) (f.Collect round asked)

abbrev assign : ℕ → ℕ → List ℕ → List (ℕ × ℤ) → Noted
assign mon seq members changes = n.Sent (record { 0 = mon }) (f.Assign seq members changes)

abbrev published : ℕ → Bool → ℕ → ℤ → List ℕ → List (List ℕ) → Noted
published number last k epsilon members cut =
    n.Published (record { number = number; last = last; k = k; epsilon = epsilon; members = members; cut = cut })

abbrev stop : ℕ → Noted
stop mon = n.Sent (record { 0 = mon }) f.Stop

-- ---- a full round, in which the member stays: monitor 1 has a 5, monitor 2 has b 3

abbrev pub two_monitors : List Noted
two_monitors =
    assign 1 1 (1 ∷ []) [] ∷ assign 2 1 (1 ∷ []) []
    ∷ settled 1 1 false 0
    ∷ settled 2 1 false 0
    ∷ published 1 false 1 (pos 0) (1 ∷ []) ((0 ∷ []) ∷ (0 ∷ []) ∷ [])
    ∷ settled 1 1 true 1
    ∷ report 2 1 (pos 0) (2 ∷ []) ((1, pos 0) ∷ (2, pos 3) ∷ [])
    ∷ collect 1 1 (1 ∷ 2 ∷ [])
    ∷ values 1 1 1 (pos 5) ((1, pos 5) ∷ (2, pos 0) ∷ [])
    ∷ assign 1 2 (1 ∷ []) ((1, pos 0) ∷ (2, pos 4) ∷ []) ∷ assign 2 2 (1 ∷ []) ((1, pos 0) ∷ (2, negsuc 3) ∷ [])
    ∷ settled 1 2 true 1
    ∷ settled 2 2 true 1
    ∷ published 2 true 1 (pos 0) (1 ∷ []) ((1 ∷ []) ∷ (1 ∷ []) ∷ [])
    ∷ stop 1 ∷ stop 2 ∷ []

pub two_monitors_is_legal : IsLegal (start (pair_of_monitors 0)) two_monitors
unfolding objects round_border leeway picked least_of greatest_of share units owned_units assigns_sent members_at factor own table_at answer_of progress_of last_round asked_of values_of waits_for is_open is_calm in_force is_stopped report_of reports_at short_decides full_decides wide_decides passes_short_test streak kind_of rounds is_wide demanded closing refusal_of retune_refusal_of turn_of
two_monitors_is_legal = record {
  played = refl;
  accepted = ((omega arith, omega arith, refl), ((omega arith, omega arith, refl), ((omega arith, omega arith, refl), ((omega arith, omega arith, refl), ((omega arith, omega arith, refl), ((omega arith, omega arith, refl), ((omega arith, omega arith, refl), tt)))))));
}

-- both monitors are settled at the end of the round, and the streak falls
pub two_monitors_streak : streak (pair_of_monitors 0) two_monitors ≡ 0
unfolding objects round_border leeway picked least_of greatest_of share units owned_units assigns_sent members_at factor own table_at answer_of progress_of last_round asked_of values_of waits_for is_open is_calm in_force is_stopped report_of reports_at short_decides full_decides wide_decides passes_short_test streak kind_of rounds is_wide demanded closing refusal_of retune_refusal_of turn_of
two_monitors_streak = refl

-- ---- a short round: monitor 1 has a 5, monitor 2 has b 3, and epsilon is 4

abbrev pub short_round : List Noted
short_round =
    assign 1 1 (1 ∷ []) [] ∷ assign 2 1 (1 ∷ []) []
    ∷ settled 1 1 false 0
    ∷ settled 2 1 false 0
    ∷ published 1 false 1 (pos 4) (1 ∷ []) ((0 ∷ []) ∷ (0 ∷ []) ∷ [])
    ∷ settled 1 1 true 1
    ∷ report 2 1 (pos 0) (2 ∷ []) ((1, pos 0) ∷ (2, pos 3) ∷ [])
    ∷ assign 2 2 (1 ∷ []) ((1, pos 0) ∷ (2, negsuc 3) ∷ [])
    ∷ settled 2 2 true 1
    ∷ published 2 true 1 (pos 4) (1 ∷ []) ((1 ∷ []) ∷ (1 ∷ []) ∷ [])
    ∷ stop 1 ∷ stop 2 ∷ []

pub short_round_is_legal : IsLegal (start (pair_of_monitors 4)) short_round
unfolding objects round_border leeway picked least_of greatest_of share units owned_units assigns_sent members_at factor own table_at answer_of progress_of last_round asked_of values_of waits_for is_open is_calm in_force is_stopped report_of reports_at short_decides full_decides wide_decides passes_short_test streak kind_of rounds is_wide demanded closing refusal_of retune_refusal_of turn_of
short_round_is_legal = record {
  played = refl;
  accepted = ((omega arith, omega arith, refl), ((omega arith, omega arith, refl), ((omega arith, omega arith, refl), ((omega arith, omega arith, refl), ((omega arith, omega arith, refl), tt)))));
}

-- ---- a Report crosses an Assign and is stale: monitor 1 has b 2, monitor 2 has b 3

abbrev pub crossing_report : List Noted
crossing_report =
    assign 1 1 (1 ∷ []) [] ∷ assign 2 1 (1 ∷ []) []
    ∷ settled 1 1 false 0
    ∷ settled 2 1 false 0
    ∷ published 1 false 1 (pos 0) (1 ∷ []) ((0 ∷ []) ∷ (0 ∷ []) ∷ [])
    ∷ report 1 1 (pos 0) (2 ∷ []) ((1, pos 0) ∷ (2, pos 2) ∷ [])
    ∷ collect 2 1 (1 ∷ 2 ∷ [])
    ∷ values 2 1 1 (pos 0) ((1, pos 0) ∷ (2, pos 0) ∷ [])
    ∷ assign 1 2 (2 ∷ []) ((1, pos 0) ∷ (2, negsuc 0) ∷ []) ∷ assign 2 2 (2 ∷ []) ((1, pos 0) ∷ (2, pos 0) ∷ [])
    ∷ report 2 1 (pos 0) (2 ∷ []) ((1, pos 0) ∷ (2, pos 3) ∷ [])
    ∷ settled 2 2 true 1
    ∷ settled 1 2 true 1
    ∷ published 2 true 1 (pos 0) (2 ∷ []) ((1 ∷ []) ∷ (1 ∷ []) ∷ [])
    ∷ stop 1 ∷ stop 2 ∷ []

pub crossing_report_is_legal : IsLegal (start (pair_of_monitors 0)) crossing_report
unfolding objects round_border leeway picked least_of greatest_of share units owned_units assigns_sent members_at factor own table_at answer_of progress_of last_round asked_of values_of waits_for is_open is_calm in_force is_stopped report_of reports_at short_decides full_decides wide_decides passes_short_test streak kind_of rounds is_wide demanded closing refusal_of retune_refusal_of turn_of
crossing_report_is_legal = record {
  played = refl;
  accepted = ((omega arith, omega arith, refl), ((omega arith, omega arith, refl), ((omega arith, omega arith, refl), ((omega arith, omega arith, refl), ((omega arith, omega arith, refl), ((omega arith, omega arith, refl), ((omega arith, omega arith, refl), tt)))))));
}

-- ---- a full round with one monitor has no Collect and ends at once: b 3

abbrev pub one_monitor : List Noted
one_monitor =
    assign 1 1 (1 ∷ []) []
    ∷ settled 1 1 false 0
    ∷ published 1 false 1 (pos 0) (1 ∷ []) ((0 ∷ []) ∷ [])
    ∷ report 1 1 (pos 0) (2 ∷ []) ((1, pos 0) ∷ (2, pos 3) ∷ [])
    ∷ assign 1 2 (2 ∷ []) ((1, pos 0) ∷ (2, negsuc 1) ∷ [])
    ∷ settled 1 2 true 1
    ∷ published 2 true 1 (pos 0) (2 ∷ []) ((1 ∷ []) ∷ [])
    ∷ stop 1 ∷ []

pub one_monitor_is_legal : IsLegal (start (record { k = 1; epsilon = pos 0; own_weight = 1; objects = 2; monitors = 1 })) one_monitor
unfolding objects round_border leeway picked least_of greatest_of share units owned_units assigns_sent members_at factor own table_at answer_of progress_of last_round asked_of values_of waits_for is_open is_calm in_force is_stopped report_of reports_at short_decides full_decides wide_decides passes_short_test streak kind_of rounds is_wide demanded closing refusal_of retune_refusal_of turn_of
one_monitor_is_legal = record {
  played = refl;
  accepted = ((omega arith, omega arith, refl), ((omega arith, omega arith, refl), ((omega arith, omega arith, refl), tt)));
}

-- ---- a retune to k 2 and epsilon 7, while monitor 1 has a 5 and monitor 2 nothing yet

abbrev pub retuned : List Noted
retuned =
    assign 1 1 (1 ∷ []) [] ∷ assign 2 1 (1 ∷ []) []
    ∷ settled 1 1 false 0
    ∷ settled 2 1 false 0
    ∷ published 1 false 1 (pos 0) (1 ∷ []) ((0 ∷ []) ∷ (0 ∷ []) ∷ [])
    ∷ n.Tuned 2 (pos 7)
    ∷ collect 1 1 (1 ∷ 2 ∷ []) ∷ collect 2 1 (1 ∷ 2 ∷ [])
    ∷ settled 1 1 true 1
    ∷ values 1 1 1 (pos 5) ((1, pos 5) ∷ (2, pos 0) ∷ [])
    ∷ values 2 1 1 (pos 0) ((1, pos 0) ∷ (2, pos 0) ∷ [])
    ∷ assign 1 2 (1 ∷ 2 ∷ []) ((1, negsuc 0) ∷ (2, pos 2) ∷ []) ∷ assign 2 2 (1 ∷ 2 ∷ []) ((1, pos 4) ∷ (2, pos 2) ∷ [])
    ∷ settled 1 2 true 1
    ∷ settled 2 2 false 0
    ∷ published 2 false 2 (pos 7) (1 ∷ 2 ∷ []) ((1 ∷ []) ∷ (0 ∷ []) ∷ [])
    ∷ []

pub retuned_is_legal : IsLegal (start (pair_of_monitors 0)) retuned
unfolding objects round_border leeway picked least_of greatest_of share units owned_units assigns_sent members_at factor own table_at answer_of progress_of last_round asked_of values_of waits_for is_open is_calm in_force is_stopped report_of reports_at short_decides full_decides wide_decides passes_short_test streak kind_of rounds is_wide demanded closing refusal_of retune_refusal_of turn_of
retuned_is_legal = record {
  played = refl;
  accepted = ((omega arith, omega arith, refl), ((omega arith, omega arith, refl), ((7, refl, refl), ((omega arith, omega arith, refl), ((omega arith, omega arith, refl), ((omega arith, omega arith, refl), ((omega arith, omega arith, refl), ((omega arith, omega arith, refl), tt))))))));
}

-- ---- a full round whose factors would pass their limit, and the wide round in its place

abbrev at_the_limit : Opening
at_the_limit = record {
  settings = pair_of_monitors 0;
  members = 1 ∷ [];
  factors = ((1, pos (2 ^ 112)) ∷ (2, pos (2 ^ 112)) ∷ []) ∷ ((1, neg_ℤ (pos (2 ^ 112))) ∷ (2, neg_ℤ (pos (2 ^ 112))) ∷ []) ∷ [];
}

abbrev pub factor_past_its_limit : List Noted
factor_past_its_limit =
    assign 1 1 (1 ∷ []) ((1, pos (2 ^ 112)) ∷ (2, pos (2 ^ 112)) ∷ [])
    ∷ assign 2 1 (1 ∷ []) ((1, neg_ℤ (pos (2 ^ 112))) ∷ (2, neg_ℤ (pos (2 ^ 112))) ∷ [])
    ∷ report 1 1 (pos (2 ^ 112)) (2 ∷ []) ((1, pos 0) ∷ (2, pos 1) ∷ [])
    ∷ collect 2 1 (1 ∷ 2 ∷ [])
    ∷ values 2 1 1 (neg_ℤ (pos (2 ^ 112))) ((1, pos 0) ∷ (2, pos 30) ∷ [])
    ∷ collect 1 2 (1 ∷ 2 ∷ []) ∷ collect 2 2 (1 ∷ 2 ∷ [])
    ∷ values 1 2 1 (pos (2 ^ 112)) ((1, pos 0) ∷ (2, pos 1) ∷ [])
    ∷ values 2 2 1 (neg_ℤ (pos (2 ^ 112))) ((1, pos 0) ∷ (2, pos 30) ∷ [])
    ∷ assign 1 2 (2 ∷ []) ((1, pos 0) ∷ (2, pos 9) ∷ []) ∷ assign 2 2 (2 ∷ []) ((1, pos 0) ∷ (2, negsuc 19) ∷ [])
    ∷ []

pub factor_past_its_limit_is_legal : IsLegal (at_the_limit) factor_past_its_limit
unfolding objects round_border leeway picked least_of greatest_of share units owned_units assigns_sent members_at factor own table_at answer_of progress_of last_round asked_of values_of waits_for is_open is_calm in_force is_stopped report_of reports_at short_decides full_decides wide_decides passes_short_test streak kind_of rounds is_wide demanded closing refusal_of retune_refusal_of turn_of
factor_past_its_limit_is_legal = record {
  played = refl;
  accepted = ((omega arith, omega arith, refl), ((omega arith, omega arith, refl), ((omega arith, omega arith, refl), ((omega arith, omega arith, refl), tt))));
}

-- ---- a leader that changes at every Report: eight full rounds, and the ninth time a wide one

abbrev pub eight_full_rounds : List Noted
eight_full_rounds =
    assign 1 1 (1 ∷ []) []
    ∷ assign 2 1 (1 ∷ []) []
    ∷ settled 2 1 true 0
    ∷ report 1 1 (pos 0) (2 ∷ []) ((1, pos 0) ∷ (2, pos 100) ∷ [])
    ∷ collect 2 1 (1 ∷ 2 ∷ [])
    ∷ values 2 1 1 (pos 0) ((1, pos 0) ∷ (2, pos 0) ∷ [])
    ∷ assign 1 2 (2 ∷ []) ((1, pos 0) ∷ (2, negsuc 66) ∷ [])
    ∷ assign 2 2 (2 ∷ []) ((1, pos 0) ∷ (2, pos 33) ∷ [])
    ∷ settled 2 2 true 0
    ∷ report 1 2 (pos 33) (1 ∷ []) ((1, pos 200) ∷ (2, pos 100) ∷ [])
    ∷ collect 2 2 (1 ∷ 2 ∷ [])
    ∷ values 2 2 2 (pos 33) ((1, pos 0) ∷ (2, pos 0) ∷ [])
    ∷ assign 1 3 (1 ∷ []) ((1, negsuc 133) ∷ (2, negsuc 66) ∷ [])
    ∷ assign 2 3 (1 ∷ []) ((1, pos 66) ∷ (2, pos 33) ∷ [])
    ∷ settled 2 3 true 0
    ∷ report 1 3 (pos 66) (2 ∷ []) ((1, pos 200) ∷ (2, pos 300) ∷ [])
    ∷ collect 2 3 (1 ∷ 2 ∷ [])
    ∷ values 2 3 3 (pos 66) ((1, pos 0) ∷ (2, pos 0) ∷ [])
    ∷ assign 1 4 (2 ∷ []) ((1, negsuc 133) ∷ (2, negsuc 200) ∷ [])
    ∷ assign 2 4 (2 ∷ []) ((1, pos 66) ∷ (2, pos 99) ∷ [])
    ∷ settled 2 4 true 0
    ∷ report 1 4 (pos 99) (1 ∷ []) ((1, pos 400) ∷ (2, pos 300) ∷ [])
    ∷ collect 2 4 (1 ∷ 2 ∷ [])
    ∷ values 2 4 4 (pos 99) ((1, pos 0) ∷ (2, pos 0) ∷ [])
    ∷ assign 1 5 (1 ∷ []) ((1, negsuc 267) ∷ (2, negsuc 200) ∷ [])
    ∷ assign 2 5 (1 ∷ []) ((1, pos 132) ∷ (2, pos 99) ∷ [])
    ∷ settled 2 5 true 0
    ∷ report 1 5 (pos 132) (2 ∷ []) ((1, pos 400) ∷ (2, pos 500) ∷ [])
    ∷ collect 2 5 (1 ∷ 2 ∷ [])
    ∷ values 2 5 5 (pos 132) ((1, pos 0) ∷ (2, pos 0) ∷ [])
    ∷ assign 1 6 (2 ∷ []) ((1, negsuc 267) ∷ (2, negsuc 334) ∷ [])
    ∷ assign 2 6 (2 ∷ []) ((1, pos 132) ∷ (2, pos 165) ∷ [])
    ∷ settled 2 6 true 0
    ∷ report 1 6 (pos 165) (1 ∷ []) ((1, pos 600) ∷ (2, pos 500) ∷ [])
    ∷ collect 2 6 (1 ∷ 2 ∷ [])
    ∷ values 2 6 6 (pos 165) ((1, pos 0) ∷ (2, pos 0) ∷ [])
    ∷ assign 1 7 (1 ∷ []) ((1, negsuc 401) ∷ (2, negsuc 334) ∷ [])
    ∷ assign 2 7 (1 ∷ []) ((1, pos 198) ∷ (2, pos 165) ∷ [])
    ∷ settled 2 7 true 0
    ∷ report 1 7 (pos 198) (2 ∷ []) ((1, pos 600) ∷ (2, pos 700) ∷ [])
    ∷ collect 2 7 (1 ∷ 2 ∷ [])
    ∷ values 2 7 7 (pos 198) ((1, pos 0) ∷ (2, pos 0) ∷ [])
    ∷ assign 1 8 (2 ∷ []) ((1, negsuc 401) ∷ (2, negsuc 468) ∷ [])
    ∷ assign 2 8 (2 ∷ []) ((1, pos 198) ∷ (2, pos 231) ∷ [])
    ∷ settled 2 8 true 0
    ∷ report 1 8 (pos 231) (1 ∷ []) ((1, pos 800) ∷ (2, pos 700) ∷ [])
    ∷ collect 2 8 (1 ∷ 2 ∷ [])
    ∷ values 2 8 8 (pos 231) ((1, pos 0) ∷ (2, pos 0) ∷ [])
    ∷ assign 1 9 (1 ∷ []) ((1, negsuc 535) ∷ (2, negsuc 468) ∷ [])
    ∷ assign 2 9 (1 ∷ []) ((1, pos 264) ∷ (2, pos 231) ∷ [])
    ∷ settled 2 9 true 0
    ∷ report 1 9 (pos 264) (2 ∷ []) ((1, pos 800) ∷ (2, pos 900) ∷ [])
    ∷ collect 1 9 (1 ∷ 2 ∷ [])
    ∷ collect 2 9 (1 ∷ 2 ∷ [])
    ∷ values 2 9 9 (pos 264) ((1, pos 0) ∷ (2, pos 0) ∷ [])
    ∷ values 1 9 9 (pos 264) ((1, pos 800) ∷ (2, pos 900) ∷ [])
    ∷ assign 1 10 (2 ∷ []) ((1, negsuc 532) ∷ (2, negsuc 599) ∷ [])
    ∷ assign 2 10 (2 ∷ []) ((1, pos 266) ∷ (2, pos 300) ∷ [])
    ∷ settled 1 10 true 9
    ∷ settled 2 10 true 0
    ∷ published 1 true 1 (pos 0) (2 ∷ []) ((9 ∷ []) ∷ (0 ∷ []) ∷ [])
    ∷ stop 1
    ∷ stop 2 ∷ []

pub eight_full_rounds_is_legal : IsLegal (start (pair_of_monitors 0)) eight_full_rounds
unfolding objects round_border leeway picked least_of greatest_of share units owned_units assigns_sent members_at factor own table_at answer_of progress_of last_round asked_of values_of waits_for is_open is_calm in_force is_stopped report_of reports_at short_decides full_decides wide_decides passes_short_test streak kind_of rounds is_wide demanded closing refusal_of retune_refusal_of turn_of
eight_full_rounds_is_legal = record {
  played = refl;
  accepted = ((omega arith, omega arith, refl), ((omega arith, omega arith, refl), ((omega arith, omega arith, refl), ((omega arith, omega arith, refl), ((omega arith, omega arith, refl), ((omega arith, omega arith, refl), ((omega arith, omega arith, refl), ((omega arith, omega arith, refl), ((omega arith, omega arith, refl), ((omega arith, omega arith, refl), ((omega arith, omega arith, refl), ((omega arith, omega arith, refl), ((omega arith, omega arith, refl), ((omega arith, omega arith, refl), ((omega arith, omega arith, refl), ((omega arith, omega arith, refl), ((omega arith, omega arith, refl), ((omega arith, omega arith, refl), ((omega arith, omega arith, refl), ((omega arith, omega arith, refl), ((omega arith, omega arith, refl), ((omega arith, omega arith, refl), ((omega arith, omega arith, refl), ((omega arith, omega arith, refl), ((omega arith, omega arith, refl), ((omega arith, omega arith, refl), ((omega arith, omega arith, refl), ((omega arith, omega arith, refl), ((omega arith, omega arith, refl), ((omega arith, omega arith, refl), tt))))))))))))))))))))))))))))));
}
