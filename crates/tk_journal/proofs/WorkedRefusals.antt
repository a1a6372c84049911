-- Worked refusals: what the tests of frames and of retunes give.
use Rattle.std.proofs.Common.{◌≡◌, ℕ, ◌+◌, ◌^◌, ℤ, pos, neg_ℤ, List, [], ◌∷◌, ◌++◌, true, false, Option, Some, None, take, refl}
use Rattle.tk_base.specs.Objects.{objects}
use Rattle.tk_border.specs.Levels.{least_of, greatest_of}
use Rattle.tk_frames.specs.declared.frame.Frame.{Frame}
use Rattle.tk_frames.specs.declared.frame.Frame.TheVariants as f
use Rattle.tk_frames.specs.declared.kind.Kind.TheVariants as k
use Rattle.tk_journal.specs.Readings.{assigns_sent, members_at, factor, own, table_at, answer_of, progress_of, last_round, asked_of, values_of, waits_for, is_open, is_stopped}
use Rattle.tk_journal.specs.Refusal.{refusal_of, retune_refusal_of}
use Rattle.tk_journal.specs.Legal.{start, opened}
use Rattle.tk_journal.specs.declared.noted.Noted.{Noted}
use Rattle.tk_journal.specs.declared.noted.Noted.TheVariants as n
use Rattle.tk_journal.specs.declared.refusal.CoordRefusal.{CoordRefusal}
use Rattle.tk_journal.specs.declared.refusal.CoordRefusal.TheVariants.{AfterStop, NotForCoordinator, AheadOfSequence, NotAsked, BehindSequence, AfterReport, WrongObjects, TooGreatValue, NotBroken, BadBorder, BadCut}
use Rattle.tk_journal.specs.declared.refusal.RetuneRefusal.TheVariants as retune
use Rattle.tk_journal.proofs.Worked.{pair_of_monitors, report, collect, two_monitors, crossing_report}

abbrev fresh : List Noted
fresh = opened (start (pair_of_monitors 0))

-- a full round is open: monitor 2 has reported, and monitor 1 is asked
abbrev asked : List Noted
asked = fresh ++ report 2 1 (pos 0) (2 ∷ []) ((1, pos 0) ∷ (2, pos 3) ∷ []) ∷ collect 1 1 (1 ∷ 2 ∷ []) ∷ []

abbrev refused : List Noted → ℕ → Frame → Option CoordRefusal
refused journal mon frame = refusal_of (pair_of_monitors 0) journal mon frame

-- the journal of two monitors whose Report crossed an Assign, up to that Assign
abbrev crossing_front : List Noted
crossing_front = take 10 crossing_report

abbrev from_two : ℕ → ℤ → List ℕ → List (ℕ × ℤ) → Frame
from_two seq border failed told = f.Report seq border failed told

-- a Report under a number that was not sent yet
pub ahead_of_the_assigns : refused fresh 2 (from_two 2 (pos 0) (2 ∷ []) ((1, pos 0) ∷ (2, pos 3) ∷ [])) ≡ Some (AheadOfSequence 1 2)
unfolding objects least_of greatest_of assigns_sent members_at factor own table_at answer_of progress_of last_round asked_of values_of waits_for is_open is_stopped refusal_of retune_refusal_of
ahead_of_the_assigns = refl

-- b is failed, and no greater than a
pub nothing_is_broken : refused fresh 2 (from_two 1 (pos 0) (2 ∷ []) ((1, pos 0) ∷ (2, pos 0) ∷ [])) ≡ Some (NotBroken (record { 0 = 2 }))
unfolding objects least_of greatest_of assigns_sent members_at factor own table_at answer_of progress_of last_round asked_of values_of waits_for is_open is_stopped refusal_of retune_refusal_of
nothing_is_broken = refl

-- the border is above the least member level
pub border_above_the_members : refused fresh 2 (from_two 1 (pos 1) (2 ∷ []) ((1, pos 0) ∷ (2, pos 3) ∷ [])) ≡ Some (BadBorder (pos 1) (pos 0))
unfolding objects least_of greatest_of assigns_sent members_at factor own table_at answer_of progress_of last_round asked_of values_of waits_for is_open is_stopped refusal_of retune_refusal_of
border_above_the_members = refl

-- the border is below its limit
pub border_far_below : refused fresh 2 (from_two 1 (neg_ℤ (pos (2 ^ 113 + 1))) (2 ∷ []) ((1, pos 0) ∷ (2, pos 3) ∷ [])) ≡ Some (BadBorder (neg_ℤ (pos (2 ^ 113 + 1))) (pos 0))
unfolding objects least_of greatest_of assigns_sent members_at factor own table_at answer_of progress_of last_round asked_of values_of waits_for is_open is_stopped refusal_of retune_refusal_of
border_far_below = refl

-- the Report as it should be
pub report_is_taken : refused fresh 2 (from_two 1 (pos 0) (2 ∷ []) ((1, pos 0) ∷ (2, pos 3) ∷ [])) ≡ None
unfolding objects least_of greatest_of assigns_sent members_at factor own table_at answer_of progress_of last_round asked_of values_of waits_for is_open is_stopped refusal_of retune_refusal_of
report_is_taken = refl

-- a Report of nothing
pub nothing_failed : refused fresh 2 (from_two 1 (pos 0) [] ((1, pos 0) ∷ [])) ≡ Some WrongObjects
unfolding objects least_of greatest_of assigns_sent members_at factor own table_at answer_of progress_of last_round asked_of values_of waits_for is_open is_stopped refusal_of retune_refusal_of
nothing_failed = refl

-- a Report of a member
pub a_member_failed : refused fresh 2 (from_two 1 (pos 0) (1 ∷ []) ((1, pos 0) ∷ [])) ≡ Some WrongObjects
unfolding objects least_of greatest_of assigns_sent members_at factor own table_at answer_of progress_of last_round asked_of values_of waits_for is_open is_stopped refusal_of retune_refusal_of
a_member_failed = refl

-- a Report of object 0, which is none of the catalogue
pub object_0_failed : refused fresh 2 (from_two 1 (pos 0) (0 ∷ 2 ∷ []) ((1, pos 0) ∷ (2, pos 3) ∷ [])) ≡ Some WrongObjects
unfolding objects least_of greatest_of assigns_sent members_at factor own table_at answer_of progress_of last_round asked_of values_of waits_for is_open is_stopped refusal_of retune_refusal_of
object_0_failed = refl

-- a Report of failed objects that do not ascend
pub failed_out_of_order : refused fresh 2 (from_two 1 (pos 0) (2 ∷ 2 ∷ []) ((1, pos 0) ∷ (2, pos 3) ∷ [])) ≡ Some WrongObjects
unfolding objects least_of greatest_of assigns_sent members_at factor own table_at answer_of progress_of last_round asked_of values_of waits_for is_open is_stopped refusal_of retune_refusal_of
failed_out_of_order = refl

-- values that are not over members and failed
pub a_value_is_missing : refused fresh 2 (from_two 1 (pos 0) (2 ∷ []) ((2, pos 3) ∷ [])) ≡ Some WrongObjects
unfolding objects least_of greatest_of assigns_sent members_at factor own table_at answer_of progress_of last_round asked_of values_of waits_for is_open is_stopped refusal_of retune_refusal_of
a_value_is_missing = refl

-- a value over 2^100
pub value_past_its_limit : refused fresh 2 (from_two 1 (pos 0) (2 ∷ []) ((1, pos 0) ∷ (2, pos (2 ^ 100 + 1)) ∷ [])) ≡ Some (TooGreatValue (record { 0 = 2 }))
unfolding objects least_of greatest_of assigns_sent members_at factor own table_at answer_of progress_of last_round asked_of values_of waits_for is_open is_stopped refusal_of retune_refusal_of
value_past_its_limit = refl

-- a second Report under the same number
pub second_report : refused asked 2 (from_two 1 (pos 0) (2 ∷ []) ((1, pos 0) ∷ (2, pos 3) ∷ [])) ≡ Some (AfterReport 1)
unfolding objects least_of greatest_of assigns_sent members_at factor own table_at answer_of progress_of last_round asked_of values_of waits_for is_open is_stopped refusal_of retune_refusal_of
second_report = refl

-- Values of a round that is not open
pub another_round : refused asked 1 (f.Values 7 1 (pos 0) ((1, pos 0) ∷ (2, pos 0) ∷ [])) ≡ Some (NotAsked 7)
unfolding objects least_of greatest_of assigns_sent members_at factor own table_at answer_of progress_of last_round asked_of values_of waits_for is_open is_stopped refusal_of retune_refusal_of
another_round = refl

-- Values of a monitor that was not asked
pub not_asked : refused asked 2 (f.Values 1 1 (pos 0) ((1, pos 0) ∷ (2, pos 0) ∷ [])) ≡ Some (NotAsked 1)
unfolding objects least_of greatest_of assigns_sent members_at factor own table_at answer_of progress_of last_round asked_of values_of waits_for is_open is_stopped refusal_of retune_refusal_of
not_asked = refl

-- Values from before the last Assign
pub values_from_before : refused asked 1 (f.Values 1 0 (pos 0) ((1, pos 0) ∷ (2, pos 0) ∷ [])) ≡ Some (BehindSequence 1 0)
unfolding objects least_of greatest_of assigns_sent members_at factor own table_at answer_of progress_of last_round asked_of values_of waits_for is_open is_stopped refusal_of retune_refusal_of
values_from_before = refl

-- Values that are not over the asked objects
pub values_over_others : refused asked 1 (f.Values 1 1 (pos 0) ((1, pos 0) ∷ [])) ≡ Some WrongObjects
unfolding objects least_of greatest_of assigns_sent members_at factor own table_at answer_of progress_of last_round asked_of values_of waits_for is_open is_stopped refusal_of retune_refusal_of
values_over_others = refl

-- the Values as they should be
pub values_are_taken : refused asked 1 (f.Values 1 1 (pos 0) ((1, pos 0) ∷ (2, pos 0) ∷ [])) ≡ None
unfolding objects least_of greatest_of assigns_sent members_at factor own table_at answer_of progress_of last_round asked_of values_of waits_for is_open is_stopped refusal_of retune_refusal_of
values_are_taken = refl

-- a Settled with no places
pub no_places : refused fresh 1 (f.Settled 1 false []) ≡ Some BadCut
unfolding objects least_of greatest_of assigns_sent members_at factor own table_at answer_of progress_of last_round asked_of values_of waits_for is_open is_stopped refusal_of retune_refusal_of
no_places = refl

-- places that go back
pub places_go_back : refused (fresh ++ n.Got (record { 0 = 1 }) (f.Settled 1 false (4 ∷ [])) ∷ []) 1 (f.Settled 1 false (3 ∷ [])) ≡ Some BadCut
unfolding objects least_of greatest_of assigns_sent members_at factor own table_at answer_of progress_of last_round asked_of values_of waits_for is_open is_stopped refusal_of retune_refusal_of
places_go_back = refl

-- other places after the last ones
pub places_after_the_last : refused (fresh ++ n.Got (record { 0 = 1 }) (f.Settled 1 true (4 ∷ [])) ∷ []) 1 (f.Settled 1 true (5 ∷ [])) ≡ Some BadCut
unfolding objects least_of greatest_of assigns_sent members_at factor own table_at answer_of progress_of last_round asked_of values_of waits_for is_open is_stopped refusal_of retune_refusal_of
places_after_the_last = refl

-- a stale Report is taken with no test of what it says
pub a_stale_report : refused (crossing_front) 2 (from_two 1 (pos 9) [] []) ≡ None
unfolding objects least_of greatest_of assigns_sent members_at factor own table_at answer_of progress_of last_round asked_of values_of waits_for is_open is_stopped refusal_of retune_refusal_of
a_stale_report = refl

-- a frame that only a monitor takes
pub for_a_monitor : refused fresh 2 f.Stop ≡ Some (NotForCoordinator k.Stop)
unfolding objects least_of greatest_of assigns_sent members_at factor own table_at answer_of progress_of last_round asked_of values_of waits_for is_open is_stopped refusal_of retune_refusal_of
for_a_monitor = refl

-- any frame after Stop
pub after_the_end : refused two_monitors 2 f.Stop ≡ Some AfterStop
unfolding objects least_of greatest_of assigns_sent members_at factor own table_at answer_of progress_of last_round asked_of values_of waits_for is_open is_stopped refusal_of retune_refusal_of
after_the_end = refl

-- a retune while a round is open
pub retune_while_a_round_is_open : retune_refusal_of (pair_of_monitors 0) asked 0 7 ≡ Some retune.RoundOpen
unfolding objects least_of greatest_of assigns_sent members_at factor own table_at answer_of progress_of last_round asked_of values_of waits_for is_open is_stopped refusal_of retune_refusal_of
retune_while_a_round_is_open = refl

-- a retune to no member
pub retune_to_no_member : retune_refusal_of (pair_of_monitors 0) fresh 0 (2 ^ 100 + 1) ≡ Some retune.BadK
unfolding objects least_of greatest_of assigns_sent members_at factor own table_at answer_of progress_of last_round asked_of values_of waits_for is_open is_stopped refusal_of retune_refusal_of
retune_to_no_member = refl

-- a retune past the greatest epsilon
pub retune_past_the_epsilon : retune_refusal_of (pair_of_monitors 0) fresh 2 (2 ^ 100 + 1) ≡ Some retune.BadEpsilon
unfolding objects least_of greatest_of assigns_sent members_at factor own table_at answer_of progress_of last_round asked_of values_of waits_for is_open is_stopped refusal_of retune_refusal_of
retune_past_the_epsilon = refl

-- a retune as it should be
pub retune_is_taken : retune_refusal_of (pair_of_monitors 0) fresh 2 (2 ^ 100) ≡ None
unfolding objects least_of greatest_of assigns_sent members_at factor own table_at answer_of progress_of last_round asked_of values_of waits_for is_open is_stopped refusal_of retune_refusal_of
retune_is_taken = refl

-- a retune after Stop
pub retune_after_the_end : retune_refusal_of (pair_of_monitors 0) two_monitors 0 7 ≡ Some retune.AfterStop
unfolding objects least_of greatest_of assigns_sent members_at factor own table_at answer_of progress_of last_round asked_of values_of waits_for is_open is_stopped refusal_of retune_refusal_of
retune_after_the_end = refl
