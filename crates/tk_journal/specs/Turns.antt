-- Turns: what a taken frame or a retune brings about, by its kind.
use Rattle.std.specs.Prelude.{ℕ, ◌+◌, ℤ, Bool, not, ◌&&◌, nat_lt, ◌==◌, if◌then◌else◌, List, [], ◌∷◌, ◌++◌, map, filter, drop, is_some, false}
use Rattle.std.specs.List.{list_all}
use Rattle.tk_base.specs.Objects.{objects}
use Rattle.tk_base.specs.Pairs.{objects_of}
use Rattle.tk_base.specs.Settings.{Setup}
use Rattle.tk_frames.specs.declared.frame.Frame.{Frame}
use Rattle.tk_frames.specs.declared.frame.Frame.TheVariants as f
use Rattle.tk_alloc.specs.declared.reported.Reported.{Reported}
use Rattle.tk_journal.specs.Readings.{monitors, assigns_sent, members_at, table_at, is_open, is_calm, in_force, last_round, asked_of}
use Rattle.tk_journal.specs.Deciding.{Decided, reports_at, short_decides, full_decides, wide_decides, passes_short_test, is_within_limit}
use Rattle.tk_journal.specs.Walks.{walk}
use Rattle.tk_journal.specs.declared.turn.TurnKind.{TurnKind}
use Rattle.tk_journal.specs.declared.turn.TurnKind.TheVariants.{Stale, Note, Short, Wide, Full, End}
use Rattle.tk_journal.specs.declared.noted.Noted.{Noted}
use Rattle.tk_journal.specs.declared.noted.Noted.TheVariants as n

-- what a Report of a monitor reports
abbrev pub reported : ℕ → ℤ → List (ℕ × ℤ) → Reported
reported mon border values = record { mon = record { 0 = mon }; values = values; border = border }

-- ---- the short test, the streak, and the kind of a turn

-- the short test of a Report, by members, table, k and epsilon as they stand
abbrev pub passes_at : Setup → List Noted → Reported → Bool
passes_at setup journal report = passes_short_test (in_force setup journal) (table_at setup journal) (members_at journal) report

-- what a short round with a Report decides
abbrev pub short_at : Setup → List Noted → Reported → Decided
short_at setup journal report = short_decides (in_force setup journal) (table_at setup journal) (members_at journal) report

-- whether a frame is a fresh Report that finds no open round and fails the short test
abbrev pub fails_at : Setup → List Noted → ℕ → Frame → Bool
fails_at setup before mon (f.Report seq border failed values) =
    (seq == assigns_sent mon before) && not (is_open setup before) && not (passes_at setup before (reported mon border values))
fails_at setup before mon frame = false

-- at the end of a calm turn the count begins again
abbrev pub unless_calm : Setup → List Noted → ℕ → ℕ
unless_calm setup before count = if is_calm setup before then 0 else count

-- the count of short tests failed since all was calm, behind one more entry
abbrev pub failures_after : Setup → List Noted → ℕ → Noted → ℕ
failures_after setup before count (n.Got from frame) =
    if fails_at setup before from.0 frame then unless_calm setup before count + 1 else unless_calm setup before count
failures_after setup before count (n.Sent to frame) = count
failures_after setup before count (n.Published publication) = count
failures_after setup before count (n.Tuned k epsilon) = unless_calm setup before count

-- the streak: the short tests failed since the last turn at whose end no round was open and every current
-- answer was Settled; the first eight of them open full rounds, those after them wide ones
unfoldable pub streak : Setup → List Noted → ℕ
streak setup journal = unless_calm setup journal (walk (failures_after setup) [] 0 journal)

-- the kind of the turn of a fresh Report that finds no open round
abbrev pub kind_of_report : Setup → List Noted → Reported → TurnKind
kind_of_report setup before report =
    if passes_at setup before report then (if is_within_limit (short_at setup before report) then Short else Wide)
    else (if nat_lt (streak setup before) 8 then Full else Wide)

-- the kind of the turn of a frame that is not refused
unfoldable pub kind_of : Setup → List Noted → ℕ → Frame → TurnKind
kind_of setup before mon (f.Report seq border failed values) =
    if nat_lt seq (assigns_sent mon before) then Stale
    else (if is_open setup before then Note else kind_of_report setup before (reported mon border values))
kind_of setup before mon (f.Settled seq last places) = if nat_lt seq (assigns_sent mon before) then Stale else Note
kind_of setup before mon (f.Values round seq border values) =
    if is_open setup (before ++ n.Got (record { 0 = mon }) (f.Values round seq border values) ∷ []) then Note else End
kind_of setup before mon frame = Note

-- ---- the numbers of rounds

-- a Full turn with one monitor opens a round without any Collect
abbrev pub is_lone_full : Setup → TurnKind → Bool
is_lone_full setup Full = setup.monitors == 1
is_lone_full setup kind = false

-- the count of rounds opened, behind one more entry: a Collect names it
abbrev pub rounds_after : Setup → List Noted → ℕ → Noted → ℕ
rounds_after setup before count (n.Got from frame) =
    if is_lone_full setup (kind_of setup before from.0 frame) then count + 1 else count
rounds_after setup before count (n.Sent to (f.Collect round asked)) = round
rounds_after setup before count (n.Sent to frame) = count
rounds_after setup before count (n.Published publication) = count
rounds_after setup before count (n.Tuned k epsilon) = count

-- how many rounds were opened
unfoldable pub rounds : Setup → List Noted → ℕ
rounds setup journal = walk (rounds_after setup) [] 0 journal

-- ---- what each kind demands

-- a Collect over some objects to some monitors
abbrev pub collects : ℕ → List ℕ → List ℕ → List Noted
collects round asked mons = map (λ mon. n.Sent (record { 0 = mon }) (f.Collect round asked)) mons

-- the Collects of a wide round
abbrev pub wide_collects : Setup → ℕ → List Noted
wide_collects setup round = collects round (objects setup.objects) (monitors setup)

-- the next Assign to each monitor that is dealt new factors
abbrev pub assigns : List Noted → Decided → List Noted
assigns journal decided =
    map (λ d. n.Sent (record { 0 = d.0 }) (f.Assign (assigns_sent d.0 journal + 1) decided.members d.1)) (drop 1 decided.dealt)

-- what a full round decides, by the reports to it
abbrev pub full_at : Setup → List Noted → List Reported → Decided
full_at setup journal reports = full_decides (in_force setup journal) (table_at setup journal) (members_at journal) reports

-- what a wide round decides, by the reports to it
abbrev pub wide_at : Setup → List Noted → List Reported → Decided
wide_at setup journal reports = wide_decides (in_force setup journal) (table_at setup journal) (members_at journal) reports

-- the end of a full round: its Assigns, or where a factor is past its limit the Collects of a wide round
abbrev pub full_end : Setup → List Noted → ℕ → List Reported → List Noted
full_end setup journal next reports =
    let decided = full_at setup journal reports in if is_within_limit decided then assigns journal decided else wide_collects setup next

-- the end of a wide round
abbrev pub wide_end : Setup → List Noted → List Reported → List Noted
wide_end setup journal reports = assigns journal (wide_at setup journal reports)

-- whether the last round is wide: it asked every monitor
unfoldable pub is_wide : Setup → List Noted → Bool
is_wide setup journal = list_all (λ mon. is_some (asked_of (last_round journal) mon journal)) (monitors setup)

-- a full round with a Report: Collects to the other monitors, or with one monitor its end at once
abbrev pub full_turn : Setup → List Noted → Reported → List Noted
full_turn setup journal report =
    let next = rounds setup journal + 1 in
    if setup.monitors == 1 then full_end setup journal (next + 1) (report ∷ [])
    else collects next (objects_of report.values) (filter (λ mon. not (mon == report.mon.0)) (monitors setup))

-- what the turn of a Report demands, by its kind
abbrev pub report_demands : Setup → List Noted → Reported → TurnKind → List Noted
report_demands setup before report Short = assigns before (short_at setup before report)
report_demands setup before report Wide = wide_collects setup (rounds setup before + 1)
report_demands setup before report Full = full_turn setup before report
report_demands setup before report kind = []

-- what the turn of Values demands, by its kind: over the journal with these Values
abbrev pub values_demand : Setup → List Noted → TurnKind → List Noted
values_demand setup now End =
    if is_wide setup now then wide_end setup now (reports_at setup now)
    else full_end setup now (rounds setup now + 1) (reports_at setup now)
values_demand setup now kind = []

-- what a frame demands that is not refused
unfoldable pub demanded : Setup → List Noted → ℕ → Frame → List Noted
demanded setup before mon (f.Report seq border failed values) =
    report_demands setup before (reported mon border values) (kind_of setup before mon (f.Report seq border failed values))
demanded setup before mon (f.Values round seq border values) =
    values_demand setup (before ++ n.Got (record { 0 = mon }) (f.Values round seq border values) ∷ []) (kind_of setup before mon (f.Values round seq border values))
demanded setup before mon frame = []
