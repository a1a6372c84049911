-- What a round deals: from the reports to it, the new members and the new factors.
use Rattle.std.specs.Prelude.{ℕ, ◌^◌, ℤ, unsigned_abs, int_le, Bool, not, nat_le, if◌then◌else◌, List, [], ◌∷◌, filter, filter_map, Option, Some, None, is_some}
use Rattle.std.specs.List.{list_all}
use Rattle.tk_base.specs.Objects.{objects, is_in}
use Rattle.tk_base.specs.Pairs.{objects_of}
use Rattle.tk_base.specs.Settings.{Setup}
use Rattle.tk_rows.specs.Factors.{Grid}
use Rattle.tk_frames.specs.declared.frame.Frame.{Frame}
use Rattle.tk_frames.specs.declared.frame.Frame.TheVariants as f
use Rattle.tk_alloc.specs.declared.reported.Reported.{Reported}
use Rattle.tk_alloc.specs.Parts.{leeway, dealt_from}
use Rattle.tk_alloc.specs.Resolving.{round_parts, objects_over}
use Rattle.tk_alloc.specs.Rounds.{chosen, wide_parts}
use Rattle.tk_journal.specs.Readings.{monitors, answer_of, asked_of, values_of, last_round}
use Rattle.tk_journal.specs.declared.noted.Noted.{Noted}

-- what a Report of a monitor reports
abbrev pub report_in : ℕ → Frame → Option Reported
report_in mon (f.Report seq border failed values) = Some (record { mon = record { 0 = mon }; values = values; border = border })
report_in mon frame = None

-- what the current answer of a monitor reports, if it is a Report
abbrev pub answered_report : ℕ → Option Frame → Option Reported
answered_report mon None = None
answered_report mon (Some frame) = report_in mon frame

-- what a monitor reports to the last round: its Values where it was asked, else the Report that it is answered with
unfoldable pub report_of : ℕ → List Noted → Option Reported
report_of mon journal =
    if is_some (asked_of (last_round journal) mon journal) then values_of (last_round journal) mon journal
    else answered_report mon (answer_of mon journal)

-- the reports to the last round, monitors ascending
unfoldable pub reports_at : Setup → List Noted → List Reported
reports_at setup journal = filter_map (λ mon. report_of mon journal) (monitors setup)

-- new factors by node, the coordinator's first: for each object of the round its new factor
abbrev pub Dealt : Type 0
Dealt = List (ℕ × List (ℕ × ℤ))

-- what a round decides: the members, and the new factors
pub record Decided : Type 0 where
  pub members : List ℕ
  pub dealt : Dealt

-- whether each new factor is at most 2^112 in size
abbrev pub is_within_limit : Decided → Bool
is_within_limit decided = list_all (λ d. list_all (λ c. nat_le (unsigned_abs c.1) (2 ^ 112)) d.1) decided.dealt

-- between the coordinator and one monitor: the members stay
unfoldable pub short_decides : Setup → Grid → List ℕ → Reported → Decided
short_decides setup grid present report = record {
  members = present;
  dealt = let parts = round_parts setup grid present present (objects_of report.values) (report ∷ []) in dealt_from grid parts (objects_of report.values) 0 parts;
}

-- between all nodes, over the objects of a resolution set
unfoldable pub full_decides : Setup → Grid → List ℕ → List Reported → Decided
full_decides setup grid present reports =
    let members = chosen setup present reports (objects_over reports) in
    let parts = round_parts setup grid present members (objects_over reports) reports in
    record { members = members; dealt = dealt_from grid parts (objects_over reports) 0 parts }

-- between all nodes, over all objects, with every border taken as 0
unfoldable pub wide_decides : Setup → Grid → List ℕ → List Reported → Decided
wide_decides setup grid present reports =
    let members = chosen setup present reports (objects setup.objects) in
    let parts = wide_parts setup members reports in
    record { members = members; dealt = dealt_from grid parts (objects setup.objects) 0 parts }

-- the short test: between the coordinator and the reporter, the leeway of each member is at least that of
-- each failed object
unfoldable pub passes_short_test : Setup → Grid → List ℕ → Reported → Bool
passes_short_test setup grid present report =
    let parts = round_parts setup grid present present (objects_of report.values) (report ∷ []) in
    let failed = filter (λ o. not (is_in present o)) (objects_of report.values) in
    list_all (λ t. list_all (λ s. int_le (leeway grid parts s) (leeway grid parts t)) failed) present
