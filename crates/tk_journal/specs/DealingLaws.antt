-- What is dealt with in legal journals, and how what is sent and published is numbered.
use Rattle.std.specs.Prelude.{ℕ, ℤ, ◌≡◌, false, List, [], ◌∷◌, ◌++◌, None}
use Rattle.std.specs.List.{range_with_len}
use Rattle.tk_alloc.specs.Limit.{CanDeal}
use Rattle.tk_alloc.specs.Resolving.{objects_over}
use Rattle.tk_base.specs.Pairs.{objects_of}
use Rattle.tk_frames.specs.Assigns.{members_of}
use Rattle.tk_frames.specs.declared.frame.Frame.TheVariants as f
use Rattle.tk_journal.specs.Deciding.{reports_at}
use Rattle.tk_journal.specs.Laws.{IsMonitor, IsSetUp}
use Rattle.tk_journal.specs.Legal.{IsLegal, Opening}
use Rattle.tk_journal.specs.Readings.{assigns_sent, assigns_to, in_force, is_open, members_at, seqs_to, table_at}
use Rattle.tk_journal.specs.Refusal.{refusal_of}
use Rattle.tk_journal.specs.Turns.{is_wide, reported}
use Rattle.tk_journal.specs.declared.noted.Noted.{Noted}
use Rattle.tk_journal.specs.declared.noted.Noted.TheVariants as n

-- a fresh Report that is taken can be dealt with in a short round, or open a full one
abbrev pub ReportCanBeDealtWith : Type 0
ReportCanBeDealtWith =
    (o : Opening) (j : List Noted) (mon seq : ℕ) (border : ℤ) (failed : List ℕ) (values : List (ℕ × ℤ))
    → IsSetUp o → IsLegal o j → IsMonitor o.settings mon
    → refusal_of o.settings j mon (f.Report seq border failed values) ≡ None → seq ≡ assigns_sent mon j
    → CanDeal (in_force o.settings j) (table_at o.settings j) (members_at j) (objects_of values)
    (reported mon border values ∷ [])

-- the Values that end a full round leave reports that it can be dealt with
abbrev pub FullRoundCanBeDealtWith : Type 0
FullRoundCanBeDealtWith =
    (o : Opening) (j : List Noted) (mon round seq : ℕ) (border : ℤ) (values : List (ℕ × ℤ))
    → IsSetUp o → IsLegal o j → IsMonitor o.settings mon
    → refusal_of o.settings j mon (f.Values round seq border values) ≡ None
    → let now = j ++ n.Got (record { 0 = mon }) (f.Values round seq border values) ∷ [] in
    is_open o.settings now ≡ false → is_wide o.settings now ≡ false
    → let reports = reports_at o.settings now in
    CanDeal (in_force o.settings now) (table_at o.settings now) (members_at now) (objects_over reports) reports

-- the last Assign to each monitor names the members
abbrev pub EachMonitorIsSentTheMembers : Type 0
EachMonitorIsSentTheMembers =
    (o : Opening) (j : List Noted) (mon : ℕ) → IsSetUp o → IsLegal o j → IsMonitor o.settings mon
    → members_of (assigns_to mon j) ≡ members_at j

-- the sequence numbers of the Assigns to each monitor count up from 1
abbrev pub AssignsAreNumbered : Type 0
AssignsAreNumbered =
    (o : Opening) (j : List Noted) (mon : ℕ) → IsSetUp o → IsLegal o j → IsMonitor o.settings mon
    → seqs_to mon j ≡ range_with_len 1 (assigns_sent mon j)
