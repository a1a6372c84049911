-- What stands at the end of a legal journal.
use Rattle.std.specs.Prelude.{ℕ, ◌≡◌, ◌≤◌, ◌+◌, true, false, List, ◌∷◌, ◌++◌, Some, is_some, slice_index_or}
use Rattle.tk_base.specs.declared.ids.Mon.{Mon}
use Rattle.tk_frames.specs.declared.frame.Frame.{Frame}
use Rattle.tk_frames.specs.Carried.{is_numbered}
use Rattle.tk_frames.specs.declared.frame.Frame.TheVariants as f
use Rattle.tk_input.specs.Logs.{places_of}
use Rattle.tk_journal.specs.Laws.{IsMonitor, IsSetUp}
use Rattle.tk_journal.specs.Legal.{IsLegal, Opening}
use Rattle.tk_journal.specs.Publishing.{is_last}
use Rattle.tk_journal.specs.Readings.{Progress, answer_of, asked_of, assigns_sent, is_calm, is_open, is_stopped, last_round, progress_of}
use Rattle.tk_journal.specs.Refusal.{is_report}
use Rattle.tk_journal.specs.Sending.{IsAnswered, WasHeard}
use Rattle.tk_journal.specs.declared.noted.Noted.{Noted}
use Rattle.tk_journal.specs.declared.noted.Noted.TheVariants as n
use Rattle.tk_journal.specs.declared.publication.Publication.{Publication}

-- where no round is open, no current answer is a Report
abbrev pub NoReportStands : Type 0
NoReportStands =
    (o : Opening) (j : List Noted) (mon : ℕ) → IsSetUp o → IsLegal o j → IsMonitor o.settings mon
    → is_open o.settings j ≡ false → is_report (answer_of mon j) ≡ false

-- a Report or Settled that was got under the last number leaves a current answer; a Report stays one
abbrev pub AnswerStands : Type 0
AnswerStands =
    (o : Opening) (a after : List Noted) (from : Mon) (frame : Frame)
    → IsLegal o (a ++ n.Got from frame ∷ after)
    → is_numbered (assigns_sent from.0 (a ++ n.Got from frame ∷ after)) frame ≡ true
    → IsAnswered from.0 (a ++ n.Got from frame ∷ after) (is_report (Some frame))

-- a told end stays told
abbrev pub ToldEndStaysTold : Type 0
ToldEndStaysTold =
    (o : Opening) (a after : List Noted) (from : Mon) (seq : ℕ) (places : List ℕ)
    → IsLegal o (a ++ n.Got from (f.Settled seq true places) ∷ after)
    → seq ≡ assigns_sent from.0 (a ++ n.Got from (f.Settled seq true places) ∷ after)
    → (p : Progress) × (progress_of from.0 (a ++ n.Got from (f.Settled seq true places) ∷ after) ≡ Some p)
    × (p.last ≡ true)

-- where all is calm and at the ends, Stop was sent
abbrev pub CalmAtTheEndsIsStopped : Type 0
CalmAtTheEndsIsStopped =
    (o : Opening) (j : List Noted) → IsSetUp o → IsLegal o j
    → is_calm o.settings j ≡ true → is_last o.settings j ≡ true → is_stopped j ≡ true

-- no place of a publication is behind that of one before it
abbrev pub PublicationsNeverGoBack : Type 0
PublicationsNeverGoBack =
    (o : Opening) (a b c : List Noted) (p q : Publication) (mon i : ℕ)
    → IsLegal o (a ++ n.Published p ∷ b ++ n.Published q ∷ c) → IsMonitor o.settings mon
    → slice_index_or (places_of p.cut mon) i 0 ≤ slice_index_or (places_of q.cut mon) i 0

-- while a round is open, whoever it did not ask stands with a Report
abbrev pub WhoWasNotAskedHasReported : Type 0
WhoWasNotAskedHasReported =
    (o : Opening) (j : List Noted) (mon : ℕ) → IsSetUp o → IsLegal o j → IsMonitor o.settings mon
    → is_open o.settings j ≡ true → is_some (asked_of (last_round j) mon j) ≡ false
    → is_report (answer_of mon j) ≡ true

-- an Assign past the first to a monitor was sent after a frame of it that speaks of the number before
abbrev pub EachAssignWasHeardOf : Type 0
EachAssignWasHeardOf =
    (o : Opening) (j : List Noted) (mon number : ℕ) → IsSetUp o → IsLegal o j → IsMonitor o.settings mon
    → 1 ≤ number → assigns_sent mon j ≡ number + 1 → WasHeard mon j number
