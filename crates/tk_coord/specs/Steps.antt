-- What a taken frame tells, and what follows it, as readings of the journal. No public clause cites this.
use Rattle.std.specs.Prelude.{ℕ, pos, nat_le, Result, Ok, Err, ◌+◌, ◌-◌, ◌^◌, length, map, ◌<◌, ◌≤◌, ◌≡◌, ◌≢◌, ◌⊎◌, Bool, true, false, not, ◌==◌, if◌then◌else◌, List, [], ◌∷◌, ◌++◌, filter, Option, Some, None}
use Rattle.std.specs.List.{All}
use Rattle.tk_base.specs.Settings.{Setup, is_k}
use Rattle.tk_base.specs.declared.ids.Mon.{Mon}
use Rattle.tk_frames.specs.declared.frame.Frame.{Frame}
use Rattle.tk_border.specs.Levels.{AreMembers}
use Rattle.tk_rows.specs.Factors.{Grid, AreBalanced, factor_at}
use Rattle.tk_rows.specs.Replacing.{IsReplacement, changes_at, factor_in}
use Rattle.tk_rows.specs.declared.reallocation.Reallocation.{Reallocation}
use Rattle.tk_alloc.specs.Parts.{by_monitor}
use Rattle.tk_alloc.specs.declared.reported.Reported.{Reported}
use Rattle.tk_journal.specs.Entries.{IsEntryOf}
use Rattle.tk_journal.specs.Readings.{monitors, assigns_sent, members_at, table_at, answer_of, last_round, waits_for, is_open, is_stopped}
use Rattle.tk_journal.specs.Deciding.{report_of, answered_report}
use Rattle.tk_journal.specs.Laws.{AreRoundsCounted, IsMonitor}
use Rattle.tk_journal.specs.Legal.{turn_of}
use Rattle.tk_journal.specs.Publishing.{closing}
use Rattle.tk_journal.specs.Refusal.{retune_refusal_of}
use Rattle.tk_journal.specs.declared.refusal.RetuneRefusal.{RetuneRefusal}
use Rattle.tk_journal.specs.declared.refusal.RetuneRefusal.TheVariants as retune
use Rattle.tk_journal.specs.Kinds.{opens_wide}
use Rattle.tk_journal.specs.Turns.{collects, demanded, fails_at, is_wide, kind_of}
use Rattle.tk_journal.specs.declared.noted.Noted.{Noted}
use Rattle.tk_journal.specs.declared.noted.Noted.TheVariants as n
use Rattle.tk_journal.specs.declared.turn.Turn.{Turn}
use Rattle.tk_journal.specs.declared.turn.TurnKind.{TurnKind}
use Rattle.tk_frames.specs.declared.frame.Frame.TheVariants as f
use Rattle.tk_coord.specs.declared.answer.Answer.TheVariants as a
use Rattle.tk_coord.specs.declared.peer.Peer.{Peer}
use Rattle.tk_coord.specs.declared.round.Round.{Round}
use Rattle.tk_coord.specs.declared.step.Statement.{Statement}
use Rattle.tk_coord.specs.declared.step.Statement.TheVariants as stated
use Rattle.tk_coord.specs.declared.step.Reply.{Reply}
use Rattle.tk_coord.specs.declared.step.Reply.TheVariants as reply
use Rattle.tk_coord.specs.declared.step.TurnOutcome.{TurnOutcome}
use Rattle.tk_coord.specs.declared.step.Step.{Step}
use Rattle.tk_coord.specs.declared.state.State.{State}
use Rattle.tk_coord.specs.State.{Holds, Stands, peer_at}

-- the journal with a frame that was taken
abbrev pub with_got : List Noted → Mon → Frame → List Noted
with_got j mon frame = j ++ n.Got mon frame ∷ []

-- ---- frames by their kind

-- a frame is a Report
abbrev pub IsReport : Frame → Type 0
IsReport (f.Report seq border failed values) = Unit {0}
IsReport frame = ⊥

-- a frame is a Settled
abbrev pub IsSettled : Frame → Type 0
IsSettled (f.Settled seq last places) = Unit {0}
IsSettled frame = ⊥

-- a frame is Values
abbrev pub AreValues : Frame → Type 0
AreValues (f.Values round seq border values) = Unit {0}
AreValues frame = ⊥

-- a fresh Report with some failed objects, of what it reports
abbrev pub report_frame : List Noted → Reported → List ℕ → Frame
report_frame j report failed = f.Report (assigns_sent report.mon.0 j) report.border failed report.values

-- the settings with another k and epsilon, or which of them is past its limit
abbrev pub retuned_to : Setup → ℕ → ℕ → Result Setup RetuneRefusal
retuned_to s k epsilon =
    if not (is_k k s.objects) then Err retune.BadK
    else (if not (nat_le epsilon (2 ^ 100)) then Err retune.BadEpsilon else Ok (record s { k = k; epsilon = pos epsilon }))

-- a retune that is not refused, with the settings that it brings: no Stop was sent, and no round is open
pub record IsRetuned (s : Setup) (j : List Noted) (k e : ℕ) (next : Setup) : Type 0 where
  pub going : is_stopped j ≡ false
  pub closed : is_open s j ≡ false
  pub accepted : retune_refusal_of s j k e ≡ None
  pub brings : next ≡ record s { k = k; epsilon = pos e }

-- ---- what a frame tells

-- the peer of a monitor after what a frame of it tells
abbrev pub told_at : Statement → Peer → Peer
told_at stated.Nothing peer = peer
told_at stated.Report peer = record peer { answer = Some a.Report }
told_at (stated.Settled progress) peer = record peer { answer = Some a.Settled; progress = Some progress }
told_at (stated.Values report) peer = record peer { waits = false }
told_at stated.LastValues peer = record peer { waits = false }

-- the values that it tells of a round that waits for more
abbrev pub values_in : Statement → Option Reported
values_in (stated.Values report) = Some report
values_in statement = None

-- whether a round is open after it
abbrev pub open_after : Statement → Bool → Bool
open_after (stated.Values report) was = true
open_after stated.LastValues was = false
open_after statement was = was

-- what a frame of a monitor tells
pub record Tells (s : Setup) (j : List Noted) (mon : Mon) (frame : Frame) (statement : Statement) : Type 0 where
  pub peer : peer_at (with_got j mon frame) mon.0 ≡ told_at statement (peer_at j mon.0)
  pub others : (q : ℕ) → q ≢ mon.0 → peer_at (with_got j mon frame) q ≡ peer_at j q
  pub waiting : is_open s (with_got j mon frame) ≡ open_after statement (is_open s j)
  pub report : (r : Reported) → values_in statement ≡ Some r → report_of mon.0 (with_got j mon frame) ≡ Some r
  pub kept : is_open s j ≡ true → (q : ℕ) → IsMonitor s q → (values_in statement ≡ None) ⊎ (q ≢ mon.0) → waits_for (last_round j) q j ≡ false → report_of q (with_got j mon frame) ≡ report_of q j

-- whatever journal a state is kept of, it is kept of that with a frame that tells this
abbrev pub NotesTold : Mon → Statement → State → State → Type 0
NotesTold mon statement old new =
    (s : Setup) (j : List Noted) (frame : Frame) → Tells s j mon frame statement → IsMonitor s mon.0 → Holds s j old → Holds s (with_got j mon frame) new

-- ---- what is sent

-- whether a round does not ask a monitor, with whose Report it begins
abbrev pub is_opener : Option Reported → ℕ → Bool
is_opener None mon = false
is_opener (Some report) mon = mon == report.mon.0

-- the monitors that a round asks
abbrev pub asked_mons : Setup → Option Reported → List ℕ
asked_mons s opener = filter (λ mon. not (is_opener opener mon)) (monitors s)

-- Collects open a round over a journal in which none is open
pub record IsAsked (s : Setup) (j entries : List Noted) (round : Round) (opener : Option Reported) : Type 0 where
  pub sends : entries ≡ collects round.number round.asked (asked_mons s opener)
  pub some : (q : ℕ) × (mons : List ℕ) × (asked_mons s opener ≡ q ∷ mons)
  pub closed : is_open s j ≡ false
  pub counted : AreRoundsCounted s j
  pub new : last_round j < round.number
  pub waiting : round.waiting ≡ true
  pub wide : round.wide ≡ is_wide s (j ++ entries)
  pub report : (r : Reported) → opener ≡ Some r → IsMonitor s r.mon.0 × (answered_report r.mon.0 (answer_of r.mon.0 j) ≡ Some r)

-- a table is another with a reallocation
pub record IsReplaced (grid : Grid) (r : Reallocation) (after : Grid) : Type 0 where
  pub monitors : after.monitors ≡ grid.monitors
  pub objects : length after.rows ≡ length grid.rows
  pub factors : (node o : ℕ) → 0 < o → factor_at after node o ≡ factor_in (changes_at r node) o (factor_at grid node o)
  pub balanced : AreBalanced after

-- the next Assign to each monitor with changes
abbrev pub next_assigns : List Noted → Reallocation → List Noted
next_assigns j r =
    map (λ d. n.Sent (record { 0 = d.0 }) (f.Assign (assigns_sent d.0 j + 1) r.members d.1)) (by_monitor r.at.items)

-- Assigns send a reallocation over a journal in which no round is open
pub record AreAssigned (s : Setup) (j entries : List Noted) (r : Reallocation) : Type 0 where
  pub sends : entries ≡ next_assigns j r
  pub closed : is_open s j ≡ false
  pub fits : IsReplacement (table_at s j) r
  pub named : All (λ c. (0 < c.mon.0) × (c.mon.0 ≤ s.monitors)) r.at.items
  pub room : All (λ c. assigns_sent c.mon.0 j < 2 ^ 64 - 1) r.at.items
  pub members : members_at (j ++ entries) ≡ r.members
  pub chosen : AreMembers s.objects r.members
  pub table : (after : Grid) → IsReplaced (table_at s j) r after → after ≡ table_at s (j ++ entries)

-- what is sent over a journal
abbrev pub IsReply : Setup → List Noted → List Noted → Reply → Type 0
IsReply s j entries reply.Nothing = entries ≡ []
IsReply s j entries (reply.Ask round opener) = IsAsked s j entries round opener
IsReply s j entries (reply.Assign r) = AreAssigned s j entries r

-- whatever journal a state is kept of, it is kept of that with what is sent
abbrev pub NotesReply : Reply → State → State → Type 0
NotesReply r old new = (s : Setup) (j entries : List Noted) → IsReply s j entries r → Holds s j old → Holds s (j ++ entries) new

-- ---- the turn

-- what follows a frame: what it demands, and what ends its turn
pub record Follows (s : Setup) (j : List Noted) (mon : Mon) (frame : Frame) (outcome : TurnOutcome) : Type 0 where
  pub reply : IsReply s (with_got j mon frame) (demanded s j mon.0 frame) outcome.reply
  pub entries : outcome.entries.items ≡ demanded s j mon.0 frame ++ closing s (with_got j mon frame ++ demanded s j mon.0 frame)
  pub range : All (IsEntryOf s.monitors s.objects) outcome.entries.items
  pub phase : Stands s (j ++ turn_of s j (n.Got mon frame)) outcome.phase

-- whether what is sent opens a wide round
abbrev pub asks_wide : Reply → Bool
asks_wide reply.Nothing = false
asks_wide (reply.Ask round opener) = round.wide
asks_wide (reply.Assign r) = false

-- the turn of a frame that nothing follows, before its end
abbrev pub quiet_turn : TurnKind → Turn
quiet_turn kind = record { kind = kind; fails = false; widens = false; calm = false }

-- the step of a frame that tells this, with a turn of this kind before its end
abbrev pub step_with : TurnOutcome → Statement → TurnKind → Bool → Step
step_with outcome statement kind fails = record {
  statement = statement;
  outcome = outcome;
  turn = record { kind = kind; fails = fails; widens = asks_wide outcome.reply; calm = false };
}

-- how the turn of a frame counts: its kind, whether its Report fails the short test, and whether it opens a wide round
pub record IsCounted (s : Setup) (j : List Noted) (mon : ℕ) (frame : Frame) (kind : TurnKind) (fails wide : Bool) : Type 0 where
  pub kind_is : kind ≡ kind_of s j mon frame
  pub fails_is : fails ≡ fails_at s j mon frame
  pub wide_is : wide ≡ opens_wide s j mon frame

-- what a frame brings about
pub record IsStep (s : Setup) (j : List Noted) (mon : Mon) (frame : Frame) (step : Step) : Type 0 where
  pub told : Tells s j mon frame step.statement
  pub outcome : Follows s j mon frame step.outcome
  pub counted : IsCounted s j mon.0 frame step.turn.kind step.turn.fails step.turn.widens
