-- What the rounds are dealt over, as readings of the journal. No public clause cites this.
use Rattle.std.specs.Prelude.{ℕ, ◌≡◌, false, List, None}
use Rattle.std.specs.List.{All}
use Rattle.tk_base.specs.Settings.{Setup}
use Rattle.tk_frames.specs.declared.frame.Frame.{Frame}
use Rattle.tk_alloc.specs.declared.reported.Reported.{Reported}
use Rattle.tk_journal.specs.Entries.{IsEntryOf}
use Rattle.tk_journal.specs.Laws.{IsMonitor}
use Rattle.tk_journal.specs.Readings.{is_open, members_at, table_at}
use Rattle.tk_journal.specs.Refusal.{refusal_of}
use Rattle.tk_journal.specs.Turns.{rounds}
use Rattle.tk_journal.specs.declared.noted.Noted.{Noted}
use Rattle.tk_coord.specs.Coordinator.{IsJournal}
use Rattle.tk_coord.specs.Dealing.{OpensWide}
use Rattle.tk_coord.specs.State.{ArePeers, Stands}
use Rattle.tk_coord.specs.Steps.{report_frame}
use Rattle.tk_coord.specs.declared.outcomes.Grounds.{Grounds}
use Rattle.tk_coord.specs.declared.step.TurnOutcome.{TurnOutcome}

-- the fields that rounds are dealt over are the journal's
pub record IsGrounded (s : Setup) (j : List Noted) (g : Grounds) : Type 0 where
  pub journal : IsJournal s j
  pub named : g.board.now.members ≡ members_at j
  pub dealt : g.board.now.table ≡ table_at s j
  pub are_peers : ArePeers s j g.peers.now
  pub stands : Stands s j g.phase
  pub counted : g.rounds ≡ rounds s j

-- a frame is a fresh Report that is not refused and finds no round open, of what it reports
pub record IsAnswered (s : Setup) (j : List Noted) (frame : Frame) (report : Reported) : Type 0 where
  pub failed : List ℕ
  pub is : frame ≡ report_frame j report failed
  pub range : IsMonitor s report.mon.0
  pub taken : refusal_of s j report.mon.0 (report_frame j report failed) ≡ None
  pub closed : is_open s j ≡ false

-- a wide round opens over the journal
pub record OpensOver (s : Setup) (j : List Noted) (outcome : TurnOutcome) : Type 0 where
  pub stands : Stands s j outcome.phase
  pub opens : OpensWide outcome.phase (rounds s j) outcome
  pub range : All (IsEntryOf s.monitors s.objects) outcome.entries.items
