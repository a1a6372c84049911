-- What the coordinator keeps, as readings of its journal. No public clause cites this.
use Rattle.std.specs.Prelude.{ℕ, suc, ◌≡◌, true, false, List, length, Option, Some, None, slice_get}
use Rattle.tk_base.specs.Settings.{Setup}
use Rattle.tk_frames.specs.declared.frame.Frame.{Frame}
use Rattle.tk_frames.specs.declared.frame.Frame.TheVariants as f
use Rattle.tk_alloc.specs.declared.reported.Reported.{Reported}
use Rattle.tk_journal.specs.Readings.{assigns_sent, members_at, table_at, answer_of, progress_of, last_round, asked_of, waits_for, is_open, in_force, is_stopped, tunings, tuned_to}
use Rattle.tk_journal.specs.Deciding.{report_of}
use Rattle.tk_journal.specs.Laws.{IsMonitor}
use Rattle.tk_journal.specs.Turns.{is_wide}
use Rattle.tk_base.specs.History.{last_of}
use Rattle.tk_journal.specs.declared.noted.Noted.{Noted}
use Rattle.tk_coord.specs.declared.answer.Answer.{Answer}
use Rattle.tk_coord.specs.declared.answer.Answer.TheVariants as a
use Rattle.tk_coord.specs.declared.peer.Peer.{Peer}
use Rattle.tk_coord.specs.declared.round.Round.{Round}
use Rattle.tk_coord.specs.declared.phase.Phase.{Phase}
use Rattle.tk_coord.specs.declared.state.State.{State}

-- the kind of a current answer
abbrev pub kind_in : Option Frame → Option Answer
kind_in (Some (f.Report seq border failed values)) = Some a.Report
kind_in (Some (f.Settled seq last places)) = Some a.Settled
kind_in answer = None

-- what a journal says of one monitor
abbrev pub peer_at : List Noted → ℕ → Peer
peer_at j mon = record {
  assigns = assigns_sent mon j;
  answer = kind_in (answer_of mon j);
  progress = progress_of mon j;
  waits = waits_for (last_round j) mon j;
}

-- the peers of all monitors, ascending
pub record ArePeers (s : Setup) (j : List Noted) (peers : List Peer) : Type 0 where
  pub count : length peers ≡ s.monitors
  pub each : (i : ℕ) (l : Peer) → slice_get peers i ≡ Some l → l ≡ peer_at j (suc i)

-- the last round, and what those told to it that it does not wait for
pub record IsRound (s : Setup) (j : List Noted) (round : Round) (gathered : List Reported) : Type 0 where
  pub number : round.number ≡ last_round j
  pub waiting : round.waiting ≡ is_open s j
  pub wide : is_open s j ≡ true → round.wide ≡ is_wide s j
  pub asked : (mon : ℕ) → IsMonitor s mon → waits_for (last_round j) mon j ≡ true → asked_of (last_round j) mon j ≡ Some round.asked
  pub count : length gathered ≡ s.monitors
  pub told : is_open s j ≡ true → (i : ℕ) (r : Reported) → slice_get gathered i ≡ Some r → waits_for (last_round j) (suc i) j ≡ false → report_of (suc i) j ≡ Some r

-- all that is kept of the frames
pub record Holds (s : Setup) (j : List Noted) (state : State) : Type 0 where
  pub members : state.board.members ≡ members_at j
  pub table : state.board.table ≡ table_at s j
  pub peers : ArePeers s j state.peers.items
  pub round : IsRound s j state.round state.gathered.items

-- the settings with the k and epsilon of the last retune, in force or not yet
abbrev pub next_settings : Setup → List Noted → Setup
next_settings s j = tuned_to s (last_of (tunings j))

-- what holds until the next turn
pub record Stands (s : Setup) (j : List Noted) (phase : Phase) : Type 0 where
  pub settings : phase.settings ≡ in_force s j
  pub next : phase.next ≡ next_settings s j
  pub stopped : phase.stopped ≡ is_stopped j
