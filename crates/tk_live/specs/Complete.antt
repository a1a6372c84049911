-- What makes a story that was joined one that is over. No public clause cites it.
use Rattle.std.specs.Prelude.{ℕ, ◌≡◌, ◌+◌, ◌-◌, ◌^◌, ◌≤◌, min, true, List, sum_by}
use Rattle.std.specs.List.{concat}
use Rattle.tk_frames.specs.Spelling.{IsVersion}
use Rattle.tk_input.specs.Sink.{Grows}
use Rattle.tk_journal.specs.Laws.{IsMonitor}
use Rattle.tk_journal.specs.Links.{frames_from}
use Rattle.tk_journal.specs.Readings.{is_stopped as has_sent_stop, monitors}
use Rattle.tk_journal.specs.declared.noted.Noted.{Noted}
use Rattle.tk_ledger.specs.Text.{lines_of}
use Rattle.tk_story.specs.Story.{StoryView, trail_of}
use Rattle.tk_trail.specs.Readings.{is_stopped, taken_by}
use Rattle.tk_trail.specs.declared.entry.Entry.{Entry}
use Rattle.tk_live.specs.Carried.{bytes_of}
use Rattle.tk_live.specs.Traffic.{Traffic}

-- the bytes that the hub heard of a monitor: its Hello, and the frames that were got of it
abbrev pub heard_at : (ℕ → ℕ) → List Noted → ℕ → ℕ
heard_at said journal mon = 18 + bytes_of (said mon) (frames_from mon journal)

-- the bytes of the frames that a monitor took
abbrev pub took_in : ℕ → List Entry → ℕ
took_in version trail = bytes_of version (taken_by trail)

-- no fewer bytes were taken than the hub heard and the monitors took
pub record IsHeard (version : ℕ) (s : StoryView) (old new : ℕ) : Type 0 where
  pub said : ℕ → ℕ
  pub versions : (mon : ℕ) → IsVersion (said mon)
  pub taken : min (old + (sum_by (heard_at said s.journal) (monitors s.settings) + sum_by (took_in version) s.trails)) (2 ^ 64 - 1) ≤ new

-- Stop was sent, every monitor took it, and all lines are written
pub record IsComplete (names : List (List ℕ)) (version : ℕ) (s : StoryView) (traffic : Traffic) : Type 0 where
  pub stopped : has_sent_stop s.journal ≡ true
  pub halted : (mon : ℕ) → IsMonitor s.settings mon → is_stopped (trail_of s mon) ≡ true
  pub written : Grows traffic.output.before traffic.output.after (concat (lines_of names s.journal))
  pub heard : IsHeard version s traffic.taken traffic.taken_then
