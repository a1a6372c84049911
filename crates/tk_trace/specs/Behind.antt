-- What stands behind the logs, read in the parts in which the code reads it. No public clause cites it.
use Rattle.std.specs.Prelude.{ℕ, ℤ, List, Option, Some}
use Rattle.tk_base.specs.Settings.{Setup}
use Rattle.tk_input.specs.Logs.{LogSet}
use Rattle.tk_frames.specs.Reading.{◌>>=◌}
use Rattle.tk_journal.specs.declared.noted.Noted.{Noted}
use Rattle.tk_trail.specs.declared.entry.Entry.{Entry}
use Rattle.tk_trace.specs.Reading.{at_the_end, journal_at, trails_at}
use Rattle.tk_trace.specs.Recorded.{Recorded}

-- the trails, and nothing behind them
abbrev pub last_trails_at : List (List (List (ℕ × ℤ))) → List ℕ → Option (List (List Entry))
last_trails_at logs bytes = trails_at logs bytes >>= λ trails. at_the_end trails.0 trails.1

-- the journal and the trails, and nothing behind them
abbrev pub histories_at : ℕ → List (List (List (ℕ × ℤ))) → List ℕ → Option (List Noted × List (List Entry))
histories_at monitors logs bytes = do
  journal ← journal_at monitors bytes
  trails ← last_trails_at logs journal.1
  Some (journal.0, trails)

-- what was recorded over these settings, names and logs, as reading all of it ends
abbrev pub behind_logs_at : Setup → List (List ℕ) → LogSet → List ℕ → Option Recorded
behind_logs_at settings names logs bytes = do
  journal ← journal_at settings.monitors bytes
  trails ← trails_at logs.logs journal.1
  at_the_end (record { names = names; settings = settings; logs = logs; journal = journal.0; trails = trails.0 }) trails.1
