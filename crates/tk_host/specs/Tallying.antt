-- How a session adds up the bytes of its frames. No public clause cites it.
use Rattle.std.specs.Prelude.{◌≡◌, ◌≤◌, List, length, take}
use Rattle.tk_input.specs.Rows.{capped}
use Rattle.tk_journal.specs.declared.noted.Noted.{Noted}
use Rattle.tk_host.specs.Room.{bytes_of}
use Rattle.tk_host.specs.declared.tally.Tally.{Tally}

-- the frames of a front of a journal are counted
pub record IsCounted (journal : List Noted) (tally : Tally) : Type 0 where
  pub within : tally.entries ≤ length journal
  pub bytes : tally.bytes ≡ capped (bytes_of (take tally.entries journal))
