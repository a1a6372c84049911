-- Ordered links: what one end took is a front of what the other end sent.
use Rattle.std.specs.Prelude.{ℕ, ◌≡◌, List, length}
use Rattle.tk_base.specs.History.{IsFront}
use Rattle.tk_journal.specs.Laws.{IsMonitor, IsSetUp}
use Rattle.tk_journal.specs.Legal.{Opening, IsLegal}
use Rattle.tk_journal.specs.Links.{frames_from, frames_to}
use Rattle.tk_journal.specs.declared.noted.Noted.{Noted}
use Rattle.tk_trail.specs.Setup.{MonitorSetup}
use Rattle.tk_trail.specs.Legal.{IsLegal as IsLegalTrail}
use Rattle.tk_trail.specs.Readings.{sent_by, taken_by}
use Rattle.tk_trail.specs.declared.entry.Entry.{Entry}

-- the links of one monitor: it took a front of what was sent to it, and a front of what it sent was got
pub record IsOrderedLink (journal : List Noted) (mon : ℕ) (trail : List Entry) : Type 0 where
  pub down : IsFront (taken_by trail) (frames_to mon journal)
  pub up : IsFront (frames_from mon journal) (sent_by trail)

-- one monitor's end of a story, from whatever opening: its trail and the journal are legal, and its links are ordered
pub record IsJoined (o : Opening) (j : List Noted) (mon : ℕ) (setup : MonitorSetup) (trail : List Entry) : Type 0 where
  pub set : IsSetUp o
  pub journal : IsLegal o j
  pub monitor : IsMonitor o.settings mon
  pub shape : length setup.from ≡ length setup.parts
  pub ways : IsLegalTrail setup trail
  pub down : IsFront (taken_by trail) (frames_to mon j)
  pub up : IsFront (frames_from mon j) (sent_by trail)
