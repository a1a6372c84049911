-- That what a legal journal sends is answered.
use Rattle.std.specs.Prelude.{ℕ, ◌≡◌, ◌+◌, true, List, Some, Contains, if◌then◌else◌}
use Rattle.tk_alloc.specs.declared.reported.Reported.{Reported}
use Rattle.tk_frames.specs.declared.frame.Frame.TheVariants as f
use Rattle.tk_journal.specs.Laws.{IsMonitor, IsSetUp}
use Rattle.tk_journal.specs.Legal.{IsLegal, Opening}
use Rattle.tk_journal.specs.Links.{frames_from}
use Rattle.tk_journal.specs.Readings.{assigns_sent, is_open, last_round, values_of, waits_for}
use Rattle.tk_journal.specs.Sending.{IsLastAsked}
use Rattle.tk_journal.specs.Tally.{collects_to, values_from}
use Rattle.tk_journal.specs.declared.noted.Noted.{Noted}

-- while a round waits for a monitor, the last frame sent to it is that round's Collect
abbrev pub AwaitedMonitorWasLastAsked : Type 0
AwaitedMonitorWasLastAsked =
    (o : Opening) (j : List Noted) (mon : ℕ) → IsSetUp o → IsLegal o j → IsMonitor o.settings mon
    → waits_for (last_round j) mon j ≡ true → IsLastAsked mon j

-- to a monitor went as many Collects as came Values of it, and one more while it is waited for
abbrev pub EachCollectIsAnswered : Type 0
EachCollectIsAnswered =
    (o : Opening) (j : List Noted) (mon : ℕ) → IsSetUp o → IsLegal o j → IsMonitor o.settings mon
    → collects_to mon j ≡ values_from mon j + (if waits_for (last_round j) mon j then 1 else 0)

-- what is gathered in an open round came as Values of that round, over the last Assign
abbrev pub GatheredAreFresh : Type 0
GatheredAreFresh =
    (o : Opening) (j : List Noted) (mon : ℕ) → IsSetUp o → IsLegal o j → IsMonitor o.settings mon
    → is_open o.settings j ≡ true
    → (r : Reported) → values_of (last_round j) mon j ≡ Some r
    → Contains (frames_from mon j) (f.Values (last_round j) (assigns_sent mon j) r.border r.values)
