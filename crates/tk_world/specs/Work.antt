-- A set of monitors. No public clause cites this file.
use Rattle.std.specs.Prelude.{ℕ, ◌-◌, Bool, false, ◌&&◌, ◌==◌, nat_le, List}
use Rattle.std.specs.List.{list_any}
use Rattle.std.specs.Int.{bit_at}
use Rattle.tk_journal.specs.declared.noted.Noted.{Noted}
use Rattle.tk_journal.specs.declared.noted.Noted.TheVariants as n
use Rattle.tk_world.specs.declared.work.Work.{Work}

-- whether a monitor is in the set
unfoldable pub has : Work → ℕ → Bool
has work mon = nat_le 1 mon && bit_at work.bits (mon - 1) == 1

-- whether an entry of a journal sends a frame to a monitor
abbrev pub sends_to : ℕ → Noted → Bool
sends_to mon (n.Got from frame) = false
sends_to mon (n.Sent to frame) = mon == to.0
sends_to mon (n.Published publication) = false
sends_to mon (n.Tuned k epsilon) = false

-- whether one of some entries sends a frame to a monitor
abbrev pub is_sent : List Noted → ℕ → Bool
is_sent entries mon = list_any (sends_to mon) entries
