-- Why a serving ended.
use Rattle.std.specs.Prelude.{ℕ, Bool, nat_lt, is_some, if◌then◌else◌, ◌||◌}
use Rattle.tk_trail.specs.Readings.{is_stopped}
use Rattle.tk_story.specs.declared.ends.mon_end.MonEnd.{MonEnd}
use Rattle.tk_wire.specs.Meanings.{Counts}
use Rattle.tk_serve.specs.declared.served.Why.{Why}
use Rattle.tk_serve.specs.declared.served.Why.TheVariants as w

-- whether a link failed or ended, or the rest beside it failed
abbrev pub has_failed : Counts → ℕ → Bool
has_failed link rest = nat_lt 0 link.faults || nat_lt 0 link.ends || nat_lt 0 rest

-- the first cause that an end, the counts of its link and the faults of its rest show: something that was not taken, Stop,
-- a fault, and else want of memory
abbrev pub why_of : MonEnd → Counts → ℕ → Why
why_of end link rest =
    if is_some end.odd then w.Odd
    else (if is_stopped end.monitor.trail then w.Stopped else (if has_failed link rest then w.Failed else w.NoMemory))
