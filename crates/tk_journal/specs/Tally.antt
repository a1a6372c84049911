-- How many of some frames are of a kind.
use Rattle.std.specs.Prelude.{ℕ, List}
use Rattle.tk_journal.specs.Links.{frames_to, frames_from}
use Rattle.tk_journal.specs.declared.noted.Noted.{Noted}
use Rattle.tk_frames.specs.Carried.{is_collect, is_values, tally}

-- how many Collects were sent to a monitor
abbrev pub collects_to : ℕ → List Noted → ℕ
collects_to mon j = tally is_collect (frames_to mon j)

-- how many Values were taken from a monitor
abbrev pub values_from : ℕ → List Noted → ℕ
values_from mon j = tally is_values (frames_from mon j)
