-- How the code counts, one frame at a time, and the count of a kind by its kind.
use Rattle.std.specs.Prelude.{ℕ, ◌+◌, ◌-◌, ◌<◌, ◌^◌, ◌==◌, ◌≡◌, if◌then◌else◌, List, length, slice_index_or, Option, Some, None}
use Rattle.tk_base.specs.declared.ids.Mon.{Mon}
use Rattle.tk_frames.specs.Frame.{kind_of}
use Rattle.tk_frames.specs.declared.frame.Frame.{Frame}
use Rattle.tk_frames.specs.declared.kind.Kind.{Kind}
use Rattle.tk_frames.specs.declared.kind.Kind.TheVariants as k
use Rattle.tk_ledger.specs.declared.counts.Counts.{Counts}
use Rattle.tk_ledger.specs.declared.rounds.Rounds.{Rounds}

-- nothing counted
abbrev pub none : Counts
none = record { assign = 0; report = 0; collect = 0; values = 0; settled = 0; stop = 0 }

-- counts with one more of a kind; a Hello is in no journal, and has no count
abbrev pub with_one : Counts → Kind → Counts
with_one counts k.Assign = record counts { assign = counts.assign + 1 }
with_one counts k.Report = record counts { report = counts.report + 1 }
with_one counts k.Collect = record counts { collect = counts.collect + 1 }
with_one counts k.Values = record counts { values = counts.values + 1 }
with_one counts k.Settled = record counts { settled = counts.settled + 1 }
with_one counts k.Stop = record counts { stop = counts.stop + 1 }
with_one counts k.Hello = counts

-- the count of a kind
abbrev pub count_of : Kind → Counts → ℕ
count_of k.Assign counts = counts.assign
count_of k.Report counts = counts.report
count_of k.Collect counts = counts.collect
count_of k.Values counts = counts.values
count_of k.Settled counts = counts.settled
count_of k.Stop counts = counts.stop
count_of k.Hello counts = 0

-- each kind can be counted once more
pub record HasRoom (counts : Counts) : Type 0 where
  pub each : (kind : Kind) → count_of kind counts < 2 ^ 64 - 1

-- counts with the frame that was passed, if there is one
abbrev pub with_passed : Counts → Option Frame → Counts
with_passed counts None = counts
with_passed counts (Some frame) = with_one counts (kind_of frame)

-- a frame of one monitor, as passed over the links of another
abbrev pub passed_over : Mon → Frame → ℕ → Option Frame
passed_over from frame mon = if from.0 == mon then Some frame else None

-- the count of each monitor takes what passed there
abbrev pub CountEach : (ℕ → Option Frame) → List Counts → List Counts → Type 0
CountEach passed old new =
    (i : ℕ) → i < length old
    → slice_index_or new i none ≡ with_passed (slice_index_or old i none) (passed (i + 1))

-- each count of turns can take one more
pub record HasRoundRoom (rounds : Rounds) : Type 0 where
  pub short : rounds.short < 2 ^ 64 - 1
  pub full : rounds.full < 2 ^ 64 - 1
  pub wide : rounds.wide < 2 ^ 64 - 1
  pub stale : rounds.stale < 2 ^ 64 - 1
