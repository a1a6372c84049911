-- The ledger of a journal: its frames by monitor and kind, its turns by kind, and the bytes of all its frames.
use Rattle.std.specs.Prelude.{ℕ, ◌==◌, Bool, true, false, if◌then◌else◌, List, map, sum_by, count_by, Option, Some, None}
use Rattle.std.specs.List.{filter_map}
use Rattle.tk_base.specs.Settings.{Setup}
use Rattle.tk_frames.specs.Carried.{is_collect, is_values}
use Rattle.tk_frames.specs.Size.{size_of}
use Rattle.tk_frames.specs.declared.frame.Frame.{Frame}
use Rattle.tk_frames.specs.declared.frame.Frame.TheVariants as f
use Rattle.tk_journal.specs.Kinds.{counts_of as rounds_of, turns_of}
use Rattle.tk_journal.specs.Readings.{monitors}
use Rattle.tk_journal.specs.declared.noted.Noted.{Noted}
use Rattle.tk_journal.specs.declared.noted.Noted.TheVariants as n
use Rattle.tk_ledger.specs.declared.counts.Counts.{Counts}
use Rattle.tk_ledger.specs.declared.ledger.Ledger.{Ledger}

-- the frame that an entry passes over the links of a monitor, up or down
abbrev pub passed_at : ℕ → Noted → Option Frame
passed_at mon (n.Got from frame) = if from.0 == mon then Some frame else None
passed_at mon (n.Sent to frame) = if to.0 == mon then Some frame else None
passed_at mon (n.Published publication) = None
passed_at mon (n.Tuned k epsilon) = None

-- the frames that went over the links of a monitor, in order
abbrev pub frames_at : ℕ → List Noted → List Frame
frames_at mon journal = filter_map (passed_at mon) journal

-- whether a frame is an Assign
abbrev pub is_assign : Frame → Bool
is_assign (f.Assign seq members changes) = true
is_assign frame = false

-- whether a frame is a Report
abbrev pub is_report : Frame → Bool
is_report (f.Report seq border failed values) = true
is_report frame = false

-- whether a frame is a Settled
abbrev pub is_settled : Frame → Bool
is_settled (f.Settled seq last places) = true
is_settled frame = false

-- whether a frame is Stop
abbrev pub is_stop : Frame → Bool
is_stop f.Stop = true
is_stop frame = false

-- how many of some frames are of each kind
abbrev pub counts_of : List Frame → Counts
counts_of frames = record {
  assign = count_by is_assign frames;
  report = count_by is_report frames;
  collect = count_by is_collect frames;
  values = count_by is_values frames;
  settled = count_by is_settled frames;
  stop = count_by is_stop frames;
}

-- the bytes in version 1 of the frame that an entry passes
abbrev pub bytes_in : Noted → ℕ
bytes_in (n.Got from frame) = size_of frame
bytes_in (n.Sent to frame) = size_of frame
bytes_in (n.Published publication) = 0
bytes_in (n.Tuned k epsilon) = 0

-- the ledger of a journal under some settings
unfoldable pub ledger_of : Setup → List Noted → Ledger
ledger_of setup journal =
    let rounds = rounds_of (turns_of setup journal) in record {
      per = map (λ mon. counts_of (frames_at mon journal)) (monitors setup);
      short = rounds.short;
      full = rounds.full;
      wide = rounds.wide;
      stale = rounds.stale;
      bytes = sum_by bytes_in journal;
    }
