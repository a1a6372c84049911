-- What the fields of a monitor keep of its trail. No public clause cites this file.
use Rattle.std.specs.Prelude.{◌≡◌, ℕ, ◌-◌, ℤ, Bool, ◌&&◌, not, List, [], length, map, sum_by, Option, slice_get, slice_index_or, slice_index, nat_lt, if◌then◌else◌}
use Rattle.std.specs.List.{zip}
use Rattle.tk_base.specs.Objects.{objects}
use Rattle.tk_frames.specs.declared.frame.Frame.{Frame}
use Rattle.tk_frames.specs.declared.frame.Frame.TheVariants as f
use Rattle.tk_input.specs.Logs.{value_of}
use Rattle.tk_border.specs.Levels.{broken, border, resolution}
use Rattle.tk_trail.specs.Setup.{MonitorSetup, IsSetup}
use Rattle.tk_trail.specs.Readings.{places_at, values_of, levels_of, members_at, seq_of, is_reported, is_end_told, is_stopped}
use Rattle.tk_trail.specs.Legal.{IsLegal}
use Rattle.tk_trail.specs.declared.entry.Entry.{Entry}
use Rattle.tk_monitor.specs.Board.{BoardView, values_in}
use Rattle.tk_monitor.specs.Trail.{TrailView}
use Rattle.tk_monitor.specs.declared.outcome.Checked.{Checked}
use Rattle.tk_monitor.specs.declared.outcome.Checked.TheVariants.{Reported, ToldEnd, Nothing}
use Rattle.tk_monitor.specs.declared.phase.Phase.{Phase}

-- the board that a trail gives: values, levels and members at its end
abbrev pub standing_of : MonitorSetup → List Entry → BoardView
standing_of setup trail = record { values = values_of setup trail; levels = levels_of setup trail; members = members_at trail }

-- the phase that a trail gives: the Assigns taken, and whether it reported, told the end and took Stop
abbrev pub phase_of : List Entry → Phase
phase_of trail = record { seq = seq_of trail; reported = is_reported trail; told = is_end_told trail; stopped = is_stopped trail }

-- how many changes of all parts are not reached
abbrev pub left_in : List (List (ℕ × ℤ)) → List ℕ → ℕ
left_in parts next = sum_by (λ p. length p.0 - p.1) (zip parts next)

-- the fields are what the trail gives, which is legal, and there is room for the raises that are left
pub record IsKept (setup : MonitorSetup) (was : TrailView) (board : BoardView) (next : List ℕ) (phase : Phase) : Type 0 where
  pub within : IsSetup setup
  pub legal : IsLegal setup was.entries
  pub places : next ≡ places_at setup was.entries
  pub standing : board ≡ standing_of setup was.entries
  pub phase_is : phase ≡ phase_of was.entries
  pub room : was.raises ≡ left_in setup.parts next

-- the next change of part i
abbrev pub next_in : List (List (ℕ × ℤ)) → List ℕ → ℕ → Option (ℕ × ℤ)
next_in parts next i = slice_get (slice_index_or parts i []) (slice_index next i)

-- the values at some places, over a catalogue of n
unfoldable pub values_on : ℕ → List (List (ℕ × ℤ)) → List ℕ → List ℤ
values_on n parts next = map (value_of parts next) (objects n)

-- the Report that a board gives: the broken outsiders, with values and border over the members and them
unfoldable pub report_on : BoardView → ℕ → Frame
report_on s seq =
    let failed = broken s.levels s.members in
    let asked = resolution (length s.levels) s.members failed in
    f.Report seq (border s.levels s.members asked) failed (values_in s.values asked)

-- the Values that a board gives to a round: values and border over the asked objects
abbrev pub values_frame : BoardView → ℕ → ℕ → List ℕ → Frame
values_frame s seq round asked = f.Values round seq (border s.levels s.members asked) (values_in s.values asked)

-- the answer to an Assign, of the board once it is taken
abbrev pub answer_on : BoardView → ℕ → List ℕ → Bool → Frame
answer_on s seq next ended =
    if nat_lt 0 (length (broken s.levels s.members)) then report_on s seq else f.Settled seq ended next

-- what a check does of what it looks at: whether a Report may be sent, whether something is broken, whether all
-- parts are at their ends, and whether that was told
abbrev pub due_of : Bool → Bool → Bool → Bool → Checked
due_of may_report broken ended told =
    if may_report && broken then Reported
    else (if may_report && not broken && ended && not told then ToldEnd else Nothing)
