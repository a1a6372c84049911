-- What a monitor must send at the end of a front of its trail.
use Rattle.std.specs.Prelude.{ℕ, ℤ, Bool, not, ◌&&◌, nat_lt, List, map, fold, Option, Some, None, if◌then◌else◌}
use Rattle.tk_frames.specs.declared.frame.Frame.{Frame}
use Rattle.tk_frames.specs.declared.frame.Frame.TheVariants as f
use Rattle.tk_border.specs.Levels.{border, resolution}
use Rattle.tk_trail.specs.Setup.{MonitorSetup}
use Rattle.tk_trail.specs.Readings.{members_at, seq_of, places_at, at_ends, value_of_object, levels_of, broken_at, is_broken, is_reported, is_end_told}
use Rattle.tk_trail.specs.declared.entry.Entry.{Entry}
use Rattle.tk_trail.specs.declared.entry.Entry.TheVariants.{Raised, Took, Sent}

-- the values of some objects
abbrev pub values_over : MonitorSetup → List Entry → List ℕ → List (ℕ × ℤ)
values_over setup trail asked = map (λ o. (o, value_of_object setup trail o)) asked

-- the border over some objects
abbrev pub border_over : MonitorSetup → List Entry → List ℕ → ℤ
border_over setup trail asked = border (levels_of setup trail) (members_at trail) asked

-- the members and the broken outsiders
abbrev pub resolution_at : MonitorSetup → List Entry → List ℕ
resolution_at setup trail = resolution setup.objects (members_at trail) (broken_at setup trail)

-- the Report: the broken outsiders, with values and border over the members and them
unfoldable pub report_at : MonitorSetup → List Entry → Frame
report_at setup trail =
    let asked = resolution_at setup trail in
    f.Report (seq_of trail) (border_over setup trail asked) (broken_at setup trail) (values_over setup trail asked)

-- the Settled: the places, and whether they are the ends of all parts
unfoldable pub settled_at : MonitorSetup → List Entry → Frame
settled_at setup trail = f.Settled (seq_of trail) (at_ends setup trail) (places_at setup trail)

-- the Values: values and border over the asked objects
unfoldable pub values_at : MonitorSetup → List Entry → ℕ → List ℕ → Frame
values_at setup trail round asked =
    f.Values round (seq_of trail) (border_over setup trail asked) (values_over setup trail asked)

-- the answer to an Assign just taken
abbrev pub answer_at : MonitorSetup → List Entry → Frame
answer_at setup trail = if is_broken setup trail then report_at setup trail else settled_at setup trail

-- the answer to a frame just taken, if it wants one
abbrev pub answer_to : MonitorSetup → List Entry → Frame → Option Frame
answer_to setup trail (f.Assign seq members changes) = Some (answer_at setup trail)
answer_to setup trail (f.Collect round asked) = Some (values_at setup trail round asked)
answer_to setup trail frame = None

-- the answer that a last entry leaves owed, if it does
abbrev pub owed_after : MonitorSetup → List Entry → Option Entry → Option Frame
owed_after setup trail None = None
owed_after setup trail (Some (Raised feeder)) = None
owed_after setup trail (Some (Took frame)) = answer_to setup trail frame
owed_after setup trail (Some (Sent frame)) = None

-- the answer that is owed, if one is
unfoldable pub owed_at : MonitorSetup → List Entry → Option Frame
owed_at setup trail = owed_after setup trail (fold (λ _ e. Some e) None trail)

-- an Assign was taken, and no Report was sent since
abbrev pub may_report : List Entry → Bool
may_report trail = nat_lt 0 (seq_of trail) && not (is_reported trail)

-- a Report is due: it may be sent, and something is broken
unfoldable pub report_is_due : MonitorSetup → List Entry → Bool
report_is_due setup trail = may_report trail && is_broken setup trail

-- the end is due: nothing is broken, all parts are at their ends, and this was not told since the Assign
unfoldable pub end_is_due : MonitorSetup → List Entry → Bool
end_is_due setup trail =
    may_report trail && not (is_broken setup trail) && at_ends setup trail && not (is_end_told trail)

-- the frame that a check sends, if it sends one
unfoldable pub due_at : MonitorSetup → List Entry → Option Frame
due_at setup trail =
    if report_is_due setup trail then Some (report_at setup trail)
    else (if end_is_due setup trail then Some (settled_at setup trail) else None)
