-- The monitors that are made for an input. No public clause cites it.
use Rattle.std.specs.Prelude.{ℕ, List, map}
use Rattle.tk_journal.specs.Readings.{monitors}
use Rattle.tk_load.specs.declared.input.Input.{Input}
use Rattle.tk_monitor.specs.Monitored.{MonitorView}
use Rattle.tk_story.specs.Ends.{made_for}
use Rattle.tk_live.specs.Crew.{made_in}
use Rattle.tk_live.specs.declared.plan.Plan.{Plan}

-- a monitor of an input at its places, whose frames are in this version
abbrev pub made_of : Input → List (List ℕ) → ℕ → ℕ → MonitorView × ℕ
made_of input from version mon = made_in (made_for input.settings input.logs from mon) version

-- all of them, ascending
abbrev pub all_made : Input → List (List ℕ) → ℕ → List (MonitorView × ℕ)
all_made input from version = map (made_of input from version) (monitors input.settings)

-- the monitor of a plan that has this number
abbrev pub planned : Plan → ℕ → MonitorView × ℕ
planned plan mon = made_of plan.input plan.from plan.version mon

-- all of them, ascending
abbrev pub all_planned : Plan → List (MonitorView × ℕ)
all_planned plan = all_made plan.input plan.from plan.version
