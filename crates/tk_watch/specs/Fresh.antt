-- The windows of streams that gave nothing yet.
use Rattle.std.specs.Prelude.{◌≡◌, ℕ, pos, List, [], Option, Some, None}
use Rattle.tk_recent.specs.Kept.{Kept}
use Rattle.tk_trail.specs.Readings.{value_of_object}
use Rattle.tk_watch.specs.Watch.{WatchView}
use Rattle.tk_watch.specs.Windows.{fresh_windows}
use Rattle.tk_watch.specs.declared.plan.Window.{Window}

-- those of so many streams over so many objects, where a window is asked for
abbrev pub windows_for : Option Window → ℕ → ℕ → List Kept
windows_for None streams objects = []
windows_for (Some window) streams objects = fresh_windows streams objects window.width

-- a watch that has counted nothing: each value is zero
abbrev pub IsUncounted : {W : Type 0} → WatchView W → Type 0
IsUncounted w = (o : ℕ) → value_of_object w.monitor.setup w.monitor.trail o ≡ pos 0
