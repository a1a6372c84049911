-- What a worker was made of, before it begins, in a thread of its own and once it has ended. No public clause cites it.
use Rattle.std.specs.Prelude.{ℕ}
use Rattle.tk_monitor.specs.Monitored.{MonitorView}
use Rattle.tk_live.specs.Crew.{made_in}
use Rattle.tk_live.specs.declared.crew.Slot.{Slot}
use Rattle.tk_live.specs.declared.crew.Slot.TheVariants as s
use Rattle.tk_live.specs.declared.worked.Berth.{Berth}
use Rattle.tk_live.specs.declared.worked.Worked.{Worked}

-- the monitor of a port as it was made, and the version of its frames
abbrev pub berth_made : {W Q B : Type 0} {g : _} → Berth W Q B g → MonitorView × ℕ
berth_made berth = made_in berth.port.monitor berth.version

-- the same of a worker that has ended
abbrev pub worked_made : {W Q : Type 0} {g : _} {h : _} → Worked W Q g h → MonitorView × ℕ
worked_made worked = made_in worked.served.end.monitor worked.version

-- the same of a worker in a thread of its own, or ended here
abbrev pub slot_made : {W Q : Type 0} {g : _} {h : _} → Slot W Q g h → MonitorView × ℕ
slot_made (s.There handle) = made_in handle.promise.made.value handle.promise.version
slot_made (s.Here worked) = worked_made worked
