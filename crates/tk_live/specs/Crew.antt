-- The workers of a live run, and what each of them answers. No public clause cites it.
use Rattle.std.specs.Prelude.{ℕ, List, ⊤}
use Rattle.tk_monitor.specs.Monitored.{MonitorView}
use Rattle.tk_story.specs.Ends.{as_made}
use Rattle.tk_serve.specs.declared.served.Why.{Why}
use Rattle.tk_serve.specs.declared.served.Why.TheVariants as w
use Rattle.std.specs.List.{fold}

-- a monitor as it was made, and the version of its frames
abbrev pub made_in : MonitorView → ℕ → MonitorView × ℕ
made_in monitor version = (as_made monitor, version)

-- the graver of two causes: what was not taken and want of memory stand in their order, before a fault, and all of them
-- before Stop
abbrev pub graver : Why → Why → Why
graver w.Odd next = w.Odd
graver w.NoMemory next = w.NoMemory
graver w.Stopped next = next
graver w.Failed w.Stopped = w.Failed
graver w.Failed w.Failed = w.Failed
graver w.Failed w.Odd = w.Odd
graver w.Failed w.NoMemory = w.NoMemory

-- Stop or a fault: what no worker answers that has something odd
abbrev pub IsCalm : Why → Type 0
IsCalm w.Odd = ⊥
IsCalm w.NoMemory = ⊥
IsCalm w.Stopped = ⊤
IsCalm w.Failed = ⊤

-- the gravest cause of all workers, monitors ascending
abbrev pub gravest : List Why → Why
gravest causes = fold graver w.Stopped causes
