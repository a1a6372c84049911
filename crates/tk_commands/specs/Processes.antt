-- The inputs of a coordinator and of a monitor that run as processes of their own: what their words and files give, or the first
-- rule that fails in the order of work.
use Rattle.std.specs.Prelude.{length, Result, Ok}
use Rattle.tk_words.specs.Words.{CoordinateWords, MonitorWords}
use Rattle.tk_load.specs.Faults.{Fault, after}
use Rattle.tk_load.specs.Input.{File, names_in, settings_in}
use Rattle.tk_load.specs.Reads.{FileReads, Reads}
use Rattle.tk_commands.specs.RunMark.{run_mark}
use Rattle.tk_commands.specs.declared.coordinator.CoordinatorInput.{CoordinatorInput}
use Rattle.tk_commands.specs.declared.monitor.MonitorInput.{MonitorInput}
use Rattle.tk_load.specs.declared.status.Status.{Status}

-- ---- a coordinator

-- the input of a coordinator whose file is read, or the first rule that fails: the objects, the settings
abbrev pub coordinator_of : CoordinateWords → File → Result CoordinatorInput Fault
coordinator_of words objects =
    after (names_in objects) (λ names.
    after (settings_in words.k words.epsilon words.own_weight (length names) words.monitors) (λ settings.
    Ok (record { names = names; settings = settings; run = run_mark words.run names })))

-- the file of the words was read, and the answer is their input, or the first rule that fails
abbrev pub LoadsCoordinator : FileReads → CoordinateWords → Result CoordinatorInput Status → Type 0
LoadsCoordinator reads words = Reads reads words.objects (λ input. input) (coordinator_of words)

-- ---- a monitor

-- the input of a monitor whose file is read, or the first rule that fails: the objects, and the settings over so many monitors as its
-- number says
abbrev pub monitor_of : MonitorWords → File → Result MonitorInput Fault
monitor_of words objects =
    after (names_in objects) (λ names.
    after (settings_in 1 0 1 (length names) words.number) (λ settings.
    Ok (record { names = names; settings = settings; run = run_mark words.run names })))

-- the file of the words was read, and the answer is their input, or the first rule that fails
abbrev pub LoadsMonitor : FileReads → MonitorWords → Result MonitorInput Status → Type 0
LoadsMonitor reads words = Reads reads words.objects (λ input. input) (monitor_of words)
