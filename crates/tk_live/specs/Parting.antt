-- Why the caller's loop over its hub ended. No public clause cites it.
use Rattle.std.specs.Prelude.{ℕ, Bool, true, false, if◌then◌else◌, Option, Some, None, Result, Ok, Err}
use Rattle.tk_hub.specs.Turn.{halted_of}
use Rattle.tk_hub.specs.declared.course.Course.{Course}
use Rattle.tk_hub.specs.declared.course.HubTurn.{HubTurn}
use Rattle.tk_hub.specs.declared.course.HubTurn.TheVariants as t
use Rattle.tk_input.specs.Files.{one_more}
use Rattle.tk_serve.specs.declared.served.Why.{Why}
use Rattle.tk_serve.specs.declared.served.Why.TheVariants as w
use Rattle.tk_wire.specs.declared.net.NetFault.{NetFault}
use Rattle.tk_wire.specs.declared.net.NetFault.TheVariants as fault
use Rattle.tk_live.specs.declared.parting.Parting.{Parting}
use Rattle.tk_live.specs.declared.parting.Parting.TheVariants as p

-- after a turn, where the loop does not go on
abbrev pub of_turn : HubTurn → Option Parting
of_turn t.Quiet = None
of_turn t.More = None
of_turn t.Finished = Some p.Finished
of_turn t.Failed = Some p.Failed
of_turn (t.Refused mon why) = Some p.Refused
of_turn (t.Bad mon why) = Some p.Refused
of_turn t.WriteFailed = Some p.WriteFailed
of_turn t.NoMemory = Some p.NoMemory

-- after a fault of the net
abbrev pub of_fault : NetFault → Parting
of_fault fault.Failed = p.NetFailed
of_fault fault.NoMemory = p.NoMemory

-- the cause that it is for the run, beside those of the workers: none where a line was not written
abbrev pub hub_why : Parting → Option Why
hub_why p.Finished = Some w.Stopped
hub_why p.Alarmed = Some w.Failed
hub_why p.Failed = Some w.Failed
hub_why p.Refused = Some w.Odd
hub_why p.WriteFailed = None
hub_why p.NetFailed = Some w.Failed
hub_why p.NoMemory = Some w.NoMemory

-- whether the run is done then
abbrev pub is_done_of : Parting → Bool
is_done_of p.Finished = true
is_done_of p.Alarmed = false
is_done_of p.Failed = false
is_done_of p.Refused = false
is_done_of p.WriteFailed = false
is_done_of p.NetFailed = false
is_done_of p.NoMemory = false

-- whether the hub is halted then: its wires are not shut yet, and the run is not done
abbrev pub halts_of : Parting → Bool
halts_of p.Finished = false
halts_of p.Alarmed = true
halts_of p.Failed = true
halts_of p.Refused = true
halts_of p.WriteFailed = false
halts_of p.NetFailed = true
halts_of p.NoMemory = true

-- the course on which a hub is left
abbrev pub left_on : Parting → Course → Course
left_on parting course = if halts_of parting then halted_of course else course

-- how many puts of the output have failed: one more exactly where a line was not written
abbrev pub faults_of : Parting → ℕ → ℕ
faults_of p.Finished faults = faults
faults_of p.Alarmed faults = faults
faults_of p.Failed faults = faults
faults_of p.Refused faults = faults
faults_of p.WriteFailed faults = one_more faults
faults_of p.NetFailed faults = faults
faults_of p.NoMemory faults = faults

-- the same after a round of the loop, which goes on only where none failed
abbrev pub round_faults : Result Bool Parting → ℕ → ℕ
round_faults (Ok idle) faults = faults
round_faults (Err parting) faults = faults_of parting faults
