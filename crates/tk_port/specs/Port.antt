-- A port, as contracts see it, and what its type keeps.
use Rattle.std.specs.Prelude.{◌≡◌, ◌≤◌, ℕ, List, ◌∷◌, length, take, true, false, Option, Some, None, IfSome, is_some, ⊤}
use Rattle.tk_frames.specs.declared.frame.Frame.{Frame}
use Rattle.tk_frames.specs.declared.frame.Frame.TheVariants as f
use Rattle.tk_frames.specs.declared.answer.Next.TheVariants as n
use Rattle.tk_frames.specs.Answer.{Answers}
use Rattle.tk_frames.specs.Spelling.{IsVersion}
use Rattle.tk_monitor.specs.Monitored.{MonitorView}
use Rattle.tk_trail.specs.Legal.{IsLegal}
use Rattle.tk_trail.specs.Readings.{is_stopped, sent_by, taken_by}
use Rattle.tk_trail.specs.Setup.{IsSetup}
use Rattle.tk_end.specs.Hearing.{IsRefused}
use Rattle.tk_end.specs.Inbox.{IsOdd}
use Rattle.tk_frames.specs.declared.answer.BadFrame.{BadFrame}
use Rattle.tk_story.specs.declared.ends.received.Received.{Received}
use Rattle.tk_story.specs.declared.ends.received.Received.TheVariants as r
use Rattle.std.specs.Option.{option_map}
use Rattle.tk_end.specs.Link.{IsEnd, IsShut, LinkView, Passes}
use Rattle.tk_port.specs.Turn.{CountsTurned, Ends, IsAtRest, Reaches, goes_on, pieces_of}
use Rattle.tk_trail.specs.Refusal.{refusal_of}
use Rattle.tk_monitor.specs.Stepped.{taking}
use Rattle.tk_port.specs.Side.{refuses}
use Rattle.tk_port.specs.declared.course.Course.{Course}
use Rattle.tk_port.specs.declared.course.Course.TheVariants as c
use Rattle.tk_port.specs.declared.turn.Turn.{Turn}
use Rattle.tk_port.specs.declared.turn.Turn.TheVariants as t

-- the number of its run, its monitor, its end of the connection, and whether that goes on
pub record PortView (W : Type 0) : Type 0 where
  pub run : ℕ
  pub monitor : MonitorView
  pub link : LinkView W
  pub course : Course

-- the Hello with which it begins
abbrev pub hello_of : {W : Type 0} → PortView W → Frame
hello_of port = f.Hello port.run port.link.version (record { 0 = port.monitor.setup.number })

-- the frames that it has said: the Hello, and those of its monitor's that are written
abbrev pub said_in : {W : Type 0} → PortView W → List Frame
said_in port = hello_of port ∷ take port.link.written (sent_by port.monitor.trail)

-- an open port's wire is not shut; on any other course it is, and what stands next is what that course says
abbrev pub IsOnCourse : {W : Type 0} → LinkView W → MonitorView → Course → Type 0
IsOnCourse link monitor c.Open = link.shut ≡ false
IsOnCourse link monitor c.Halted = link.shut ≡ true
IsOnCourse link monitor c.Failed = link.shut ≡ true
IsOnCourse link monitor (c.Refused why) = (link.shut ≡ true) × IsRefused refuses 0 link.version link.unread link.front (record { monitor = monitor }) why
IsOnCourse link monitor (c.Bad fault) = (link.shut ≡ true) × Answers link.version link.unread (n.Bad fault) × (link.front ≡ None)

-- the monitor's trail is legal, what it took is a front of the parse of what came, and what went is a front of the bytes
-- of Hello and the frames that it sent
pub record IsPort {W : Type 0} (port : PortView W) : Type 0 where
  pub version : IsVersion port.link.version
  pub setup : IsSetup port.monitor.setup
  pub legal : IsLegal port.monitor.setup port.monitor.trail
  pub written : port.link.written ≤ length (sent_by port.monitor.trail)
  pub ends : IsEnd port.link (taken_by port.monitor.trail) (said_in port)
  pub course : IsOnCourse port.link port.monitor port.course

-- what a port that goes on no more answers
abbrev pub answer_of : Course → Option Turn
answer_of c.Open = None
answer_of c.Halted = None
answer_of c.Failed = Some t.Failed
answer_of (c.Refused why) = Some (t.Refused why)
answer_of (c.Bad fault) = Some (t.Bad fault)

-- the course after a turn of an open port
abbrev pub course_of : Turn → Course
course_of t.Quiet = c.Open
course_of t.More = c.Open
course_of t.Stopped = c.Open
course_of t.Failed = c.Failed
course_of (t.Refused why) = c.Refused why
course_of (t.Bad fault) = c.Bad fault
course_of t.NoMemory = c.Open

-- whether a course has its wire shut
abbrev pub Shuts : {W : Type 0} → Course → LinkView W → LinkView W → Type 0
Shuts c.Open old new = new ≡ old
Shuts c.Halted old new = IsShut old new
Shuts c.Failed old new = IsShut old new
Shuts (c.Refused why) old new = IsShut old new
Shuts (c.Bad fault) old new = IsShut old new

-- the course once a port is halted
abbrev pub halted_of : Course → Course
halted_of c.Open = c.Halted
halted_of c.Halted = c.Halted
halted_of c.Failed = c.Failed
halted_of (c.Refused why) = c.Refused why
halted_of (c.Bad fault) = c.Bad fault

-- a turn of an open port. Bytes passed, for More at least 64 of them; the monitor got on by frames taken and checks; the
-- turn ended as it says, and where it goes on nothing is due and all that was sent is said
pub record Turns {W : Type 0} (turn : Turn) (old new : PortView W) : Type 0 where
  pub run : new.run ≡ old.run
  pub course : new.course ≡ course_of turn
  pub passes : Passes (pieces_of turn) old.link new.link
  pub reaches : Reaches old.monitor new.monitor
  pub ends : Ends new.link (record { monitor = new.monitor }) turn
  pub counts : CountsTurned turn old.link.counts new.link.counts
  pub rest : goes_on turn ≡ true → IsAtRest new.link new.monitor

-- one frame was taken, and Stopped says that it was Stop: the monitor takes no more
pub record TakesFrame (old new : MonitorView) : Type 0 where
  pub frame : Frame
  pub accepted : refusal_of old.setup old.trail frame ≡ None
  pub taken : new ≡ taking old frame

-- what a turn of one frame did to the monitor: where it ends so it took one frame, and else none
abbrev pub TakesUpTo : Turn → MonitorView → MonitorView → Type 0
TakesUpTo t.More old new = TakesFrame old new × (is_stopped new.trail ≡ false)
TakesUpTo t.Stopped old new = TakesFrame old new × (is_stopped new.trail ≡ true)
TakesUpTo t.Quiet old new = new ≡ old
TakesUpTo t.Failed old new = new ≡ old
TakesUpTo (t.Refused why) old new = new ≡ old
TakesUpTo (t.Bad fault) old new = new ≡ old
TakesUpTo t.NoMemory old new = new ≡ old

-- why a turn of one frame ended, where it took none
abbrev pub EndsOne : {W : Type 0} → LinkView W → MonitorView → Turn → Type 0
EndsOne link monitor t.More = ⊤
EndsOne link monitor t.Stopped = ⊤
EndsOne link monitor t.Quiet = Ends link (record { monitor = monitor }) t.Quiet
EndsOne link monitor t.Failed = ⊤
EndsOne link monitor (t.Refused why) = Ends link (record { monitor = monitor }) (t.Refused why)
EndsOne link monitor (t.Bad fault) = Ends link (record { monitor = monitor }) (t.Bad fault)
EndsOne link monitor t.NoMemory = ⊤

-- a turn of one frame of an open port: nothing is written or given
pub record TurnsOne {W : Type 0} (turn : Turn) (old new : PortView W) : Type 0 where
  pub run : new.run ≡ old.run
  pub course : new.course ≡ course_of turn
  pub passes : Passes 0 old.link new.link
  pub takes : TakesUpTo turn old.monitor new.monitor
  pub written : new.link.written ≡ old.link.written
  pub output : new.link.output ≡ old.link.output
  pub ends : EndsOne new.link new.monitor turn
  pub counts : CountsTurned turn old.link.counts new.link.counts

-- on a course of bad bytes these stand at the front
abbrev pub IsStanding : {W : Type 0} → LinkView W → Course → Type 0
IsStanding link (c.Bad fault) = Answers link.version link.unread (n.Bad fault) × (link.front ≡ None)
IsStanding link c.Open = ⊤
IsStanding link c.Halted = ⊤
IsStanding link c.Failed = ⊤
IsStanding link (c.Refused why) = ⊤

-- the bytes that are no frame
abbrev pub IsOddBytes : ℕ → BadFrame → List ℕ → Received → Type 0
IsOddBytes version fault unread (r.Frame frame) = ⊥
IsOddBytes version fault unread (r.Bytes bytes) = IsOdd version fault unread bytes

-- what is left on a course: the refused frame, or the bytes that are none
abbrev pub LeavesOdd : {W : Type 0} → Course → LinkView W → Option Received → Type 0
LeavesOdd c.Open link odd = odd ≡ None
LeavesOdd c.Halted link odd = odd ≡ None
LeavesOdd c.Failed link odd = odd ≡ None
LeavesOdd (c.Refused why) link odd = odd ≡ option_map r.Frame link.front
LeavesOdd (c.Bad fault) link odd = IfSome odd (IsOddBytes link.version fault link.unread) × (is_some odd ≡ true)

-- what a port was given next and did not take: the refused frame, or the bytes that are none
abbrev pub IsLeft : {W : Type 0} → PortView W → Option Received → Type 0
IsLeft port odd = LeavesOdd port.course port.link odd
