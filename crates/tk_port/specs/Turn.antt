-- What a port does in a turn, and what it leaves.
use Rattle.std.specs.Prelude.{◌≡◌, ◌⊎◌, ◌≤◌, ℕ, List, [], ◌++◌, length, take, Bool, true, false, None, ⊤}
use Rattle.tk_frames.specs.declared.frame.Frame.{Frame}
use Rattle.tk_frames.specs.declared.answer.Next.TheVariants as n
use Rattle.tk_frames.specs.Answer.{Answers}
use Rattle.tk_monitor.specs.Monitored.{MonitorView}
use Rattle.tk_trail.specs.Frames.{due_at}
use Rattle.tk_trail.specs.Readings.{is_stopped, sent_by, taken_by}
use Rattle.tk_trail.specs.Refusal.{refusal_of}
use Rattle.tk_trail.specs.declared.refusal.MonitorRefusal.{MonitorRefusal}
use Rattle.tk_wire.specs.Buffered.{IsFull}
use Rattle.tk_wire.specs.Meanings.{Counts, HasRisen}
use Rattle.tk_end.specs.Hearing.{IsRefused}
use Rattle.tk_end.specs.declared.hearing.Heard.{Heard}
use Rattle.tk_end.specs.declared.hearing.Heard.TheVariants as h
use Rattle.tk_end.specs.Link.{IsEnd, LinkView, Passes}
use Rattle.tk_monitor.specs.Stepped.{taking, checking}
use Rattle.tk_port.specs.Side.{refuses}
use Rattle.tk_port.specs.declared.side.Side.{Side}
use Rattle.tk_port.specs.declared.turn.Turn.{Turn}
use Rattle.tk_port.specs.declared.turn.Turn.TheVariants as t

-- from one monitor the other is reached by frames that are taken, each refused by no test, and by checks
pub data Reaches : MonitorView → MonitorView → Type 0 where
  Stays : (from to : MonitorView) → to ≡ from → Reaches from to
  Takes : (from to : MonitorView) (frame : Frame) → refusal_of from.setup from.trail frame ≡ None → Reaches (taking from frame) to → Reaches from to
  Checks : (from to : MonitorView) → Reaches (checking from) to → Reaches from to

-- what a turn answers where its link heard so
abbrev pub turn_heard : Heard MonitorRefusal → Turn
turn_heard h.Quiet = t.Quiet
turn_heard h.More = t.More
turn_heard h.Done = t.Stopped
turn_heard h.Failed = t.Failed
turn_heard h.Ended = t.Failed
turn_heard (h.Refused why) = t.Refused why
turn_heard (h.Bad fault) = t.Bad fault
turn_heard h.NoMemory = t.NoMemory

-- why a turn ended: Quiet says that nothing waits on the wire, and both it and More that no frame is whole
abbrev pub Ends : {W : Type 0} → LinkView W → Side → Turn → Type 0
Ends link side t.Quiet = Answers link.version link.unread n.Part × (link.tells ≡ true → link.traffic.waiting ≡ [])
Ends link side t.More = Answers link.version link.unread n.Part
Ends link side t.Stopped = is_stopped side.monitor.trail ≡ true
Ends link side t.Failed = ⊤
Ends link side (t.Refused why) = IsRefused refuses 0 link.version link.unread link.front side why
Ends link side (t.Bad fault) = Answers link.version link.unread (n.Bad fault) × (link.front ≡ None)
Ends link side t.NoMemory = ⊤

-- the wire neither failed nor ended
pub record IsSteady (old new : Counts) : Type 0 where
  pub faults : new.faults ≡ old.faults
  pub ends : new.ends ≡ old.ends

-- the counts of the wire: Failed says that it failed or ended, and no other answer leaves that behind
abbrev pub CountsTurned : Turn → Counts → Counts → Type 0
CountsTurned t.Failed old new = HasRisen old.faults new.faults ⊎ HasRisen old.ends new.ends
CountsTurned t.Quiet old new = IsSteady old new
CountsTurned t.More old new = IsSteady old new
CountsTurned t.Stopped old new = IsSteady old new
CountsTurned (t.Refused why) old new = IsSteady old new
CountsTurned (t.Bad fault) old new = IsSteady old new
CountsTurned t.NoMemory old new = IsSteady old new

-- all that was sent is written, and given as far as the wire has room
pub record HasSaid {W : Type 0} (link : LinkView W) (monitor : MonitorView) : Type 0 where
  pub written : link.written ≡ length (sent_by monitor.trail)
  pub given : (link.output ≡ []) ⊎ (link.tells ≡ true → IsFull link.traffic)

-- neither a Report nor the end is due, and all that was sent is said
pub record IsAtRest {W : Type 0} (link : LinkView W) (monitor : MonitorView) : Type 0 where
  pub due : due_at monitor.setup monitor.trail ≡ None
  pub said : HasSaid link monitor

-- whether nothing ended the turn but that no frame is whole
abbrev pub goes_on : Turn → Bool
goes_on t.Quiet = true
goes_on t.More = true
goes_on t.Stopped = false
goes_on t.Failed = false
goes_on (t.Refused why) = false
goes_on (t.Bad fault) = false
goes_on t.NoMemory = false

-- how many pieces a turn took at least
abbrev pub pieces_of : Turn → ℕ
pieces_of t.More = 64
pieces_of t.Quiet = 0
pieces_of t.Stopped = 0
pieces_of t.Failed = 0
pieces_of (t.Refused why) = 0
pieces_of (t.Bad fault) = 0
pieces_of t.NoMemory = 0

-- part of a turn: bytes passed, and the monitor got on by frames taken and checks, so that what it took stays what came
-- and what it sent stays what went, behind whatever was said first
pub record Exchanges {W : Type 0} (least : ℕ) (old new : LinkView W) (before now : Side) : Type 0 where
  pub passes : Passes least old new
  pub shut : new.shut ≡ old.shut
  pub reaches : Reaches before.monitor now.monitor
  pub settings : now.monitor.settings ≡ before.monitor.settings
  pub setup : now.monitor.setup ≡ before.monitor.setup
  pub within : old.written ≤ length (sent_by before.monitor.trail) → new.written ≤ length (sent_by now.monitor.trail)
  pub ends : (first : List Frame) → old.written ≤ length (sent_by before.monitor.trail)
      → IsEnd old (taken_by before.monitor.trail) (first ++ take old.written (sent_by before.monitor.trail))
      → IsEnd new (taken_by now.monitor.trail) (first ++ take new.written (sent_by now.monitor.trail))
