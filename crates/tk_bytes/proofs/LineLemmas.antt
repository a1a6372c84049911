-- What a piece that goes over the connection of a monitor leaves.
use Rattle.std.proofs.Common.{◌≡◌, ◌≤◌, ◌<◌, ℕ, ◌-◌, min, ◌++◌, List, [], ◌∷◌, length, take, set, Bool, true, false, Option, Some, None, refl, ap, ap₂, sym, ◌∙◌, append_assoc, arith, subst, inl, inr, length-append, ◌&&◌, not}
use Rattle.std.specs.Prelude.{IfSome, if◌then◌else◌, slice_get}
use Rattle.std.specs.Borrow.{Bor}
use Rattle.std.proofs.lemmas.Bool.{lt-ltb}
use Rattle.std.proofs.lemmas.List.{append-nil, get_or-set_other, take_all, take-take}
use Rattle.tk_base.specs.History.{IsFront}
use Rattle.tk_base.specs.Settings.{Setup}
use Rattle.tk_base.specs.declared.ids.Mon.{Mon}
use Rattle.tk_coord.specs.Coordinator.{CoordinatorView}
use Rattle.tk_frames.specs.declared.answer.BadFrame.{BadFrame}
use Rattle.tk_frames.specs.declared.frame.Frame.{Frame}
use Rattle.tk_frames.specs.declared.frame.Frame.TheVariants as f
use Rattle.tk_journal.specs.Laws.{IsMonitor}
use Rattle.tk_journal.specs.Links.{frames_from, frames_to}
use Rattle.tk_journal.specs.Readings.{is_stopped}
use Rattle.tk_journal.specs.Refusal.{known_by, refusal_of, refusal_of_kind, shown_by}
use Rattle.tk_journal.specs.declared.noted.Noted.{Noted}
use Rattle.tk_journal.specs.declared.refusal.CoordRefusal.{CoordRefusal}
use Rattle.tk_journal.specs.declared.refusal.CoordRefusal.TheVariants.{AfterStop}
use Rattle.tk_monitor.specs.Monitored.{MonitorView}
use Rattle.tk_trail.specs.Readings.{sent_by}
use Rattle.tk_wire.specs.Meanings.{Counts}
use Rattle.tk_wire.specs.Parse.{IsEncoding, spellings}
use Rattle.tk_wire.specs.Pipe.{Queue, without}
use Rattle.tk_wire.specs.PipeWire.{filled, left_in}
use Rattle.tk_wire.specs.SureWire.{SureView, bearing_sure, counts_sure, most_sure}
use Rattle.tk_end.specs.Link.{LinkView, Moves, Says, over}
use Rattle.tk_port.specs.Port.{IsOnCourse, IsPort, PortView, said_in}
use Rattle.tk_port.specs.declared.course.Course.TheVariants as c
use Rattle.tk_hub.specs.Desk.{getting}
use Rattle.tk_end.specs.Piping.{Drains, Fills}
use Rattle.tk_hub.specs.End.{SeatFills, TellsWire}
use Rattle.tk_hub.specs.Hub.{EachOpen, HubView, IsHub, IsOnCourse as IsOnHubCourse, TakesFrom, TurnsOne, seats_of}
use Rattle.tk_hub.specs.Seats.{IsSeat, IsSeated, admits, heard_at, is_used, link_at, link_of}
use Rattle.tk_hub.specs.Slot.{TakesFrame}
use Rattle.tk_hub.specs.Turn.{IsAllTaken, IsBadAt, IsRefusedAt, course_of, is_open}
use Rattle.tk_hub.specs.declared.course.Course.TheVariants as cs
use Rattle.tk_hub.specs.declared.course.HubTurn.{HubTurn}
use Rattle.tk_hub.specs.declared.course.HubTurn.TheVariants as t
use Rattle.tk_hub.proofs.DeskLemmas.{heard_after, said_after}
use Rattle.tk_hub.proofs.SeatsLemmas.{seat_of}
use Rattle.tk_bytes.specs.Line.{ComesUp, IsLine, IsSaid, KeepsOthers, left_between, left_up}
use Rattle.tk_bytes.specs.Way.{AreJoined, IsSure, IsWay, under_way}
use Rattle.tk_bytes.specs.declared.line.Line.{Line}
use Rattle.tk_bytes.proofs.JoinLemmas.{all_came, joined_drained, joined_filled, joined_said, joined_took, none_of, way_drained, way_filled, way_took}
use Rattle.tk_bytes.proofs.WayLemmas.{ComesNext, frame_is_not_bad, last_is_next, next_said, read_is_next, whole_is_no_part}

-- ---- the seat of a monitor that was admitted

pub seated : (mon : ℕ) (hub : HubView SureView) (y : LinkView SureView) → IsMonitor hub.coordinator.settings mon → IsHub hub → link_at hub.links (mon - 1) ≡ Some y → IsSeated hub.run hub.coordinator.journal mon y
seated mon hub y is h at = subst (IsSeat hub.run hub.coordinator.journal mon) at (seat_of mon (seats_of hub) is h.seats)

pub open_link : (hub : HubView SureView) (place : ℕ) (y : LinkView SureView) → IsHub hub → hub.course ≡ cs.Open → link_at hub.links place ≡ Some y → y.shut ≡ false
open_link hub place y h going at =
    let each : EachOpen hub.links = subst (IsOnHubCourse hub.coordinator hub.links hub.held) going h.course in
    subst (λ (o : Option (LinkView SureView)). IfSome o (λ link. link.shut ≡ false)) at (each place)

pub open_port : (port : PortView SureView) → IsPort port → port.course ≡ c.Open → port.link.shut ≡ false
open_port port p open_ = subst (IsOnCourse port.link port.monitor) open_ p.course

-- the monitor of a line is admitted
pub admitted : (mon : ℕ) (hub : HubView SureView) (line : Line) → IsLine mon hub line → admits hub.links mon ≡ true
admitted mon hub line l =
    let used : is_used (link_of hub.links mon) ≡ true = ap is_used l.at ∙ ap not (open_link hub (mon - 1) l.link l.hub_is l.going l.at) in
    ap₂ (λ (a b : Bool). a && b) (lt-ltb 0 mon l.monitor.from_one) used

-- ---- a piece that went to the hub's wire

pub record IsFilled (mon m : ℕ) (hub : HubView SureView) (y : LinkView SureView) (before now : Queue) : Type 0 where
  pub link : LinkView SureView
  pub at : link_at hub.links (mon - 1) ≡ Some link
  pub value : m ≡ min 65536 (min (length before.bytes) (left_in y.traffic))
  pub wire : link ≡ over bearing_sure (filled (take m before.bytes) y.traffic) y
  pub pipe : now ≡ without m before

filled_by : (mon m : ℕ) (hub : HubView SureView) (y : LinkView SureView) (old new : Option (LinkView SureView)) (before now : Queue) → old ≡ Some y → new ≡ link_at hub.links (mon - 1) → y.shut ≡ false → SeatFills most_sure bearing_sure m old new before now → IsFilled mon m hub y before now
filled_by mon m hub y None new before now was is open_ fills = absurd (cc)
filled_by mon m hub y (Some x) None before now was is open_ fills = absurd fills
filled_by mon m hub y (Some x) (Some z) before now was is open_ fills =
    let same : x ≡ y = cc in
    let of : Fills most_sure bearing_sure m y z before now = subst (λ (k : LinkView SureView). Fills most_sure bearing_sure m k z before now) same fills in
    record { link = z; at = sym is; value = of.value open_; wire = of.wire; pipe = of.pipe }

-- the line once a piece went from its port's wire into the pipe, and one from the pipe to the hub's wire
pub record GoesUp (mon : ℕ) (old new : HubView SureView) (before : Line) (port : PortView SureView) (pipe : Queue) : Type 0 where
  pub line : IsLine mon new (record { port = port; up = pipe; down = before.down })
  pub same : new.coordinator ≡ old.coordinator
  pub sent : port.monitor ≡ before.port.monitor
  pub rest : KeepsOthers mon old new
  pub way : (y : LinkView SureView) → link_at old.links (mon - 1) ≡ Some y → under_way port.link line.link pipe.bytes ≡ under_way before.port.link y before.up.bytes
  pub all_came : IsSaid (sent_by before.port.monitor.trail) before.port.link → line.link.traffic.waiting ≡ [] → under_way port.link line.link pipe.bytes ≡ []

pub goes_up : (mon n m : ℕ) (old new : HubView SureView) (before : Line) (port : PortView SureView) (between pipe : Queue) → IsLine mon old before
    → IsPort port → Drains most_sure bearing_sure n before.port.link port.link before.up between → port ≡ record before.port { link = port.link }
    → IsHub new → SeatFills most_sure bearing_sure m (link_at old.links (mon - 1)) (link_at new.links (mon - 1)) between pipe
    → new ≡ record old { links = set old.links (mon - 1) (link_at new.links (mon - 1)) } → GoesUp mon old new before port pipe
goes_up mon n m old new before port between pipe l port_is drains port_rest hub_is fills rest =
    let x = before.port.link in
    let y = l.link in
    let f = filled_by mon m new y (link_at old.links (mon - 1)) (link_at new.links (mon - 1)) between pipe l.at refl (open_link old (mon - 1) y l.hub_is l.going l.at) fills in
    let link_is = drains.wire in
    let same : new.coordinator ≡ old.coordinator = ap (λ (h : HubView SureView). h.coordinator) rest in
    let count = drains.value (open_port before.port l.port_is l.open_port) in
    let middle = joined_drained bearing_sure n x port.link y before.up between before.down l.joined link_is drains.pipe in
    record {
      line = record {
        monitor = subst (λ (k : CoordinatorView). IsMonitor k.settings mon) (sym same) l.monitor;
        hub_is = hub_is;
        going = ap (λ (h : HubView SureView). h.course) rest ∙ l.going;
        port_is = port_is;
        open_port = ap (λ (p : PortView SureView). p.course) port_rest ∙ l.open_port;
        number = ap (λ (p : PortView SureView). p.monitor.setup.number) port_rest ∙ l.number;
        run = ap (λ (p : PortView SureView). p.run) port_rest ∙ l.run ∙ sym (ap (λ (h : HubView SureView). h.run) rest);
        link = f.link;
        at = f.at;
        joined = joined_filled bearing_sure m port.link y f.link between pipe before.down middle f.wire f.pipe;
      };
      same = same;
      sent = ap (λ (p : PortView SureView). p.monitor) port_rest;
      rest = record {
        run = ap (λ (h : HubView SureView). h.run) rest;
        others = λ place apart. ap (λ (h : HubView SureView). link_at h.links place) rest ∙ get_or-set_other old.links (mon - 1) place (link_at new.links (mon - 1)) None apart;
      };
      way = λ z at.
          let e : y ≡ z = (let s : Some y ≡ Some z = sym l.at ∙ at in cc) in
          way_filled bearing_sure m port.link y f.link between pipe f.wire f.pipe
          ∙ way_drained bearing_sure n x port.link y before.up between link_is drains.pipe
          ∙ ap (λ (k : LinkView SureView). under_way x k before.up.bytes) e;
      all_came = λ said none.
          all_came bearing_sure n m 65536 x port.link y f.link before.up between pipe (omega arith) l.joined.room_here l.joined.room_there l.joined.room_up said.given
          count link_is drains.pipe f.value f.wire f.pipe none;
    }

-- ---- what the hub takes of it

pub none_given : (went given output : List ℕ) → (went ++ given) ++ output ≡ went ++ output → given ≡ []
none_given went given output same =
    let l = ap (λ (xs : List ℕ). length xs) same in
    let a = length-append (went ++ given) output in
    let b = length-append went given in
    let c = length-append went output in
    none_of given (omega (arith, l, a, b, c))

pub front_taken : (w : ℕ) (xs ys : List Frame) → IsFront xs ys → w ≤ length xs → take w ys ≡ take w xs
front_taken w xs ys front low = sym (ap (take w) front.is ∙ take-take w (length xs) ys low)

same_front : (c d : CoordinatorView) (mon : ℕ) → d ≡ c → IsFront (frames_to mon c.journal) (frames_to mon d.journal)
same_front c d mon same = subst (λ (k : CoordinatorView). IsFront (frames_to mon c.journal) (frames_to mon k.journal)) (sym same) (record { is = sym (take_all (length (frames_to mon c.journal)) (frames_to mon c.journal) (omega arith)) })

getting_front : (c d : CoordinatorView) (mon : ℕ) (g : Frame) → d ≡ getting c mon g → IsFront (frames_to mon c.journal) (frames_to mon d.journal)
getting_front c d mon g same = subst (λ (k : CoordinatorView). IsFront (frames_to mon c.journal) (frames_to mon k.journal)) (sym same) (said_after c.journal _ mon)

pub sure_of : (mon : ℕ) (hub : HubView SureView) (y : LinkView SureView) (o : Option (LinkView SureView)) (result : Option (Bor SureView)) → o ≡ Some y → TellsWire (λ (w : SureView). w.traffic) counts_sure true o result → IsSure y.counts
sure_of mon hub y None result at tells = absurd (cc)
sure_of mon hub y (Some z) None at tells = absurd tells
sure_of mon hub y (Some z) (Some wire) at tells =
    let same : z ≡ y = cc in
    let e : counts_sure wire.now ≡ y.counts = tells.counts_are ∙ ap (λ (k : LinkView SureView). k.counts) same in
    record { faults = sym (ap (λ (k : Counts). k.faults) e); ends = sym (ap (λ (k : Counts). k.ends) e) }

-- the links of both ends once the hub took what waits, whatever that led to
pub record IsTaken (mon : ℕ) (hub : HubView SureView) (line : Line) (link : LinkView SureView) (new : HubView SureView) : Type 0 where
  pub now : LinkView SureView
  pub at : link_at new.links (mon - 1) ≡ Some now
  pub came : List ℕ
  pub moves : Moves came [] link.traffic now.traffic
  pub joined : AreJoined line.port.link now line.up line.down

pub taken_by_hub : (mon : ℕ) (turn : HubTurn) (hub new : HubView SureView) (line : Line) (l : IsLine mon hub line) (result : Option (Bor SureView)) → TurnsOne mon turn hub new → IsHub new
    → new.coordinator.settings ≡ hub.coordinator.settings → IsFront (frames_to mon hub.coordinator.journal) (frames_to mon new.coordinator.journal)
    → TellsWire (λ (w : SureView). w.traffic) counts_sure true (link_at new.links (mon - 1)) result → IsTaken mon hub line l.link new
taken_by_hub mon turn hub new line l result turns h settings front tells =
    let y = l.link in
    let z = turns.now in
    let same : turns.before ≡ y = (let s : Some turns.before ≡ Some y = sym turns.was ∙ l.at in cc) in
    let passes : TakesFrom y z = subst (λ (k : LinkView SureView). TakesFrom k z) same turns.passes in
    let p = passes.passes in
    let m : Moves p.came p.given y.traffic z.traffic = p.moved l.joined.tells_there in
    let one = seated mon hub y l.monitor l.hub_is l.at in
    let two = seated mon new z (subst (λ (s : Setup). IsMonitor s mon) (sym settings) l.monitor) h turns.is in
    let before : IsEncoding y.version (take y.written (frames_to mon hub.coordinator.journal)) y.traffic.went y.output = one.ends.went l.joined.tells_there in
    let after : IsEncoding z.version (take z.written (frames_to mon new.coordinator.journal)) z.traffic.went z.output = two.ends.went (p.tells ∙ l.joined.tells_there) in
    let said : take z.written (frames_to mon new.coordinator.journal) ≡ take y.written (frames_to mon hub.coordinator.journal) =
    ap (λ k. take k (frames_to mon new.coordinator.journal)) passes.written ∙ front_taken y.written (frames_to mon hub.coordinator.journal) (frames_to mon new.coordinator.journal) front one.written in
    let bytes : (y.traffic.went ++ p.given) ++ y.output ≡ y.traffic.went ++ y.output =
    ap₂ (λ (a b : List ℕ). a ++ b) (sym m.went_on) (sym passes.output) ∙ after.parts ∙ ap₂ (λ (k : ℕ) (fs : List Frame). spellings k fs) p.version said ∙ sym before.parts in
    let none = none_given y.traffic.went p.given y.output bytes in
    let moves : Moves p.came [] y.traffic z.traffic = subst (λ (g : List ℕ). Moves p.came g y.traffic z.traffic) none m in
    record {
      now = z;
      at = turns.is;
      came = p.came;
      moves = moves;
      joined = joined_took line.port.link y z line.up line.down p.came l.joined p.version p.tells moves (sure_of mon new z (link_at new.links (mon - 1)) result turns.is tells);
    }

-- the line once the hub took what waits and goes on
pub taken_line : (mon : ℕ) (turn : HubTurn) (hub new : HubView SureView) (line : Line) (l : IsLine mon hub line) → TurnsOne mon turn hub new → IsHub new → course_of turn ≡ cs.Open
    → new.coordinator.settings ≡ hub.coordinator.settings → IsTaken mon hub line l.link new → IsLine mon new line
taken_line mon turn hub new line l turns h open_ settings taken = record {
  monitor = subst (λ (s : Setup). IsMonitor s mon) (sym settings) l.monitor;
  hub_is = h;
  going = turns.course ∙ open_;
  port_is = l.port_is;
  open_port = l.open_port;
  number = l.number;
  run = l.run ∙ sym turns.run;
  link = taken.now;
  at = taken.at;
  joined = taken.joined;
}

pub others_kept : (mon : ℕ) (turn : HubTurn) (old hub new : HubView SureView) → KeepsOthers mon old hub → TurnsOne mon turn hub new → course_of turn ≡ cs.Open → KeepsOthers mon old new
others_kept mon turn old hub new rest turns open_ = record {
  run = turns.run ∙ rest.run;
  others = λ place apart. turns.others (ap is_open open_) place apart ∙ rest.others place apart;
}

-- ---- what the hub hears is what the port said

way_up : (mon : ℕ) (hub : HubView SureView) (port : PortView SureView) (y : LinkView SureView) (up down : Queue) → IsMonitor hub.coordinator.settings mon → IsHub hub → IsPort port → link_at hub.links (mon - 1) ≡ Some y → AreJoined port.link y up down
    → IsWay (said_in port) (heard_at hub.run hub.coordinator.journal mon y) port.link y up.bytes
way_up mon hub port y up down m h p at j = record {
  version = j.version;
  gave = p.ends.went j.tells_here;
  came = (seated mon hub y m h at).ends.came j.tells_there;
  joins = j.goes_up;
}

-- the next frame of the monitor comes next behind Hello and those that were heard
next_in : (mon : ℕ) (hub : HubView SureView) (port : PortView SureView) (y : LinkView SureView) (frame : Frame) → port.link.written ≡ length (sent_by port.monitor.trail) → slice_get (sent_by port.monitor.trail) (length (frames_from mon hub.coordinator.journal)) ≡ Some frame
    → slice_get (said_in port) (length (heard_at hub.run hub.coordinator.journal mon y)) ≡ Some frame
next_in mon hub port y frame written next =
    let sent = sent_by port.monitor.trail in
    ap (λ (fs : List Frame). slice_get fs (length (frames_from mon hub.coordinator.journal))) (take_all port.link.written sent (omega (arith, written))) ∙ next

-- the bytes that the hub has not read, and those on the way, begin with the next frame
pub up_next : (mon : ℕ) (hub : HubView SureView) (port : PortView SureView) (y : LinkView SureView) (up down : Queue) (frame : Frame) → IsMonitor hub.coordinator.settings mon → IsHub hub → IsPort port → link_at hub.links (mon - 1) ≡ Some y → AreJoined port.link y up down
    → port.link.written ≡ length (sent_by port.monitor.trail) → slice_get (sent_by port.monitor.trail) (length (frames_from mon hub.coordinator.journal)) ≡ Some frame → ComesNext port.link.version frame (y.unread ++ under_way port.link y up.bytes)
up_next mon hub port y up down frame m h p at j written next =
    next_said (said_in port) (heard_at hub.run hub.coordinator.journal mon y) port.link y up.bytes frame (way_up mon hub port y up down m h p at j) (next_in mon hub port y frame written next)

-- the frame that the coordinator took is the next of the monitor
pub up_taken_is_next : (mon : ℕ) (before hub : HubView SureView) (port : PortView SureView) (y : LinkView SureView) (up down : Queue) (g frame : Frame) → IsMonitor before.coordinator.settings mon → IsMonitor hub.coordinator.settings mon → IsHub hub → IsPort port → link_at hub.links (mon - 1) ≡ Some y → AreJoined port.link y up down
    → hub.run ≡ before.run → port.link.written ≡ length (sent_by port.monitor.trail) → refusal_of before.coordinator.settings before.coordinator.journal mon g ≡ None → hub.coordinator ≡ getting before.coordinator mon g
    → slice_get (sent_by port.monitor.trail) (length (frames_from mon before.coordinator.journal)) ≡ Some frame → g ≡ frame
up_taken_is_next mon before hub port y up down g frame was m h p at j run written accepted taken next =
    let heard : List Frame = f.Hello hub.run y.version (record { 0 = mon }) ∷ frames_from mon before.coordinator.journal in
    let now : frames_from mon hub.coordinator.journal ≡ frames_from mon before.coordinator.journal ++ g ∷ [] =
    ap (λ (k : CoordinatorView). frames_from mon k.journal) taken ∙ heard_after before.coordinator.settings before.coordinator.journal mon g (let a = was.from_one in omega (arith, a)) was.within accepted in
    let way : IsWay (said_in port) (heard ++ g ∷ []) port.link y up.bytes =
    subst (λ (fs : List Frame). IsWay (said_in port) (f.Hello hub.run y.version (record { 0 = mon }) ∷ fs) port.link y up.bytes) now (way_up mon hub port y up down m h p at j) in
    last_is_next (said_in port) heard g frame port.link y up.bytes way (next_in mon before port y frame written next)

-- ---- a frame that is not refused finds the coordinator going on

pub not_after_stop : (s : Setup) (j : List Noted) (mon : ℕ) (frame : Frame) → refusal_of s j mon frame ≡ None → is_stopped j ≡ true → ⊥
unfolding refusal_of
not_after_stop s j mon frame none stopped =
    let e : (if true then Some AfterStop else refusal_of_kind (shown_by mon j) (known_by s mon j) frame) ≡ None = ap (λ b. if b then Some AfterStop else refusal_of_kind (shown_by mon j) (known_by s mon j) frame) (sym stopped) ∙ none in
    absurd (cc)

-- ---- the answers of a step up

abbrev pub line_of : PortView SureView → Queue → Line → Line
line_of port pipe before = record { port = port; up = pipe; down = before.down }

-- what a turn leaves of the coordinator's settings and of what it sent
pub record Grows (mon : ℕ) (old new : CoordinatorView) : Type 0 where
  pub settings : new.settings ≡ old.settings
  pub front : IsFront (frames_to mon old.journal) (frames_to mon new.journal)

pub grows_none : (mon : ℕ) (old new : CoordinatorView) → new ≡ old → Grows mon old new
grows_none mon old new same = record { settings = ap (λ (k : CoordinatorView). k.settings) same; front = same_front old new mon same }

pub grows_one : (mon : ℕ) (old new : CoordinatorView) → TakesFrame mon old new → Grows mon old new
grows_one mon old new takes = record { settings = ap (λ (k : CoordinatorView). k.settings) takes.taken; front = getting_front old new mon takes.frame takes.taken }

pub record StepsUp (mon : ℕ) (old new : HubView SureView) (line : Line) : Type 0 where
  pub line_is : IsLine mon new line
  pub others : KeepsOthers mon old new

pub steps_up : (mon : ℕ) (turn : HubTurn) (old hub new : HubView SureView) (before : Line) (port : PortView SureView) (pipe : Queue) (result : Option (Bor SureView)) → GoesUp mon old hub before port pipe → course_of turn ≡ cs.Open
    → TurnsOne mon turn hub new → IsHub new → Grows mon hub.coordinator new.coordinator → TellsWire (λ (w : SureView). w.traffic) counts_sure true (link_at new.links (mon - 1)) result → StepsUp mon old new (line_of port pipe before)
steps_up mon turn old hub new before port pipe result goes open_ turns h grows tells = record {
  line_is = taken_line mon turn hub new (line_of port pipe before) goes.line turns h open_ grows.settings (taken_by_hub mon turn hub new (line_of port pipe before) goes.line result turns h grows.settings grows.front tells);
  others = others_kept mon turn old hub new goes.rest turns open_;
}

-- all is written still, and the frame that comes next is the same
still_written : (mon : ℕ) (old hub : HubView SureView) (before : Line) (port : PortView SureView) (pipe : Queue) → GoesUp mon old hub before port pipe → port.link.written ≡ before.port.link.written → IsSaid (sent_by before.port.monitor.trail) before.port.link → port.link.written ≡ length (sent_by port.monitor.trail)
still_written mon old hub before port pipe goes same said = same ∙ said.written ∙ ap (λ (m : MonitorView). length (sent_by m.trail)) (sym goes.sent)

still_next : (mon : ℕ) (old hub : HubView SureView) (before : Line) (port : PortView SureView) (pipe : Queue) (frame : Frame) → GoesUp mon old hub before port pipe → ComesUp mon old.coordinator before.port.monitor frame → ComesUp mon hub.coordinator port.monitor frame
still_next mon old hub before port pipe frame goes comes =
    subst (λ (k : CoordinatorView). ComesUp mon k port.monitor frame) (sym goes.same) (subst (λ (m : MonitorView). ComesUp mon old.coordinator m frame) (sym goes.sent) comes)

pub more_up : (mon : ℕ) (old hub new : HubView SureView) (before : Line) (port : PortView SureView) (pipe : Queue) (result : Option (Bor SureView)) (frame : Frame) → GoesUp mon old hub before port pipe → port.link.written ≡ before.port.link.written
    → IsSaid (sent_by before.port.monitor.trail) before.port.link → TurnsOne mon t.More hub new → IsHub new → TellsWire (λ (w : SureView). w.traffic) counts_sure true (link_at new.links (mon - 1)) result
    → ComesUp mon old.coordinator before.port.monitor frame → new.coordinator ≡ getting old.coordinator mon frame
more_up mon old hub new before port pipe result frame goes same said turns h tells comes =
    let line = line_of port pipe before in
    let takes : TakesFrame mon hub.coordinator new.coordinator = turns.takes in
    let grows = grows_one mon hub.coordinator new.coordinator takes in
    let taken = taken_by_hub mon t.More hub new line goes.line result turns h grows.settings grows.front tells in
    let next = still_next mon old hub before port pipe frame goes comes in
    let is : takes.frame ≡ frame = up_taken_is_next mon hub new port taken.now pipe before.down takes.frame frame goes.line.monitor (subst (λ (s : Setup). IsMonitor s mon) (sym grows.settings) goes.line.monitor) h goes.line.port_is taken.at taken.joined
    turns.run (still_written mon old hub before port pipe goes same said) takes.accepted takes.taken next.next in
    takes.taken ∙ ap₂ (λ (k : CoordinatorView) (g : Frame). getting k mon g) goes.same is

-- where the coordinator took none, the bytes that it has not read and those on the way begin with the next frame
none_up : (mon : ℕ) (turn : HubTurn) (old hub new : HubView SureView) (before : Line) (port : PortView SureView) (pipe : Queue) (frame : Frame) (y : LinkView SureView) → GoesUp mon old hub before port pipe → port.link.written ≡ before.port.link.written
    → IsSaid (sent_by before.port.monitor.trail) before.port.link → IsHub new → new.coordinator ≡ hub.coordinator → link_at new.links (mon - 1) ≡ Some y → AreJoined port.link y pipe before.down
    → ComesUp mon old.coordinator before.port.monitor frame → ComesNext y.version frame (y.unread ++ under_way port.link y pipe.bytes)
none_up mon turn old hub new before port pipe frame y goes same said h kept at joined comes =
    let next = still_next mon old hub before port pipe frame goes comes in
    subst (λ v. ComesNext v frame (y.unread ++ under_way port.link y pipe.bytes)) (sym joined.version)
    (up_next mon new port y pipe before.down frame (subst (λ (k : CoordinatorView). IsMonitor k.settings mon) (sym kept) goes.line.monitor) h goes.line.port_is at joined
    (still_written mon old hub before port pipe goes same said) (subst (λ (k : CoordinatorView). slice_get (sent_by port.monitor.trail) (length (frames_from mon k.journal)) ≡ Some frame) (sym kept) next.next))

pub some_length : (xs : List ℕ) → (xs ≡ [] → ⊥) → 0 < length xs
some_length [] some = absurd (some refl)
some_length (x ∷ xs) some = omega arith

pub quiet_up : (mon : ℕ) (old hub new : HubView SureView) (before : Line) (port : PortView SureView) (pipe : Queue) (result : Option (Bor SureView)) (frame : Frame) → IsLine mon old before → GoesUp mon old hub before port pipe → port.link.written ≡ before.port.link.written
    → IsSaid (sent_by before.port.monitor.trail) before.port.link → TurnsOne mon t.Quiet hub new → IsHub new → TellsWire (λ (w : SureView). w.traffic) counts_sure true (link_at new.links (mon - 1)) result
    → ComesUp mon old.coordinator before.port.monitor frame → (new.coordinator ≡ old.coordinator) × (left_up mon new (line_of port pipe before) < left_up mon old before)
quiet_up mon old hub new before port pipe result frame l goes same said turns h tells comes =
    let line = line_of port pipe before in
    let grows = grows_none mon hub.coordinator new.coordinator turns.takes in
    let taken = taken_by_hub mon t.Quiet hub new line goes.line result turns h grows.settings grows.front tells in
    let y = goes.line.link in
    let z = taken.now in
    let here : z ≡ turns.now = (let s : Some z ≡ Some turns.now = sym taken.at ∙ turns.is in cc) in
    let part : IsAllTaken z = subst (λ (k : LinkView SureView). IsAllTaken k) (sym here) turns.ends.0 in
    let empties : z.tells ≡ true → z.traffic.waiting ≡ [] = elim turns.ends.1 [
      | inl is ↦ subst (λ (k : LinkView SureView). k.tells ≡ true → k.traffic.waiting ≡ []) (sym here) is
      | inr (stop, ended) ↦ absurd (not_after_stop new.coordinator.settings new.coordinator.journal mon frame (subst (λ (k : CoordinatorView). refusal_of k.settings k.journal mon frame ≡ None) (sym (turns.takes ∙ goes.same)) comes.accepted) stop.stopped)
    ] in
    let none : z.traffic.waiting ≡ [] = empties taken.joined.tells_there in
    let next = none_up mon t.Quiet old hub new before port pipe frame z goes same said h turns.takes taken.at taken.joined comes in
    let was : under_way port.link y pipe.bytes ≡ under_way before.port.link l.link before.up.bytes = goes.way l.link l.at in
    let split : under_way port.link y pipe.bytes ≡ taken.came ++ under_way port.link z pipe.bytes = way_took port.link y z pipe.bytes taken.came taken.moves in
    let size = ap (λ (xs : List ℕ). length xs) (sym was ∙ split) in
    let parts = length-append taken.came (under_way port.link z pipe.bytes) in
    let stuck : taken.came ≡ [] → ⊥ = λ nothing.
    let waits : y.traffic.waiting ≡ [] = taken.moves.waiting ∙ ap₂ (λ (a b : List ℕ). a ++ b) nothing none in
    let empty : under_way port.link z pipe.bytes ≡ [] = ap (λ (xs : List ℕ). xs ++ under_way port.link z pipe.bytes) (sym nothing) ∙ sym split ∙ goes.all_came said waits in
    whole_is_no_part z.version frame z.unread (subst (λ (xs : List ℕ). ComesNext z.version frame xs) (ap (λ (xs : List ℕ). z.unread ++ xs) empty ∙ append-nil z.unread) next) part in
    let old_left : left_up mon old before ≡ length (under_way before.port.link l.link before.up.bytes) = ap (λ (o : Option (LinkView SureView)). left_between before.port.link o before.up.bytes) l.at in
    let new_left : left_up mon new line ≡ length (under_way port.link z pipe.bytes) = ap (λ (o : Option (LinkView SureView)). left_between port.link o pipe.bytes) taken.at in (
      turns.takes ∙ goes.same,
      omega (arith, size, parts, old_left, new_left, some_length taken.came stuck),
    )

-- no frame that comes next is refused, and no other bytes stand in its place
pub refused_up : (mon : ℕ) (of_ : Mon) (why : CoordRefusal) (old hub new : HubView SureView) (before : Line) (port : PortView SureView) (pipe : Queue) (result : Option (Bor SureView)) (frame : Frame) → GoesUp mon old hub before port pipe → port.link.written ≡ before.port.link.written
    → IsSaid (sent_by before.port.monitor.trail) before.port.link → TurnsOne mon (t.Refused of_ why) hub new → IsHub new → TellsWire (λ (w : SureView). w.traffic) counts_sure true (link_at new.links (mon - 1)) result
    → ComesUp mon old.coordinator before.port.monitor frame → ⊥
refused_up mon of_ why old hub new before port pipe result frame goes same said turns h tells comes =
    let line = line_of port pipe before in
    let grows = grows_none mon hub.coordinator new.coordinator turns.takes in
    let taken = taken_by_hub mon (t.Refused of_ why) hub new line goes.line result turns h grows.settings grows.front tells in
    let z = taken.now in
    let here : z ≡ turns.now = (let s : Some z ≡ Some turns.now = sym taken.at ∙ turns.is in cc) in
    let refused : IsRefusedAt mon new.coordinator why z = subst (λ (k : LinkView SureView). IsRefusedAt mon new.coordinator why k) (sym here) turns.ends.1 in
    let next = none_up mon (t.Refused of_ why) old hub new before port pipe frame z goes same said h turns.takes taken.at taken.joined comes in
    let is = read_is_next z.version frame refused.frame z.unread (under_way port.link z pipe.bytes) refused.rest next refused.leaves in
    let none : refusal_of new.coordinator.settings new.coordinator.journal mon frame ≡ None = subst (λ (k : CoordinatorView). refusal_of k.settings k.journal mon frame ≡ None) (sym (turns.takes ∙ goes.same)) comes.accepted in
    let some : refusal_of new.coordinator.settings new.coordinator.journal mon frame ≡ Some why = ap (refusal_of new.coordinator.settings new.coordinator.journal mon) (sym is) ∙ refused.refused in
    (let e : None ≡ Some why = sym none ∙ some in absurd (cc))

pub bad_up : (mon : ℕ) (of_ : Mon) (fault : BadFrame) (old hub new : HubView SureView) (before : Line) (port : PortView SureView) (pipe : Queue) (result : Option (Bor SureView)) (frame : Frame) → GoesUp mon old hub before port pipe → port.link.written ≡ before.port.link.written
    → IsSaid (sent_by before.port.monitor.trail) before.port.link → TurnsOne mon (t.Bad of_ fault) hub new → IsHub new → TellsWire (λ (w : SureView). w.traffic) counts_sure true (link_at new.links (mon - 1)) result
    → ComesUp mon old.coordinator before.port.monitor frame → ⊥
bad_up mon of_ fault old hub new before port pipe result frame goes same said turns h tells comes =
    let line = line_of port pipe before in
    let grows = grows_none mon hub.coordinator new.coordinator turns.takes in
    let taken = taken_by_hub mon (t.Bad of_ fault) hub new line goes.line result turns h grows.settings grows.front tells in
    let z = taken.now in
    let here : z ≡ turns.now = (let s : Some z ≡ Some turns.now = sym taken.at ∙ turns.is in cc) in
    let bad : IsBadAt fault z = subst (λ (k : LinkView SureView). IsBadAt fault k) (sym here) turns.ends.1 in
    let next = none_up mon (t.Bad of_ fault) old hub new before port pipe frame z goes same said h turns.takes taken.at taken.joined comes in
    frame_is_not_bad z.version frame z.unread (under_way port.link z pipe.bytes) fault next bad.0

-- a turn over a wire of which no call failed does not fail
pub failed_up : (mon : ℕ) (hub new : HubView SureView) (result : Option (Bor SureView)) → TurnsOne mon t.Failed hub new → TellsWire (λ (w : SureView). w.traffic) counts_sure true (link_at new.links (mon - 1)) result → ⊥
failed_up mon hub new result turns tells =
    let sure = sure_of mon new turns.now (link_at new.links (mon - 1)) result turns.is tells in
    elim turns.counts [
      | inl faults ↦ let none = sure.faults in absurd (omega (arith, faults, none))
      | inr (ends, early) ↦ let none = sure.ends in absurd (omega (arith, ends, none))
    ]

-- ---- what the port says

pub said_line : (mon : ℕ) (hub : HubView SureView) (line : Line) (port : PortView SureView) → IsLine mon hub line → Says (sent_by line.port.monitor.trail) line.port.link port.link → IsSure port.link.counts → port ≡ record line.port { link = port.link } → IsPort port
    → IsLine mon hub (record { port = port; up = line.up; down = line.down })
said_line mon hub line port l says sure rest kept = record {
  monitor = l.monitor;
  hub_is = l.hub_is;
  going = l.going;
  port_is = kept;
  open_port = ap (λ (p : PortView SureView). p.course) rest ∙ l.open_port;
  number = ap (λ (p : PortView SureView). p.monitor.setup.number) rest ∙ l.number;
  run = ap (λ (p : PortView SureView). p.run) rest ∙ l.run;
  link = l.link;
  at = l.at;
  joined = joined_said (sent_by line.port.monitor.trail) line.port.link port.link l.link line.up line.down l.joined says sure;
}

pub no_frames : (xs : List Frame) → length xs ≤ 0 → xs ≡ []
no_frames [] short = refl
no_frames (x ∷ xs) short = absurd (omega (arith, short))

-- where all was written before, what is given changes nothing of what is left
pub left_said : (mon : ℕ) (hub : HubView SureView) (line : Line) (port : PortView SureView) → IsLine mon hub line → Says (sent_by line.port.monitor.trail) line.port.link port.link → line.port.link.written ≡ length (sent_by line.port.monitor.trail) → port.link.written ≡ length (sent_by line.port.monitor.trail)
    → left_up mon hub (record { port = port; up = line.up; down = line.down }) ≡ left_up mon hub line
left_said mon hub line port l says before after =
    let x = line.port.link in
    let x' = port.link in
    let y = l.link in
    let said = sent_by line.port.monitor.trail in
    let all : (w : ℕ) → w ≡ length said → take w said ≡ said = λ w is. take_all w said (omega (arith, is)) in
    let sizes = ap (λ (fs : List Frame). length fs) (sym (all x'.written after) ∙ says.reached ∙ ap (λ (fs : List Frame). fs ++ says.frames) (all x.written before)) in
    let parts = length-append said says.frames in
    let none : says.frames ≡ [] = no_frames says.frames (omega (arith, sizes, parts)) in
    let output : x.output ≡ says.given ++ x'.output = sym (append-nil x.output) ∙ ap (λ (fs : List Frame). x.output ++ spellings x.version fs) (sym none) ∙ says.output in
    let d = says.departed l.joined.tells_here in
    let held : x'.traffic.held ++ x'.output ≡ x.traffic.held ++ x.output = ap (λ (hs : List ℕ). hs ++ x'.output) d.held ∙ append_assoc x.traffic.held says.given x'.output ∙ ap (λ (os : List ℕ). x.traffic.held ++ os) (sym output) in
    ap (λ (o : Option (LinkView SureView)). left_between x' o line.up.bytes) l.at
    ∙ ap (λ (hs : List ℕ). length (y.traffic.waiting ++ (line.up.bytes ++ hs))) held
    ∙ sym (ap (λ (o : Option (LinkView SureView)). left_between x o line.up.bytes) l.at)

pub others_join : (mon : ℕ) (old hub new : HubView SureView) → KeepsOthers mon old hub → KeepsOthers mon hub new → KeepsOthers mon old new
others_join mon old hub new one two = record { run = two.run ∙ one.run; others = λ place apart. two.others place apart ∙ one.others place apart }

pub others_same : (mon : ℕ) (hub : HubView SureView) → KeepsOthers mon hub hub
others_same mon hub = record { run = refl; others = λ place apart. refl }

pub comes_still : (mon : ℕ) (c d : CoordinatorView) (m k : MonitorView) (frame : Frame) → d ≡ c → k ≡ m → ComesUp mon c m frame → ComesUp mon d k frame
comes_still mon c d m k frame same also comes = subst (λ (z : CoordinatorView). ComesUp mon z k frame) (sym same) (subst (λ (z : MonitorView). ComesUp mon c z frame) (sym also) comes)
