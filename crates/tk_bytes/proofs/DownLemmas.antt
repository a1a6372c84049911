-- What a piece that goes down the connection of a monitor leaves.
use Rattle.std.proofs.Common.{◌≡◌, ◌<◌, ℕ, ◌-◌, min, ◌++◌, List, [], ◌∷◌, length, take, set, Bool, true, false, Option, Some, None, refl, ap, ap₂, sym, ◌∙◌, append_assoc, arith, subst, length-append}
use Rattle.std.specs.Prelude.{if◌then◌else◌, slice_get}
use Rattle.std.specs.Borrow.{Bor}
use Rattle.std.proofs.lemmas.List.{append-nil, get_or-set_other, take_all}
use Rattle.tk_base.specs.History.{IsFront}
use Rattle.tk_coord.specs.Coordinator.{CoordinatorView}
use Rattle.tk_frames.specs.declared.answer.BadFrame.{BadFrame}
use Rattle.tk_frames.specs.declared.frame.Frame.{Frame}
use Rattle.tk_frames.specs.declared.frame.Frame.TheVariants as f
use Rattle.tk_journal.specs.Laws.{IsMonitor}
use Rattle.tk_journal.specs.Links.{frames_to}
use Rattle.tk_monitor.specs.Monitored.{MonitorView}
use Rattle.tk_trail.specs.Readings.{sent_by, taken_by}
use Rattle.tk_wire.specs.Meanings.{Counts}
use Rattle.tk_wire.specs.Parse.{IsEncoding, spellings}
use Rattle.tk_wire.specs.Pipe.{Queue, free, with_more}
use Rattle.tk_wire.specs.PipeWire.{drained}
use Rattle.tk_wire.specs.SureWire.{SureView, bearing_sure, counts_sure, most_sure}
use Rattle.tk_end.specs.Link.{LinkView, Moves, over}
use Rattle.tk_port.specs.Port.{IsPort, PortView, said_in}
use Rattle.tk_port.specs.declared.course.Course.TheVariants as c
use Rattle.tk_end.specs.Piping.{Drains, Fills}
use Rattle.tk_hub.specs.End.{SeatDrains, TellsWire}
use Rattle.tk_hub.specs.Hub.{HubView, IsHub}
use Rattle.tk_hub.specs.Seats.{link_at, said_at}
use Rattle.tk_bytes.specs.Line.{ComesDown, IsLine, IsSaidTo, IsWrittenTo, KeepsOthers, SaysTo, left_behind, left_down}
use Rattle.tk_bytes.specs.Way.{AreJoined, IsSure, IsWay, under_way}
use Rattle.tk_bytes.specs.declared.line.Line.{Line}
use Rattle.tk_bytes.proofs.JoinLemmas.{all_came, joined_drained, joined_filled, joined_said, joined_took, turned, way_drained, way_filled, way_took}
use Rattle.tk_bytes.proofs.WayLemmas.{ComesNext, frame_is_not_bad, last_is_next, next_said, read_is_next, whole_is_no_part}
use Rattle.tk_wire.specs.declared.out_buffer.Pushed.{Pushed}
use Rattle.tk_base.specs.declared.memory.NoMemory.{NoMemory}
use Rattle.std.specs.Prelude.{Result}
use Rattle.tk_port.specs.Port.{TurnsOne as TurnsPort, TakesFrame as TakesDown, hello_of}
use Rattle.tk_port.specs.Port.{course_of as port_course_of}
use Rattle.tk_port.specs.declared.turn.Turn.{Turn}
use Rattle.tk_port.specs.declared.turn.Turn.TheVariants as u
use Rattle.tk_port.proofs.SideLemmas.{sent_after, taken_after}
use Rattle.tk_hub.specs.Slot.{SaysAt, SeatSays}
use Rattle.tk_trail.specs.Refusal.{refusal_of as monitor_refusal_of, refusal_of_kind as monitor_refusal_of_kind, shown_by as trail_shown_by}
use Rattle.tk_trail.specs.Setup.{MonitorSetup}
use Rattle.tk_trail.specs.Readings.{is_stopped as has_stopped}
use Rattle.tk_trail.specs.declared.entry.Entry.{Entry}
use Rattle.tk_trail.specs.declared.refusal.MonitorRefusal.{MonitorRefusal}
use Rattle.tk_trail.specs.declared.refusal.MonitorRefusal.TheVariants.{AfterStop as AfterStopDown}
use Rattle.tk_monitor.specs.Stepped.{taking}
use Rattle.tk_bytes.proofs.LineLemmas.{front_taken, none_given, open_link, open_port, seated, some_length, sure_of, no_frames}

-- ---- a piece that left the hub's wire

pub record IsDrained' (mon n : ℕ) (hub : HubView SureView) (x : LinkView SureView) (before now : Queue) : Type 0 where
  pub link : LinkView SureView
  pub at : link_at hub.links (mon - 1) ≡ Some link
  pub value : n ≡ min 65536 (min (length x.traffic.held) (free before))
  pub wire : link ≡ over bearing_sure (drained n x.traffic) x
  pub pipe : now ≡ with_more (take n x.traffic.held) before

drained_by : (mon n : ℕ) (hub : HubView SureView) (x : LinkView SureView) (old new : Option (LinkView SureView)) (before now : Queue) → old ≡ Some x → new ≡ link_at hub.links (mon - 1) → x.shut ≡ false → SeatDrains most_sure bearing_sure n old new before now → IsDrained' mon n hub x before now
drained_by mon n hub x None new before now was is open_ drains = absurd (cc)
drained_by mon n hub x (Some y) None before now was is open_ drains = absurd drains
drained_by mon n hub x (Some y) (Some z) before now was is open_ drains =
    let same : y ≡ x = cc in
    let of : Drains most_sure bearing_sure n x z before now = subst (λ (k : LinkView SureView). Drains most_sure bearing_sure n k z before now) same drains in
    record { link = z; at = sym is; value = of.value open_; wire = of.wire; pipe = of.pipe }

-- the line once a piece went from the hub's wire into the pipe, and one from the pipe to the port's wire
pub record GoesDown (mon : ℕ) (old new : HubView SureView) (before : Line) (port : PortView SureView) (pipe : Queue) : Type 0 where
  pub line : IsLine mon new (record { port = port; up = before.up; down = pipe })
  pub same : new.coordinator ≡ old.coordinator
  pub sent : port.monitor ≡ before.port.monitor
  pub rest : KeepsOthers mon old new
  pub written : (x : LinkView SureView) → link_at old.links (mon - 1) ≡ Some x → line.link.written ≡ x.written
  pub way : (x : LinkView SureView) → link_at old.links (mon - 1) ≡ Some x → under_way line.link port.link pipe.bytes ≡ under_way x before.port.link before.down.bytes
  pub all_came : IsSaidTo mon old → port.link.traffic.waiting ≡ [] → under_way line.link port.link pipe.bytes ≡ []

pub goes_down : (mon n m : ℕ) (old new : HubView SureView) (before : Line) (port : PortView SureView) (between pipe : Queue) → IsLine mon old before
    → IsHub new → SeatDrains most_sure bearing_sure n (link_at old.links (mon - 1)) (link_at new.links (mon - 1)) before.down between
    → new ≡ record old { links = set old.links (mon - 1) (link_at new.links (mon - 1)) }
    → IsPort port → Fills most_sure bearing_sure m before.port.link port.link between pipe → port ≡ record before.port { link = port.link }
    → GoesDown mon old new before port pipe
goes_down mon n m old new before port between pipe l hub_is drains rest port_is fills port_rest =
    let y = before.port.link in
    let x = l.link in
    let f = drained_by mon n new x (link_at old.links (mon - 1)) (link_at new.links (mon - 1)) before.down between l.at refl (open_link old (mon - 1) x l.hub_is l.going l.at) drains in
    let link_is = fills.wire in
    let same : new.coordinator ≡ old.coordinator = ap (λ (h : HubView SureView). h.coordinator) rest in
    let count = fills.value (open_port before.port l.port_is l.open_port) in
    let back = turned y x before.up before.down l.joined in
    let middle = joined_drained bearing_sure n x f.link y before.down between before.up back f.wire f.pipe in
    let at_is : (z : LinkView SureView) → link_at old.links (mon - 1) ≡ Some z → x ≡ z = λ z at. (let s : Some x ≡ Some z = sym l.at ∙ at in cc) in
    record {
      line = record {
        monitor = subst (λ (k : CoordinatorView). IsMonitor k.settings mon) (sym same) l.monitor;
        hub_is = hub_is;
        going = ap (λ (h : HubView SureView). h.course) rest ∙ l.going;
        port_is = port_is;
        open_port = ap (λ (p : PortView SureView). p.course) port_rest ∙ l.open_port;
        number = ap (λ (p : PortView SureView). p.monitor.setup.number) port_rest ∙ l.number;
        run = ap (λ (p : PortView SureView). p.run) port_rest ∙ l.run ∙ sym (ap (λ (h : HubView SureView). h.run) rest);
        link = f.link;
        at = f.at;
        joined = turned f.link port.link pipe before.up (joined_filled bearing_sure m f.link y port.link between pipe before.up middle link_is fills.pipe);
      };
      same = same;
      sent = ap (λ (p : PortView SureView). p.monitor) port_rest;
      rest = record {
        run = ap (λ (h : HubView SureView). h.run) rest;
        others = λ place apart. ap (λ (h : HubView SureView). link_at h.links place) rest ∙ get_or-set_other old.links (mon - 1) place (link_at new.links (mon - 1)) None apart;
      };
      written = λ z at. ap (λ (k : LinkView SureView). k.written) f.wire ∙ ap (λ (k : LinkView SureView). k.written) (at_is z at);
      way = λ z at.
          way_filled bearing_sure m f.link y port.link between pipe link_is fills.pipe
          ∙ way_drained bearing_sure n x f.link y before.down between f.wire f.pipe
          ∙ ap (λ (k : LinkView SureView). under_way k y before.down.bytes) (at_is z at);
      all_came = λ said none.
          all_came bearing_sure n m 65536 x f.link y port.link before.down between pipe (omega arith) l.joined.room_there l.joined.room_here l.joined.room_down (said x l.at).given
          f.value f.wire f.pipe count link_is fills.pipe none;
    }

-- ---- what the port takes of it

sure_port : (port : PortView SureView) (wire : SureView) → counts_sure wire ≡ port.link.counts → IsSure port.link.counts
sure_port port wire is = record { faults = sym (ap (λ (k : Counts). k.faults) is); ends = sym (ap (λ (k : Counts). k.ends) is) }

-- what a turn leaves of the monitor's setup and of what it sent
pub record GrowsDown (old new : MonitorView) : Type 0 where
  pub setup : new.setup ≡ old.setup
  pub front : IsFront (sent_by old.trail) (sent_by new.trail)

pub down_none : (old new : MonitorView) → new ≡ old → GrowsDown old new
down_none old new same = subst (λ (m : MonitorView). GrowsDown old m) (sym same) (record { setup = refl; front = record { is = sym (take_all (length (sent_by old.trail)) (sent_by old.trail) (omega arith)) } })

pub down_one : (old new : MonitorView) → TakesDown old new → GrowsDown old new
down_one old new takes = subst (λ (m : MonitorView). GrowsDown old m) (sym takes.taken) (record { setup = refl; front = sent_after old.setup old.trail takes.frame })

pub record IsHeard (x : LinkView SureView) (line : Line) (new : PortView SureView) : Type 0 where
  pub came : List ℕ
  pub moves : Moves came [] line.port.link.traffic new.link.traffic
  pub joined : AreJoined new.link x line.up line.down

pub heard_by_port : (mon : ℕ) (turn : Turn) (hub : HubView SureView) (line : Line) (new : PortView SureView) (wire : SureView) (l : IsLine mon hub line) → TurnsPort turn line.port new → IsPort new → GrowsDown line.port.monitor new.monitor → counts_sure wire ≡ new.link.counts → IsHeard l.link line new
heard_by_port mon turn hub line new wire l turns kept grows counts =
    let y = line.port.link in
    let z = new.link in
    let p = turns.passes in
    let m : Moves p.came p.given y.traffic z.traffic = p.moved l.joined.tells_here in
    let before : IsEncoding y.version (said_in line.port) y.traffic.went y.output = l.port_is.ends.went l.joined.tells_here in
    let after : IsEncoding z.version (said_in new) z.traffic.went z.output = kept.ends.went (p.tells ∙ l.joined.tells_here) in
    let sents : take z.written (sent_by new.monitor.trail) ≡ take y.written (sent_by line.port.monitor.trail) =
    ap (λ k. take k (sent_by new.monitor.trail)) turns.written ∙ front_taken y.written (sent_by line.port.monitor.trail) (sent_by new.monitor.trail) grows.front l.port_is.written in
    let hello : hello_of new ≡ hello_of line.port =
    ap₂ (λ (r v : ℕ). f.Hello r v (record { 0 = new.monitor.setup.number })) turns.run p.version ∙ ap (λ (s : MonitorSetup). f.Hello line.port.run y.version (record { 0 = s.number })) grows.setup in
    let said : said_in new ≡ said_in line.port = ap₂ (λ (h : Frame) (fs : List Frame). h ∷ fs) hello sents in
    let bytes : (y.traffic.went ++ p.given) ++ y.output ≡ y.traffic.went ++ y.output =
    ap₂ (λ (a b : List ℕ). a ++ b) (sym m.went_on) (sym turns.output) ∙ after.parts ∙ ap₂ (λ (k : ℕ) (fs : List Frame). spellings k fs) p.version said ∙ sym before.parts in
    let none = none_given y.traffic.went p.given y.output bytes in
    let moves : Moves p.came [] y.traffic z.traffic = subst (λ (g : List ℕ). Moves p.came g y.traffic z.traffic) none m in
    record {
      came = p.came;
      moves = moves;
      joined = turned l.link z line.down line.up (joined_took l.link y z line.down line.up p.came (turned y l.link line.up line.down l.joined) p.version p.tells moves (sure_port new wire counts));
    }

pub heard_line : (mon : ℕ) (turn : Turn) (hub : HubView SureView) (line : Line) (new : PortView SureView) (l : IsLine mon hub line) → TurnsPort turn line.port new → IsPort new → port_course_of turn ≡ c.Open → GrowsDown line.port.monitor new.monitor → IsHeard l.link line new
    → IsLine mon hub (record { port = new; up = line.up; down = line.down })
heard_line mon turn hub line new l turns kept open_ grows heard = record {
  monitor = l.monitor;
  hub_is = l.hub_is;
  going = l.going;
  port_is = kept;
  open_port = turns.course ∙ open_;
  number = ap (λ (s : MonitorSetup). s.number) grows.setup ∙ l.number;
  run = turns.run ∙ l.run;
  link = l.link;
  at = l.at;
  joined = heard.joined;
}

-- ---- what the hub says

told_by : (mon : ℕ) (c : CoordinatorView) (hub : HubView SureView) (result : Result Pushed NoMemory) (x : LinkView SureView) (old new : Option (LinkView SureView)) → old ≡ Some x → new ≡ link_at hub.links (mon - 1) → SeatSays mon c result old new
    → (y : LinkView SureView) × (link_at hub.links (mon - 1) ≡ Some y) × SaysAt mon c result x y
told_by mon c hub result x None new was is says = absurd (cc)
told_by mon c hub result x (Some y) None was is says = absurd says
told_by mon c hub result x (Some y) (Some z) was is says =
    let same : y ≡ x = cc in
    (z, sym is, subst (λ (k : LinkView SureView). SaysAt mon c result k z) same says)

pub told_line : (mon : ℕ) (hub new : HubView SureView) (line : Line) (result : Result Pushed NoMemory) (wire : Option (Bor SureView)) → IsLine mon hub line → SeatSays mon hub.coordinator result (link_at hub.links (mon - 1)) (link_at new.links (mon - 1))
    → new ≡ record hub { links = set hub.links (mon - 1) (link_at new.links (mon - 1)) } → IsHub new → TellsWire (λ (w : SureView). w.traffic) counts_sure true (link_at new.links (mon - 1)) wire → IsLine mon new line
told_line mon hub new line result wire l says rest kept tells =
    let x = l.link in
    let told = told_by mon hub.coordinator new result x (link_at hub.links (mon - 1)) (link_at new.links (mon - 1)) l.at refl says in
    let z = told.0 in
    let same : new.coordinator ≡ hub.coordinator = ap (λ (h : HubView SureView). h.coordinator) rest in
    record {
      monitor = subst (λ (k : CoordinatorView). IsMonitor k.settings mon) (sym same) l.monitor;
      hub_is = kept;
      going = ap (λ (h : HubView SureView). h.course) rest ∙ l.going;
      port_is = l.port_is;
      open_port = l.open_port;
      number = l.number;
      run = l.run ∙ sym (ap (λ (h : HubView SureView). h.run) rest);
      link = z;
      at = told.1;
      joined = turned z line.port.link line.down line.up
          (joined_said (frames_to mon hub.coordinator.journal) x z line.port.link line.down line.up (turned line.port.link x line.up line.down l.joined) told.2.says (sure_of mon new z (link_at new.links (mon - 1)) wire told.1 tells));
    }

pub told_same : (mon : ℕ) (old new : HubView SureView) → SaysTo mon old new → new.coordinator ≡ old.coordinator
told_same mon old new says = ap (λ (h : HubView SureView). h.coordinator) says.rest

pub told_others : (mon : ℕ) (old new : HubView SureView) → SaysTo mon old new → KeepsOthers mon old new
told_others mon old new says = record {
  run = ap (λ (h : HubView SureView). h.run) says.rest;
  others = λ place apart. ap (λ (h : HubView SureView). link_at h.links place) says.rest ∙ get_or-set_other old.links (mon - 1) place (Some says.now) None apart;
}

-- where all was written before, what is given changes nothing of what is left
pub left_told : (mon : ℕ) (old new : HubView SureView) (line : Line) → IsLine mon old line → SaysTo mon old new → IsWrittenTo mon old → IsWrittenTo mon new → left_down mon new line ≡ left_down mon old line
left_told mon old new line l s before after =
    let x = s.before in
    let x' = s.now in
    let y = line.port.link in
    let says = s.says in
    let said = frames_to mon old.coordinator.journal in
    let all : (w : ℕ) → w ≡ length said → take w said ≡ said = λ w is. take_all w said (omega (arith, is)) in
    let one = before x s.was in
    let two : x'.written ≡ length said = after x' s.is ∙ ap (λ (k : CoordinatorView). length (frames_to mon k.journal)) (told_same mon old new s) in
    let sizes = ap (λ (fs : List Frame). length fs) (sym (all x'.written two) ∙ says.reached ∙ ap (λ (fs : List Frame). fs ++ says.frames) (all x.written one)) in
    let parts = length-append said says.frames in
    let none : says.frames ≡ [] = no_frames says.frames (omega (arith, sizes, parts)) in
    let output : x.output ≡ says.given ++ x'.output = sym (append-nil x.output) ∙ ap (λ (fs : List Frame). x.output ++ spellings x.version fs) (sym none) ∙ says.output in
    let tells : x.tells ≡ true = (let e : x ≡ l.link = (let t : Some x ≡ Some l.link = sym s.was ∙ l.at in cc) in ap (λ (k : LinkView SureView). k.tells) e ∙ l.joined.tells_there) in
    let d = says.departed tells in
    let held : x'.traffic.held ++ x'.output ≡ x.traffic.held ++ x.output = ap (λ (hs : List ℕ). hs ++ x'.output) d.held ∙ append_assoc x.traffic.held says.given x'.output ∙ ap (λ (os : List ℕ). x.traffic.held ++ os) (sym output) in
    ap (λ (o : Option (LinkView SureView)). left_behind o y line.down.bytes) s.is
    ∙ ap (λ (hs : List ℕ). length (y.traffic.waiting ++ (line.down.bytes ++ hs))) held
    ∙ sym (ap (λ (o : Option (LinkView SureView)). left_behind o y line.down.bytes) s.was)

-- ---- what the port hears is what the hub said

way_to : (mon : ℕ) (hub : HubView SureView) (x : LinkView SureView) (port : PortView SureView) (up down : Queue) → IsMonitor hub.coordinator.settings mon → IsHub hub → IsPort port → link_at hub.links (mon - 1) ≡ Some x → AreJoined port.link x up down
    → IsWay (said_at hub.coordinator.journal mon x) (taken_by port.monitor.trail) x port.link down.bytes
way_to mon hub x port up down m h p at j = record {
  version = sym j.version;
  gave = (seated mon hub x m h at).ends.went j.tells_there;
  came = p.ends.came j.tells_here;
  joins = j.goes_down;
}

next_to : (mon : ℕ) (hub : HubView SureView) (x : LinkView SureView) (count : ℕ) (frame : Frame) → x.written ≡ length (frames_to mon hub.coordinator.journal) → slice_get (frames_to mon hub.coordinator.journal) count ≡ Some frame → slice_get (said_at hub.coordinator.journal mon x) count ≡ Some frame
next_to mon hub x count frame written next = ap (λ (fs : List Frame). slice_get fs count) (take_all x.written (frames_to mon hub.coordinator.journal) (omega (arith, written))) ∙ next

-- ---- a frame that is not refused finds the monitor going on

by_stop : (b : Bool) (o : Option MonitorRefusal) → (if b then Some AfterStopDown else o) ≡ None → b ≡ false
by_stop true o none = absurd (cc)
by_stop false o none = refl

pub going_on : (setup : MonitorSetup) (trail : List Entry) (frame : Frame) → monitor_refusal_of setup trail frame ≡ None → has_stopped trail ≡ false
unfolding monitor_refusal_of
going_on setup trail frame none = by_stop (has_stopped trail) (monitor_refusal_of_kind (trail_shown_by setup trail) frame) none

-- ---- the answers of a step down

abbrev pub line_to : PortView SureView → Queue → Line → Line
line_to port pipe before = record { port = port; up = before.up; down = pipe }

pub comes_down : (mon : ℕ) (c d : CoordinatorView) (m k : MonitorView) (frame : Frame) → d ≡ c → k ≡ m → ComesDown mon c m frame → ComesDown mon d k frame
comes_down mon c d m k frame same also comes = subst (λ (z : CoordinatorView). ComesDown mon z k frame) (sym same) (subst (λ (z : MonitorView). ComesDown mon c z frame) (sym also) comes)

pub written_still : (mon : ℕ) (old hub : HubView SureView) (before : Line) (port : PortView SureView) (pipe : Queue) → IsLine mon old before → GoesDown mon old hub before port pipe → IsSaidTo mon old → IsWrittenTo mon hub
written_still mon old hub before port pipe l goes said = λ link at.
    let e : link ≡ goes.line.link = (let t : Some link ≡ Some goes.line.link = sym at ∙ goes.line.at in cc) in
    ap (λ (k : LinkView SureView). k.written) e ∙ goes.written l.link l.at ∙ (said l.link l.at).written ∙ ap (λ (k : CoordinatorView). length (frames_to mon k.journal)) (sym goes.same)

pub taken_down : (mon : ℕ) (turn : Turn) (old hub : HubView SureView) (before : Line) (port new : PortView SureView) (pipe : Queue) (wire : SureView) (frame : Frame) → IsLine mon old before → GoesDown mon old hub before port pipe → IsSaidTo mon old
    → TurnsPort turn port new → IsPort new → port_course_of turn ≡ c.Open → TakesDown port.monitor new.monitor → counts_sure wire ≡ new.link.counts → ComesDown mon old.coordinator before.port.monitor frame → new.monitor ≡ taking before.port.monitor frame
taken_down mon turn old hub before port new pipe wire frame l goes said turns kept open_ takes counts comes =
    let line = line_to port pipe before in
    let grows = down_one port.monitor new.monitor takes in
    let heard = heard_by_port mon turn hub line new wire goes.line turns kept grows counts in
    let next = comes_down mon old.coordinator hub.coordinator before.port.monitor port.monitor frame goes.same goes.sent comes in
    let written = written_still mon old hub before port pipe l goes said goes.line.link goes.line.at in
    let now : taken_by new.monitor.trail ≡ taken_by port.monitor.trail ++ takes.frame ∷ [] = ap (λ (m : MonitorView). taken_by m.trail) takes.taken ∙ taken_after port.monitor.setup port.monitor.trail takes.frame in
    let way : IsWay (said_at hub.coordinator.journal mon goes.line.link) (taken_by port.monitor.trail ++ takes.frame ∷ []) goes.line.link new.link pipe.bytes =
    subst (λ (fs : List Frame). IsWay (said_at hub.coordinator.journal mon goes.line.link) fs goes.line.link new.link pipe.bytes) now (way_to mon hub goes.line.link new before.up pipe goes.line.monitor goes.line.hub_is kept goes.line.at heard.joined) in
    let is : takes.frame ≡ frame = last_is_next (said_at hub.coordinator.journal mon goes.line.link) (taken_by port.monitor.trail) takes.frame frame goes.line.link new.link pipe.bytes way (next_to mon hub goes.line.link (length (taken_by port.monitor.trail)) frame written next.next) in
    takes.taken ∙ ap₂ (λ (m : MonitorView) (g : Frame). taking m g) goes.sent is

-- where the monitor took none, the bytes that it has not read and those on the way begin with the next frame
none_down : (mon : ℕ) (turn : Turn) (old hub : HubView SureView) (before : Line) (port new : PortView SureView) (pipe : Queue) (frame : Frame) → IsLine mon old before → (goes : GoesDown mon old hub before port pipe) → IsSaidTo mon old
    → IsPort new → new.monitor ≡ port.monitor → IsHeard goes.line.link (line_to port pipe before) new → ComesDown mon old.coordinator before.port.monitor frame → ComesNext new.link.version frame (new.link.unread ++ under_way goes.line.link new.link pipe.bytes)
none_down mon turn old hub before port new pipe frame l goes said kept same heard comes =
    let x = goes.line.link in
    let written = written_still mon old hub before port pipe l goes said x goes.line.at in
    let next = comes_down mon old.coordinator hub.coordinator before.port.monitor new.monitor frame goes.same (same ∙ goes.sent) comes in
    let way = way_to mon hub x new before.up pipe goes.line.monitor goes.line.hub_is kept goes.line.at heard.joined in
    subst (λ v. ComesNext v frame (new.link.unread ++ under_way x new.link pipe.bytes)) heard.joined.version
    (next_said (said_at hub.coordinator.journal mon x) (taken_by new.monitor.trail) x new.link pipe.bytes frame way (next_to mon hub x (length (taken_by new.monitor.trail)) frame written next.next))

pub quiet_down : (mon : ℕ) (old hub : HubView SureView) (before : Line) (port new : PortView SureView) (pipe : Queue) (wire : SureView) (frame : Frame) → IsLine mon old before → GoesDown mon old hub before port pipe → IsSaidTo mon old
    → TurnsPort u.Quiet port new → IsPort new → counts_sure wire ≡ new.link.counts → ComesDown mon old.coordinator before.port.monitor frame → (new.monitor ≡ before.port.monitor) × (left_down mon hub (line_to new pipe before) < left_down mon old before)
quiet_down mon old hub before port new pipe wire frame l goes said turns kept counts comes =
    let line = line_to port pipe before in
    let grows = down_none port.monitor new.monitor turns.takes in
    let heard = heard_by_port mon u.Quiet hub line new wire goes.line turns kept grows counts in
    let x = goes.line.link in
    let y = port.link in
    let z = new.link in
    let none : z.traffic.waiting ≡ [] = turns.ends.1 heard.joined.tells_here in
    let next = none_down mon u.Quiet old hub before port new pipe frame l goes said kept turns.takes heard comes in
    let was : under_way x y pipe.bytes ≡ under_way l.link before.port.link before.down.bytes = goes.way l.link l.at in
    let split : under_way x y pipe.bytes ≡ heard.came ++ under_way x z pipe.bytes = way_took x y z pipe.bytes heard.came heard.moves in
    let size = ap (λ (xs : List ℕ). length xs) (sym was ∙ split) in
    let parts = length-append heard.came (under_way x z pipe.bytes) in
    let stuck : heard.came ≡ [] → ⊥ = λ nothing.
    let waits : y.traffic.waiting ≡ [] = heard.moves.waiting ∙ ap₂ (λ (a b : List ℕ). a ++ b) nothing none in
    let empty : under_way x z pipe.bytes ≡ [] = ap (λ (xs : List ℕ). xs ++ under_way x z pipe.bytes) (sym nothing) ∙ sym split ∙ goes.all_came said waits in
    whole_is_no_part z.version frame z.unread (subst (λ (xs : List ℕ). ComesNext z.version frame xs) (ap (λ (xs : List ℕ). z.unread ++ xs) empty ∙ append-nil z.unread) next) turns.ends.0 in
    let old_left : left_down mon old before ≡ length (under_way l.link before.port.link before.down.bytes) = ap (λ (o : Option (LinkView SureView)). left_behind o before.port.link before.down.bytes) l.at in
    let new_left : left_down mon hub (line_to new pipe before) ≡ length (under_way x z pipe.bytes) = ap (λ (o : Option (LinkView SureView)). left_behind o z pipe.bytes) goes.line.at in (
      turns.takes ∙ goes.sent,
      omega (arith, size, parts, old_left, new_left, some_length heard.came stuck),
    )

pub refused_down : (mon : ℕ) (why : MonitorRefusal) (old hub : HubView SureView) (before : Line) (port new : PortView SureView) (pipe : Queue) (wire : SureView) (frame : Frame) → IsLine mon old before → GoesDown mon old hub before port pipe → IsSaidTo mon old
    → TurnsPort (u.Refused why) port new → IsPort new → counts_sure wire ≡ new.link.counts → ComesDown mon old.coordinator before.port.monitor frame → ⊥
refused_down mon why old hub before port new pipe wire frame l goes said turns kept counts comes =
    let line = line_to port pipe before in
    let grows = down_none port.monitor new.monitor turns.takes in
    let heard = heard_by_port mon (u.Refused why) hub line new wire goes.line turns kept grows counts in
    let next = none_down mon (u.Refused why) old hub before port new pipe frame l goes said kept turns.takes heard comes in
    let z = new.link in
    let refused = turns.ends in
    let is = read_is_next z.version frame refused.frame z.unread (under_way goes.line.link z pipe.bytes) refused.rest next refused.leaves in
    let none : monitor_refusal_of new.monitor.setup new.monitor.trail frame ≡ None = subst (λ (m : MonitorView). monitor_refusal_of m.setup m.trail frame ≡ None) (sym (turns.takes ∙ goes.sent)) comes.accepted in
    let some : monitor_refusal_of new.monitor.setup new.monitor.trail frame ≡ Some why = ap (monitor_refusal_of new.monitor.setup new.monitor.trail) (sym is) ∙ refused.refused in
    (let e : None ≡ Some why = sym none ∙ some in absurd (cc))

pub bad_down : (mon : ℕ) (fault : BadFrame) (old hub : HubView SureView) (before : Line) (port new : PortView SureView) (pipe : Queue) (wire : SureView) (frame : Frame) → IsLine mon old before → GoesDown mon old hub before port pipe → IsSaidTo mon old
    → TurnsPort (u.Bad fault) port new → IsPort new → counts_sure wire ≡ new.link.counts → ComesDown mon old.coordinator before.port.monitor frame → ⊥
bad_down mon fault old hub before port new pipe wire frame l goes said turns kept counts comes =
    let line = line_to port pipe before in
    let grows = down_none port.monitor new.monitor turns.takes in
    let heard = heard_by_port mon (u.Bad fault) hub line new wire goes.line turns kept grows counts in
    let next = none_down mon (u.Bad fault) old hub before port new pipe frame l goes said kept turns.takes heard comes in
    frame_is_not_bad new.link.version frame new.link.unread (under_way goes.line.link new.link pipe.bytes) fault next turns.ends.0

pub steps_down : (mon : ℕ) (turn : Turn) (old hub : HubView SureView) (before : Line) (port new : PortView SureView) (pipe : Queue) (wire : SureView) → GoesDown mon old hub before port pipe → port_course_of turn ≡ c.Open → TurnsPort turn port new → IsPort new → GrowsDown port.monitor new.monitor
    → counts_sure wire ≡ new.link.counts → IsLine mon hub (line_to new pipe before)
steps_down mon turn old hub before port new pipe wire goes open_ turns kept grows counts =
    heard_line mon turn hub (line_to port pipe before) new goes.line turns kept open_ grows (heard_by_port mon turn hub (line_to port pipe before) new wire goes.line turns kept grows counts)
