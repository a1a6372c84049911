-- How the Hello of a line is said, and goes over it.
use Rattle.std.proofs.Common.{◌≡◌, ◌≤◌, ◌<◌, ◌⊎◌, ℕ, suc, zero, min, ◌+◌, ◌++◌, List, [], ◌∷◌, length, length-append, take, drop, true, refl, ap, ap₂, sym, ◌∙◌, arith, subst, inl, inr}
use Rattle.std.proofs.lemmas.List.{append-nil, length-drop, length-take}
use Rattle.tk_frames.specs.Encoding.{Appends}
use Rattle.tk_frames.specs.Spelling.{IsSpelling, spelling}
use Rattle.tk_frames.specs.declared.frame.Frame.{Frame}
use Rattle.tk_frames.proofs.SizeLemmas.{length-spelling}
use Rattle.tk_trail.specs.Readings.{sent_by}
use Rattle.tk_trail.specs.declared.entry.Entry.{Entry}
use Rattle.tk_wire.specs.Buffered.{IsFull}
use Rattle.tk_wire.specs.Joint.{Joins}
use Rattle.tk_wire.specs.Meanings.{Traffic}
use Rattle.tk_wire.specs.Parse.{spellings}
use Rattle.tk_wire.specs.Pipe.{Queue, free, without}
use Rattle.tk_wire.specs.PipeWire.{drained, filled, left_in}
use Rattle.tk_wire.specs.SureWire.{SureView, bearing_sure, most_sure}
use Rattle.tk_wire.proofs.JointLemmas.{joins-drained, joins-filled}
use Rattle.tk_end.specs.Link.{LinkView, Says, over}
use Rattle.tk_end.specs.Piping.{Drains}
use Rattle.tk_port.specs.Port.{IsPort, PortView, hello_of}
use Rattle.tk_port.specs.declared.course.Course.TheVariants as c
use Rattle.tk_bytes.specs.Greeting.{HasCarried, IsOpening, IsOver, hello_in, waiting_on}
use Rattle.tk_bytes.specs.Line.{IsSaid}
use Rattle.tk_bytes.specs.Way.{IsSure}
use Rattle.tk_bytes.specs.declared.line.Line.{Line}
use Rattle.tk_bytes.proofs.LineLemmas.{open_port}
use Rattle.tk_bytes.proofs.JoinLemmas.{none_of}

-- ---- it is said

take_none : {X : Type 0} (n : ℕ) (xs : List X) → xs ≡ [] → take n xs ≡ []
take_none zero xs none = refl
take_none (suc n) [] none = refl
take_none (suc n) (x ∷ xs) none = absurd (cc)

-- of nothing nothing is written
none_written : (n m : ℕ) (said frames : List Frame) → said ≡ [] → take n said ≡ take m said ++ frames → frames ≡ []
none_written n m said frames none is = ap (λ (xs : List Frame). xs ++ frames) (sym (take_none m said none)) ∙ sym is ∙ take_none n said none

-- of bytes that have room nothing is left to give
none_left : (given output : List ℕ) (traffic : Traffic) → (output ≡ []) ⊎ IsFull traffic → length (given ++ output) ≡ 18 → traffic.held ≡ given → traffic.room ≡ 4096 → output ≡ []
none_left given output traffic (inl none) size held room = none
none_left given output traffic (inr full) size held room =
    let a = length-append given output in
    let b = ap (λ (xs : List ℕ). length xs) held in
    absurd (omega (arith, a, b, size, full, room))

-- a port that has begun over an unused wire, and has said what it had to say
pub opens : (wire : SureView) (p q : PortView SureView) (up down : Queue) (piece version : ℕ) → wire.traffic ≡ waiting_on 4096 [] → wire.traffic ≡ p.link.traffic → true ≡ p.link.tells → p.run ≡ 1 → p.course ≡ c.Open → p.monitor.trail ≡ []
    → Appends version (hello_of p) [] p.link.output → Says (sent_by p.monitor.trail) p.link q.link → IsSaid (sent_by p.monitor.trail) q.link → IsSure q.link.counts → q ≡ record p { link = q.link } → IsPort q
    → up ≡ record { past = []; bytes = []; room = piece } → down ≡ record { past = []; bytes = []; room = piece } → 0 < piece
    → IsOpening (record { port = q; up = up; down = down }) × (q.link.traffic.held ≡ hello_in q)
opens wire p q up down piece version unused traffic tells run going trail hello says said sure rest kept up_is down_is some =
    let before : p.link.traffic ≡ waiting_on 4096 [] = sym traffic ∙ unused in
    let none : sent_by p.monitor.trail ≡ [] = ap (λ (t : List Entry). sent_by t) trail in
    let frames : says.frames ≡ [] = none_written q.link.written p.link.written (sent_by p.monitor.trail) says.frames none says.reached in
    let bytes : p.link.output ≡ hello_in p = hello.appended ∙ hello.spelled.bytes_are in
    let parts : hello_in p ≡ says.given ++ q.link.output =
    sym bytes ∙ sym (append-nil p.link.output) ∙ ap (λ (fs : List Frame). p.link.output ++ spellings p.link.version fs) (sym frames) ∙ says.output in
    let d = says.departed (sym tells) in
    let held : q.link.traffic.held ≡ says.given = d.held ∙ ap (λ (t : Traffic). t.held ++ says.given) before in
    let room : q.link.traffic.room ≡ 4096 = d.room ∙ ap (λ (t : Traffic). t.room) before in
    let size : length (says.given ++ q.link.output) ≡ 18 = ap (λ (xs : List ℕ). length xs) (sym parts) ∙ length-spelling (hello_of p) in
    let left : q.link.output ≡ [] = none_left says.given q.link.output q.link.traffic said.given size held room in
    let given : says.given ≡ hello_in p = sym (append-nil says.given) ∙ ap (λ (xs : List ℕ). says.given ++ xs) (sym left) ∙ sym parts in
    let same : hello_of q ≡ hello_of p = ap₂ (λ (r : PortView SureView) (v : ℕ). hello_of (record r { link = record p.link { version = v } })) rest says.version in
    let same_bytes : hello_in p ≡ hello_in q = ap (λ (fr : Frame). spelling 1 fr) (sym same) in
    let went : q.link.traffic.went ≡ says.given = d.went ∙ ap (λ (t : Traffic). t.went ++ says.given) before in (
      record {
        port_is = kept;
        open_port = ap (λ (r : PortView SureView). r.course) rest ∙ going;
        run = ap (λ (r : PortView SureView). r.run) rest ∙ run;
        trail = ap (λ (r : PortView SureView). r.monitor.trail) rest ∙ trail;
        tells = says.tells ∙ sym tells;
        sure = sure;
        hello =
            let here : IsSpelling 1 (hello_of p) (hello_in p) = record { frame_is = hello.spelled.frame_is; fits = hello.spelled.fits; bytes_are = refl } in
            subst (λ (fr : Frame). IsSpelling 1 fr (spelling 1 fr)) (sym same) here;
        went = went ∙ given ∙ same_bytes;
        came = d.came ∙ ap (λ (t : Traffic). t.came) before;
        waiting = d.waiting ∙ ap (λ (t : Traffic). t.waiting) before;
        room = omega (arith, room);
        up = ap (λ (x : Queue). x.bytes) up_is;
        down = ap (λ (x : Queue). x.bytes) down_is;
        room_up = (let r = ap (λ (x : Queue). x.room) up_is in omega (arith, r, some));
        room_down = (let r = ap (λ (x : Queue). x.room) down_is in omega (arith, r, some));
      },
      held ∙ given ∙ same_bytes,
    )

-- ---- it goes over the line

pub carried_none : (line : Line) (wire : SureView) → IsOpening line → line.port.link.traffic.held ≡ hello_in line.port → wire.traffic ≡ waiting_on 4096 [] → HasCarried 0 line wire
carried_none line wire opening held unused = record {
  opening = opening;
  came = ap (λ (t : Traffic). t.came) unused;
  went = ap (λ (t : Traffic). t.went) unused;
  held = ap (λ (t : Traffic). t.held) unused;
  room = ap (λ (t : Traffic). t.room) unused;
  joins = record { bytes = opening.went ∙ sym held ∙ ap (λ (t : Traffic). t.came ++ t.waiting ++ [] ++ line.port.link.traffic.held) (sym unused) };
  count_is = (let a = ap (λ (xs : List ℕ). length xs) held in let b = length-spelling (hello_of line.port) in omega (arith, a, b));
}

-- as many bytes wait as were carried
waits : (count : ℕ) (line : Line) (wire : SureView) → HasCarried count line wire → length wire.traffic.waiting ≡ count
waits count line wire h =
    let all = ap (λ (xs : List ℕ). length xs) (sym h.opening.went ∙ h.joins.bytes ∙ ap (λ (xs : List ℕ). xs ++ wire.traffic.waiting ++ [] ++ line.port.link.traffic.held) h.came) in
    let a = length-append (wire.traffic.waiting ++ []) line.port.link.traffic.held in
    let b = length-append wire.traffic.waiting [] in
    let size = length-spelling (hello_of line.port) in
    omega (arith, all, a, b, size, h.count_is)

-- a piece goes on: some bytes, as long as some are left
pub carried_more : (count k m : ℕ) (line : Line) (port : PortView SureView) (between up : Queue) (wire wire' : SureView) → HasCarried count line wire → count < 18
    → Drains most_sure bearing_sure k line.port.link port.link line.up between → port ≡ record line.port { link = port.link } → IsPort port
    → m ≡ min 65536 (min (length between.bytes) (left_in wire.traffic)) → wire'.traffic ≡ filled (take m between.bytes) wire.traffic → up ≡ without m between
    → HasCarried (count + m) (record { port = port; up = up; down = line.down }) wire' × (0 < m)
carried_more count k m line port between up wire wire' h less drains rest kept moved told up_is =
    let o = h.opening in
    let t = line.port.link.traffic in
    let shut = open_port line.port o.port_is o.open_port in
    let empty = ap (λ (xs : List ℕ). length xs) o.up in
    let k_is : k ≡ min 65536 (min (length t.held) (free line.up)) = drains.value shut in
    let taken = length-take k t.held in
    let here : between.bytes ≡ take k t.held = ap (λ (x : Queue). x.bytes) drains.pipe ∙ ap (λ (xs : List ℕ). xs ++ take k t.held) o.up in
    let size = ap (λ (xs : List ℕ). length xs) here in
    let waiting = waits count line wire h in
    let some_k : 0 < k = omega (arith, k_is, h.count_is, less, o.room_up, empty) in
    let size_k : length between.bytes ≡ k = omega (arith, size, taken, k_is) in
    let all : m ≡ k = omega (arith, moved, size_k, k_is, h.room, waiting, h.count_is) in
    let none : drop m between.bytes ≡ [] = none_of (drop m between.bytes) (let l = length-drop m between.bytes in omega (arith, l, size_k, all)) in
    let traffic : port.link.traffic ≡ drained k t = ap (λ (l : LinkView SureView). l.traffic) drains.wire in
    let same : hello_of port ≡ hello_of line.port = ap₂ (λ (r : PortView SureView) (v : ℕ). hello_of (record r { link = record line.port.link { version = v } })) rest (ap (λ (l : LinkView SureView). l.version) drains.wire) in
    let same_bytes : hello_in line.port ≡ hello_in port = ap (λ (fr : Frame). spelling 1 fr) (sym same) in
    let joins : Joins (drained k t) (filled (take m between.bytes) wire.traffic) [] =
    subst (λ (xs : List ℕ). Joins (drained k t) (filled (take m between.bytes) wire.traffic) xs) none (joins-filled (drained k t) wire.traffic between.bytes m (subst (λ (xs : List ℕ). Joins (drained k t) wire.traffic xs) (sym here) (joins-drained t wire.traffic [] k h.joins))) in (
      record {
        opening = record {
          port_is = kept;
          open_port = ap (λ (r : PortView SureView). r.course) rest ∙ o.open_port;
          run = ap (λ (r : PortView SureView). r.run) rest ∙ o.run;
          trail = ap (λ (r : PortView SureView). r.monitor.trail) rest ∙ o.trail;
          tells = ap (λ (l : LinkView SureView). l.tells) drains.wire ∙ o.tells;
          sure = subst (λ (l : LinkView SureView). IsSure l.counts) (sym drains.wire) o.sure;
          hello = subst (λ (fr : Frame). IsSpelling 1 fr (spelling 1 fr)) (sym same) o.hello;
          went = ap (λ (x : Traffic). x.went) traffic ∙ o.went ∙ same_bytes;
          came = ap (λ (x : Traffic). x.came) traffic ∙ o.came;
          waiting = ap (λ (x : Traffic). x.waiting) traffic ∙ o.waiting;
          room = subst (λ (x : Traffic). 0 < x.room) (sym traffic) o.room;
          up = ap (λ (x : Queue). x.bytes) up_is ∙ none;
          down = o.down;
          room_up = (let r = ap (λ (x : Queue). x.room) up_is ∙ ap (λ (x : Queue). x.room) drains.pipe in omega (arith, r, o.room_up));
          room_down = o.room_down;
        };
        came = ap (λ (x : Traffic). x.came) told ∙ h.came;
        went = ap (λ (x : Traffic). x.went) told ∙ h.went;
        held = ap (λ (x : Traffic). x.held) told ∙ h.held;
        room = ap (λ (x : Traffic). x.room) told ∙ h.room;
        joins = subst (λ (x : Traffic). Joins port.link.traffic x []) (sym told) (subst (λ (x : Traffic). Joins x (filled (take m between.bytes) wire.traffic) []) (sym traffic) joins);
        count_is = (let l = ap (λ (x : Traffic). length x.held) traffic in let e = length-drop k t.held in omega (arith, l, e, all, k_is, h.count_is));
      },
      omega (arith, all, some_k),
    )

-- in one version, over the same pipes
pub stays_over : (k m piece version : ℕ) (line : Line) (port : PortView SureView) (between up : Queue) → Drains most_sure bearing_sure k line.port.link port.link line.up between → up ≡ without m between → IsOver piece version line → IsOver piece version (record { port = port; up = up; down = line.down })
stays_over k m piece version line port between up drains up_is over = record {
  version_is = ap (λ (l : LinkView SureView). l.version) drains.wire ∙ over.version_is;
  up = ap (λ (x : Queue). x.room) up_is ∙ ap (λ (x : Queue). x.room) drains.pipe ∙ over.up;
  down = over.down;
}

-- in the end all of it waits
pub carried_all : (count : ℕ) (line : Line) (wire : SureView) → HasCarried count line wire → 18 ≤ count → (line.port.link.traffic.held ≡ []) × (wire.traffic ≡ waiting_on 4096 (hello_in line.port))
carried_all count line wire h all =
    let given : line.port.link.traffic.held ≡ [] = none_of line.port.link.traffic.held (omega (arith, h.count_is, all)) in
    let waiting : wire.traffic.waiting ≡ hello_in line.port =
    sym (append-nil wire.traffic.waiting) ∙ sym (append-nil (wire.traffic.waiting ++ []))
    ∙ ap₂ (λ (a b : List ℕ). a ++ wire.traffic.waiting ++ [] ++ b) (sym h.came) (sym given) ∙ sym h.joins.bytes ∙ h.opening.went in (
      given,
      ap₂ (λ (a b : List ℕ). record { came = a; waiting = b; went = wire.traffic.went; held = wire.traffic.held; room = wire.traffic.room }) h.came waiting
          ∙ ap₂ (λ (a b : List ℕ). record { came = []; waiting = hello_in line.port; went = a; held = b; room = wire.traffic.room }) h.went h.held
          ∙ ap (λ (n : ℕ). waiting_on n (hello_in line.port)) h.room,
    )
